-- Rule 5's use of the outer pairs, "each outer pair used at most once, also where the outer list repeats it"; and which of them are left: a
-- mark for each pair of the outer list, 0 as long as the pair is left. A pair past the marks is not left.
-- Rests on answers' Outcome and on Binding.
use Rattle.std.specs.Prelude.{ℕ, ◌≡◌, Bool, ◌&&◌, cond, List, [], ◌∷◌, eqb}
use Rattle.answers.specs.Outcome.{Outcome, pass, ◌>>◌, guard}
use Rattle.bindings.specs.Binding.{Binding, same, has}

-- a list without a pair
unfoldable pub without : Binding → List Binding → List Binding
without a [] = []
without a (b ∷ bs) = cond (same b a) (without a bs) (b ∷ without a bs)

-- what is left of the outer pairs once a list has used its own: "8 new variable (name)" for one that is not left
unfoldable pub use_all : List Binding → List Binding → Outcome (List Binding)
use_all [] rest = pass rest
use_all (a ∷ as') rest = do
  guard 8 a.name 0 (has rest a)
  use_all as' (without a rest)

-- ---- marks
unfoldable pub left_of : List ℕ → List Binding → List Binding
left_of [] bs = []
left_of (m ∷ ms) [] = []
left_of (m ∷ ms) (b ∷ bs) = cond (eqb m 0) (b ∷ left_of ms bs) (left_of ms bs)

-- the pair b, with mark m, is left and equals a
unfoldable pub is_left : Binding → ℕ → Binding → Bool
is_left a m b = eqb m 0 && same b a

-- the mark of b, which was m, once a is used
unfoldable pub mark_of : Binding → ℕ → Binding → ℕ
mark_of a m b = cond (same b a) 1 m

-- r says whether a was left; then it is used, and otherwise nothing changes
pub record Uses (a : Binding) (outer : List Binding) (used : List ℕ) (r : Bool) (after : List ℕ) : Type 0 where
  pub was : r ≡ has (left_of used outer) a
  pub rest : left_of after outer ≡ cond r (without a (left_of used outer)) (left_of used outer)
