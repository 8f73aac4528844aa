-- Rule 1, `qnt_join`.
-- 01: "form (2); quantifiers (3: left, its body, right); kinds (4); bodies (5); outer list then inner, adjacent equal pairs dropped, equals
-- the right list in order (7)."
-- The Rust's `dedup` drops other pairs: its join stands beside 01's here, for comparison alone. proofs/QntJoin.antt says where they agree.
-- Rests on answers' Outcome, on bindings' Binding, and on formulas' Formula and Pattern.
use Rattle.std.specs.Prelude.{ℕ, Bool, true, not, ◌&&◌, ◌||◌, cond, List, [], ◌∷◌, ◌++◌, eqb}
use Rattle.std.specs.Bool.{beq}
use Rattle.answers.specs.Outcome.{Outcome, ◌>>=◌, ◌>>◌, need, guard}
use Rattle.bindings.specs.Binding.{Binding, same, has, same_all}
use Rattle.formulas.specs.Pattern.{quantifier, equality}
use Rattle.formulas.specs.Formula.{quantifier_tag}

-- "adjacent equal pairs dropped": a pair that equals the one before it goes
unfoldable pub after_pair : Binding → List Binding → List Binding
after_pair a [] = []
after_pair a (b ∷ bs) = cond (same a b) (after_pair b bs) (b ∷ after_pair b bs)

unfoldable pub without_adjacent : List Binding → List Binding
without_adjacent [] = []
without_adjacent (a ∷ as') = a ∷ after_pair a as'

-- the Rust's `dedup`: a pair that equals any earlier one goes
unfoldable pub firsts_after : List Binding → List Binding → List Binding
firsts_after seen [] = []
firsts_after seen (a ∷ as') = cond (has seen a) (firsts_after seen as') (a ∷ firsts_after (a ∷ seen) as')

unfoldable pub firsts_only : List Binding → List Binding
firsts_only list = firsts_after [] list

-- outer and inner list joined
unfoldable pub joined : List Binding → List Binding → List Binding
joined outer inner = without_adjacent (outer ++ inner)

unfoldable pub joined_rust : List Binding → List Binding → List Binding
joined_rust outer inner = firsts_only (outer ++ inner)

-- a pair that equals an earlier one equals the one right before it: here a stands before the list, and `seen` before a
unfoldable pub adjacent_after : List Binding → Binding → List Binding → Bool
adjacent_after seen a [] = true
adjacent_after seen a (b ∷ bs) = (same a b || not (has seen b)) && adjacent_after (a ∷ seen) b bs

unfoldable pub repeats_adjacent : List Binding → Bool
repeats_adjacent [] = true
repeats_adjacent (a ∷ as') = adjacent_after [] a as'

unfoldable pub qnt_join : List ℕ → List ℕ → ℕ → Outcome (Unit {0})
qnt_join tags values x = do
  sides ← need 2 x 0 (equality tags values x)
  left ← need 3 sides.0 0 (quantifier tags values sides.0)
  inner ← need 3 left.body 0 (quantifier tags values left.body)
  right ← need 3 sides.1 0 (quantifier tags values sides.1)
  guard 4 (quantifier_tag left.kind) (quantifier_tag inner.kind) (beq left.kind inner.kind)
  guard 4 (quantifier_tag inner.kind) (quantifier_tag right.kind) (beq inner.kind right.kind)
  guard 5 inner.body right.body (eqb inner.body right.body)
  guard 7 sides.0 sides.1 (same_all (joined left.list inner.list) right.list)
