-- Laws of `Used`, one for each way through the code.
-- Assumes nothing.
use Prim.Native.Nat.{ℕ, zero, suc, ◌+◌, ◌≤◌, ◌<◌}
use mathlib.Core.Path.{◌≡◌, refl, sym, ap, ◌∙◌}
use mathlib.Core.Bool.{Bool, true, false, ◌||◌}
use mathlib.Core.List.{List, [], ◌∷◌, ◌++◌, append-nil}
use lib.ListN.{length, get_or, take, drop, set, replicate, take-append-drop, drop_of_length-le}
use lib.Seq.{drop-cons, take_all, take-suc-set, drop-set-lt, append_snoc}
use lib.Dec.{eqb}
use native.Mathlib.Omega.{arith}
use native.Mathlib.Numerals.{add-one}
use borrow.Author.Tests.{eq-eqb, ne_eqb}
use Rattle.cells.specs.ByPlace.{by-test}
use Rattle.answers.specs.Outcome.{Outcome, pass, refuse, ◌>>◌, guard}
use Rattle.bindings.specs.Binding.{Binding, same, has}
use Rattle.bindings.proofs.Distinct.{clash, or_assoc, or-false}
use Rattle.bindings.specs.Used.{without, use_all, left_of, is_left, mark_of, Uses}

-- ---- a pair of the outer list against the one that is used
module _ (mark : ℕ) (b a : Binding) where
  pub pair-used : (mark ≡ 0 → ⊥) → eqb mark 0 ≡ is_left a mark b
  unfolding is_left
  pair-used h = rw (ne_eqb _ _ h)

  pub pair_left : mark ≡ 0 → (r : Bool) → r ≡ same b a → r ≡ is_left a mark b
  unfolding is_left
  pair_left z r is = rw (eq-eqb _ _ z) is

  pub mark-same : (r : Bool) → r ≡ same b a → r ≡ true → 1 ≡ mark_of a mark b
  unfolding mark_of
  mark-same r is e = rw (← is, e)

  pub mark-other : (r : Bool) → r ≡ same b a → r ≡ false → mark ≡ mark_of a mark b
  unfolding mark_of
  mark-other r is e = rw (← is, e)

-- ---- the marks and the pairs from a place on, the first one tested
left-nil : (used : List ℕ) → left_of used [] ≡ []
unfolding left_of
left-nil [] = refl
left-nil (m ∷ ms) = refl

has-step : (a : Binding) (m : ℕ) (b : Binding) (ms : List ℕ) (bs : List Binding) → has (left_of (m ∷ ms) (b ∷ bs)) a ≡ is_left a m b || has (left_of ms bs) a
unfolding left_of is_left has
has-step a m b ms bs = by-test (eqb m 0) (λ e. rw e) (λ e. rw e)

-- the marks once a is used
unfoldable pub marked : Binding → List ℕ → List Binding → List ℕ
marked a [] bs = []
marked a (m ∷ ms) [] = m ∷ ms
marked a (m ∷ ms) (b ∷ bs) = mark_of a m b ∷ marked a ms bs

marked-nil : (a : Binding) (used : List ℕ) → marked a used [] ≡ used
unfolding marked
marked-nil a [] = refl
marked-nil a (m ∷ ms) = refl

-- ---- what is left once a is used
left-marked : (a : Binding) (used : List ℕ) (bs : List Binding) → left_of (marked a used bs) bs ≡ without a (left_of used bs)
unfolding left_of marked mark_of without
left-marked a [] bs = refl
left-marked a (m ∷ ms) [] = refl
left-marked a (m ∷ ms) (b ∷ bs) =
    by-test (same b a)
    (λ s. by-test (eqb m 0) (λ e. rw (s, e, s) (left-marked a ms bs)) (λ e. rw (s, e) (left-marked a ms bs)))
    (λ s. by-test (eqb m 0) (λ e. rw (s, e, s) (ap (◌∷◌ b) (left-marked a ms bs))) (λ e. rw (s, e) (left-marked a ms bs)))

without-none : (a : Binding) (bs : List Binding) → has bs a ≡ false → without a bs ≡ bs
unfolding has without
without-none a [] e = refl
without-none a (b ∷ bs) e =
    by-test (same b a)
    (λ s. clash true refl (rw s at e))
    (λ s. rw s (ap (◌∷◌ b) (without-none a bs (rw s at e))))

-- ---- one pass: the pairs before k are tested and marked, and `was` says whether a was left among them; those in `left`, and the marks
-- from k on, are as they were
pub record Using (a : Binding) (outer : List Binding) (before used : List ℕ) (k : ℕ) (left : List Binding) (was : Bool) : Type 0 where
  pub found : has (left_of before outer) a ≡ was || has (left_of (drop k used) left) a
  pub marks : marked a before outer ≡ take k used ++ marked a (drop k used) left

pub use-start : (a : Binding) (outer : List Binding) (used : List ℕ) → Using a outer used used 0 outer false
use-start a outer used = record { found = refl; marks = refl }

module _ (a : Binding) (outer : List Binding) (before used : List ℕ) (k : ℕ) (left : List Binding) (was : Bool) (s : Using a outer before used k left was) where
  uses : has (left_of before outer) a ≡ was → marked a before outer ≡ used → Uses a outer before was used
  uses e m = record {
    was = sym e;
    rest = ap (λ l. left_of l outer) (sym m) ∙ left-marked a before outer
        ∙ by-test was (λ t. rw t) (λ t. rw t (without-none a (left_of before outer) (e ∙ t)));
  }

  pub use-end : length used ≤ k → Uses a outer before was used
  unfolding left_of marked has
  use-end h = uses (rw (s.found, drop_of_length-le used h, or-false was)) (rw (s.marks, drop_of_length-le used h, take_all k used h, append-nil))

  pub use-odd : left ≡ [] → Uses a outer before was used
  unfolding has
  use-odd e = uses (rw (s.found, e, left-nil, or-false was)) (rw (s.marks, e, marked-nil, take-append-drop))

  pub use-next : k < length used → (b : Binding) (rest : List Binding) → left ≡ b ∷ rest → (r : Bool) → r ≡ is_left a (get_or used k 0) b
      → (m : ℕ) → m ≡ mark_of a (get_or used k 0) b → Using a outer before (set used k m) (k + 1) rest (was || r)
  unfolding marked
  use-next h b rest one r is m mark = record {
    found = rw (s.found, drop-cons used k 0 h, one, has-step, ← is, add-one k, drop-set-lt (suc k) used k m (omega arith)) (sym (or_assoc was r _));
    marks = rw (s.marks, drop-cons used k 0 h, one, ← mark, add-one k, take-suc-set used k m h, drop-set-lt (suc k) used k m (omega arith), append_snoc);
  }

-- ---- an inner list used: w is what its pairs that are left to use do to the outer ones that are left
module _ (w : Outcome (List Binding)) (inner : List Binding) (outer : List Binding) (used : List ℕ) (inv : w ≡ use_all inner (left_of used outer)) where
  pub all_end : inner ≡ [] → w ≡ pass (left_of used outer)
  unfolding use_all
  all_end e = rw (inv, e)

  module _ (a : Binding) (rest : List Binding) (one : inner ≡ a ∷ rest) (r : Bool) (after : List ℕ) (u : Uses a outer used r after) where
    pub all_new : r ≡ false → w ≡ refuse 8 a.name 0
    unfolding use_all ◌>>◌ guard
    all_new e = rw (inv, one, ← u.was, e)

    pub all-next : r ≡ true → w ≡ use_all rest (left_of after outer)
    unfolding use_all ◌>>◌ guard
    all-next e = rw (inv, one, ← u.was, u.rest, e)

-- ---- with no pair used, every pair is left
pub all_left : (k : ℕ) (bs : List Binding) → length bs ≤ k → left_of (replicate k 0) bs ≡ bs
unfolding left_of
all_left zero [] h = refl
all_left zero (b ∷ bs) h = absurd (omega arith)
all_left (suc k) [] h = refl
all_left (suc k) (b ∷ bs) h = ap (◌∷◌ b) (all_left k bs (omega arith))
