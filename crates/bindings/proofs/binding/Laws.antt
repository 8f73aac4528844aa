-- Laws of `Binding` and `BindingAnswer`, one for each way through the code.
-- Assumes nothing.
use Rattle.std.specs.Prelude.{Option, Some, None}
use Prim.Native.Nat.{ℕ, suc, ◌+◌, ◌-◌, ◌≤◌, ◌<◌}
use mathlib.Core.Path.{◌≡◌, refl}
use mathlib.Core.Bool.{Bool, true, false, ◌&&◌}
use mathlib.Core.List.{List, [], ◌∷◌}
use lib.ListN.{length, get_or, take, drop, drop_of_length-le}
use lib.Seq.{drop-cons, take_all}
use lib.Dec.{eqb, ltb}
use native.Mathlib.Omega.{arith}
use native.Mathlib.Numerals.{add-one}
use borrow.Author.Tests.{eqb-true, ltb-true, ltb-false}
use Rattle.cells.specs.ByPlace.{by-test}
use Rattle.bindings.specs.Binding.{Binding, bindings_of, same, has, first_of}
use Rattle.bindings.specs.BindingAnswer.{pair, binding, pair_at, name_of}
use Rattle.cells.specs.declared.variable.Variable.{Variable}

-- ---- two pairs
-- the code's `==` of two variables
pub same-variables : (v w : Variable) (r : Bool) → r ≡ (eqb v.name w.name && eqb v.sort.0 w.sort.0) → r ≡ same (binding v) (binding w)
unfolding same
same-variables v w r e = e

same-pairs : (n s m t : ℕ) → n ≡ m → s ≡ t → pair n s ≡ pair m t
same-pairs n s m t p q = rw (p, q)

pub same-is : (a b : Binding) → same a b ≡ true → a ≡ b
unfolding same
same-is a b e =
    by-test (eqb a.name b.name)
    (λ o. same-pairs _ _ _ _ (eqb-true _ _ o) (eqb-true a.sort b.sort (rw o at e)))
    (λ o. let z : false ≡ true = rw o at e in absurd (let n : ◌≡◌ {A = ℕ} 0 1 = cc in omega arith))

-- ---- the pairs of a run from i on
pub pairs_end : (l : List ℕ) (i : ℕ) → length l - i < 2 → bindings_of (drop i l) ≡ []
unfolding bindings_of
pairs_end l i h =
    by-test (ltb i (length l))
    (λ e. let below : i < length l = ltb-true _ _ e in rw (drop-cons l i 0 below, drop_of_length-le l {i = suc i} (omega arith)))
    (λ e. let past : length l ≤ i = ltb-false _ _ e in rw (drop_of_length-le l past))

pub pairs_next : (l : List ℕ) (i : ℕ) → 2 ≤ length l - i → bindings_of (drop i l) ≡ pair_at l i ∷ bindings_of (drop (i + 2) l)
unfolding bindings_of
pairs_next l i h =
    let after : suc (i + 1) ≡ i + 2 = omega arith in
    rw (drop-cons l i 0 (omega arith), drop-cons l (suc i) 0 (omega arith), ← add-one i, after)

-- ---- what an iterator over a run has left
pub pairs_none : (l : List ℕ) → length l < 2 → bindings_of l ≡ []
unfolding bindings_of
pairs_none [] h = refl
pairs_none (a ∷ []) h = refl
pairs_none (a ∷ (s ∷ l)) h = absurd (omega arith)

pub pairs_one : (l : List ℕ) → 2 ≤ length l → bindings_of l ≡ pair (get_or l 0 0) (get_or l 1 0) ∷ bindings_of (take (length l - 2) (drop 2 l))
unfolding bindings_of
pairs_one [] h = absurd (omega arith)
pairs_one (a ∷ []) h = absurd (omega arith)
pairs_one (a ∷ (s ∷ l)) h =
    let e : suc (suc (length l)) - 2 ≡ length l = omega arith in
    rw (e, take_all (length l) l (omega arith))

-- ---- a pair in a list: w says whether it is among those that are left
module _ (w : Bool) (left : List Binding) (a : Binding) (inv : w ≡ has left a) where
  pub has_end : left ≡ [] → false ≡ w
  unfolding has
  has_end e = rw (inv, e)

  module _ (b : Binding) (rest : List Binding) (is : left ≡ b ∷ rest) (r : Bool) (says : r ≡ same b a) where
    pub has_here : r ≡ true → true ≡ w
    unfolding has
    has_here e = rw (inv, is, ← says, e)

    pub has-next : r ≡ false → w ≡ has rest a
    unfolding has
    has-next e = rw (inv, is, ← says, e)

-- ---- the first pair that passes a test: w is the first of those that are left
module _ (w : Option ℕ) (test : Binding → Bool) (left : List Binding) (inv : w ≡ name_of (first_of test left)) where
  pub first-end : left ≡ [] → None ≡ w
  unfolding first_of name_of
  first-end e = rw (inv, e)

  module _ (b : Binding) (rest : List Binding) (is : left ≡ b ∷ rest) (r : Bool) (says : r ≡ test b) where
    pub first-here : r ≡ true → Some b.name ≡ w
    unfolding first_of name_of
    first-here e = rw (inv, is, ← says, e)

    pub first_next : r ≡ false → w ≡ name_of (first_of test rest)
    unfolding first_of name_of
    first_next e = rw (inv, is, ← says, e)

pub ruleset first = (first-end, first-here, first_next)
