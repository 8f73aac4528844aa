-- Laws of `Headers`: a walk over the headers, one law for each way out and one for a turn.
-- Assumes nothing.
use Prim.Native.Nat.{ℕ, zero, suc, ◌+◌, ◌-◌, ◌≤◌, ◌<◌}
use mathlib.Core.Path.{◌≡◌, refl, sym}
use mathlib.Core.Bool.{Bool, true, false}
use mathlib.Core.List.{List}
use lib.ListN.{get_or}
use lib.Dec.{leb}
use native.Mathlib.Omega.{arith}
use borrow.Author.Tests.{le-leb, lt-leb, leb-false}
use Rattle.cells.specs.ByPlace.{by-test}
use Rattle.cells.specs.Headers.{first_in, first_from, first_header}
use Rattle.std.specs.Prelude.{Option, Some, None}
use Rattle.cells.proofs.Bounds.{no_more, one_more}

module _ (values : List ℕ) (n : ℕ) (test : ℕ → Bool) where
  -- more headers than there are cells left change nothing
  fuel : (f g p : ℕ) → n - p ≤ f → n - p ≤ g → first_in values n test f p ≡ first_in values n test g p
  unfolding first_in
  fuel zero zero p hf hg = refl
  fuel zero (suc g) p hf hg = rw (le-leb n p (omega arith))
  fuel (suc f) zero p hf hg = rw (le-leb n p (omega arith))
  fuel (suc f) (suc g) p hf hg =
      by-test (leb n p) (λ e. rw e)
      (λ e. by-test (test p) (λ o. rw (e, o))
      (λ o. rw (e, o) (fuel f g (p + (1 + get_or values p 0)) (omega (arith, leb-false n p e)) (omega (arith, leb-false n p e)))))

  -- w is the first from p on; k is the number of cells of the header at p, and r says whether the test holds there
  module _ (w : Option ℕ) (p : ℕ) (inv : w ≡ first_from values n test p) where
    pub first-end : n ≤ p → None ≡ w
    unfolding first_from first_in
    first-end h = rw (inv, no_more n p h)

    module _ (h : p < n) (r : Bool) (is : r ≡ test p) where
      pub first-here : r ≡ true → Some p ≡ w
      unfolding first_from first_in
      first-here e = rw (inv, one_more n p h, lt-leb _ _ h, ← is, e)

      module _ (e : r ≡ false) (k : ℕ) (cells : k ≡ get_or values p 0) where
        pub first_next : w ≡ first_from values n test (p + (1 + k))
        unfolding first_from first_in
        first_next =
            rw (inv, one_more n p h, lt-leb _ _ h, ← is, e, ← cells)
            (fuel (n - (p + 1)) (n - (p + (1 + k))) (p + (1 + k)) (omega arith) (omega arith))

  -- what is found stands below n
  below_in : (f p q : ℕ) → first_in values n test f p ≡ Some q → q < n
  unfolding first_in
  below_in zero p q e = let z : ◌≡◌ {A = ℕ} 0 1 = cc in absurd (omega arith)
  below_in (suc f) p q e =
      by-test (leb n p)
      (λ o. let d : None ≡ Some q = rw o at e in let z : ◌≡◌ {A = ℕ} 0 1 = cc in absurd (omega arith))
      (λ o. by-test (test p)
      (λ y. let d : Some p ≡ Some q = rw (o, y) at e in let z : p ≡ q = cc in omega (arith, leb-false n p o))
      (λ y. below_in f (p + (1 + get_or values p 0)) q (rw (o, y) at e)))

  pub first_below : (q : ℕ) → first_header values n test ≡ Some q → q < n
  unfolding first_header first_from
  first_below q e = below_in (n - 0) 0 q e

-- a walk that finds nothing goes past each header
module _ (values : List ℕ) (n : ℕ) (test : ℕ → Bool) (p : ℕ) (h : p < n) (none : first_from values n test p ≡ None) where
  pub passes : test p ≡ false
  passes =
      by-test (test p)
      (λ o. let z : Some p ≡ None = first-here values n test None p (sym none) h true (sym o) refl in let y : ◌≡◌ {A = ℕ} 0 1 = cc in absurd (omega arith))
      (λ o. o)

  pub goes_on : first_from values n test (p + (1 + get_or values p 0)) ≡ None
  goes_on = sym (first_next values n test None p (sym none) h false (sym passes) refl (get_or values p 0) refl)

module _ (values : List ℕ) (n : ℕ) (test : ℕ → Bool) where
  holds-in : (f p q : ℕ) → first_in values n test f p ≡ Some q → test q ≡ true
  unfolding first_in
  holds-in zero p q e = let z : ◌≡◌ {A = ℕ} 0 1 = cc in absurd (omega arith)
  holds-in (suc f) p q e =
      by-test (leb n p)
      (λ o. let d : None ≡ Some q = rw o at e in let z : ◌≡◌ {A = ℕ} 0 1 = cc in absurd (omega arith))
      (λ o. by-test (test p)
      (λ y. let d : Some p ≡ Some q = rw (o, y) at e in let z : p ≡ q = cc in rw z at y)
      (λ y. holds-in f (p + (1 + get_or values p 0)) q (rw (o, y) at e)))

  pub found-holds : (q : ℕ) → first_header values n test ≡ Some q → test q ≡ true
  unfolding first_header first_from
  found-holds q = holds-in (n - 0) 0 q
