-- Laws of `Headers` as lists: what a walk has left, at its end and before a header; and the first header of a list that passes a test.
-- Assumes nothing.
use Prim.Native.Nat.{ℕ, zero, suc, ◌+◌, ◌-◌, ◌≤◌, ◌<◌, min}
use mathlib.Core.Path.{◌≡◌, refl, sym, ◌∙◌}
use mathlib.Core.Bool.{Bool, true, false}
use mathlib.Core.List.{List, [], ◌∷◌}
use lib.ListN.{get_or}
use lib.Dec.{leb}
use native.Mathlib.Omega.{arith}
use borrow.Author.Tests.{le-leb, lt-leb, leb-true, leb-false}
use Rattle.std.specs.Prelude.{All, Option, Some, None}
use Rattle.std.proofs.lemmas.List.Elements.{All-nil, All-cons, All-same}
use Rattle.cells.specs.ByPlace.{by-test}
use Rattle.cells.specs.Headers.{first_in, first_from, first_header, headers_in, headers_from}
use Rattle.std.specs.List.{find}
use Rattle.std.specs.Option.{option_map}
use Rattle.std.proofs.lemmas.Iterator.Adapters.{option_map_id}
use Rattle.cells.proofs.Bounds.{no_more, one_more}

module _ (values : List ℕ) (n : ℕ) where
  -- more headers than there are cells left change nothing
  fuel : (f g p : ℕ) → n - p ≤ f → n - p ≤ g → headers_in values n f p ≡ headers_in values n g p
  unfolding headers_in
  fuel zero zero p hf hg = refl
  fuel zero (suc g) p hf hg = rw (le-leb n p (omega arith))
  fuel (suc f) zero p hf hg = rw (le-leb n p (omega arith))
  fuel (suc f) (suc g) p hf hg =
      by-test (leb n p) (λ e. rw e)
      (λ e. rw (e, fuel f g (p + (1 + get_or values p 0)) (omega (arith, leb-false n p e)) (omega (arith, leb-false n p e))))

  pub none_left : (p : ℕ) → n ≤ p → headers_from values n p ≡ []
  unfolding headers_from headers_in
  none_left p h = rw (no_more n p h)

  -- k is the number of cells of the header at p, and `next` is where the walk goes on
  module _ (p : ℕ) (h : p < n) (k : ℕ) (cells : k ≡ get_or values p 0) where
    pub one_left : headers_from values n p ≡ p ∷ headers_from values n (p + 1 + k)
    unfolding headers_from headers_in
    one_left =
        let e : p + 1 + k ≡ p + (1 + k) = omega arith in
        rw (one_more n p h, lt-leb _ _ h, e, ← cells, fuel (n - (p + 1)) (n - (p + (1 + k))) (p + (1 + k)) (omega arith) (omega arith))

    -- where the sum is cut off at a number that is no less than n
    pub one_left_cut : (m : ℕ) → n ≤ m → headers_from values n p ≡ p ∷ headers_from values n (min (p + (1 + k)) m)
    one_left_cut m le =
        by-test (leb n (p + (1 + k)))
        (λ e. rw (one_left, none_left (p + 1 + k) (omega (arith, leb-true n (p + (1 + k)) e)), none_left (min (p + (1 + k)) m) (omega (arith, leb-true n (p + (1 + k)) e))))
        (λ e. let q : p + 1 + k ≡ min (p + (1 + k)) m = omega (arith, leb-false n (p + (1 + k)) e) in rw (one_left, q))

  -- where nothing is left, and where a header is
  pub left_end : (p : ℕ) → headers_from values n p ≡ [] → n ≤ p
  left_end p e =
      by-test (leb n p) (leb-true n p)
      (λ o. let h : p < n = leb-false n p o in
      let z : p ∷ headers_from values n (p + 1 + get_or values p 0) ≡ [] = rw (one_left p h (get_or values p 0) refl) at e in
      absurd (let y : ◌≡◌ {A = ℕ} 0 1 = cc in omega arith))

  module _ (p q : ℕ) (rest : List ℕ) (e : headers_from values n p ≡ q ∷ rest) where
    pub left_before : p < n
    left_before =
        by-test (leb n p)
        (λ o. let z : [] ≡ q ∷ rest = rw (none_left p (leb-true n p o)) at e in absurd (let y : ◌≡◌ {A = ℕ} 0 1 = cc in omega arith))
        (leb-false n p)

    both : p ∷ headers_from values n (p + 1 + get_or values p 0) ≡ q ∷ rest
    both = rw (one_left p left_before (get_or values p 0) refl) at e

    pub left_place : q ≡ p
    left_place = cc (both)

    pub left_rest : rest ≡ headers_from values n (p + (1 + get_or values p 0))
    left_rest =
        let z : rest ≡ headers_from values n (p + 1 + get_or values p 0) = cc (both) in
        let a : p + 1 + get_or values p 0 ≡ p + (1 + get_or values p 0) = omega arith in
        rw (← a) z

  below_in : (f p : ℕ) → All (λ q. q < n) (headers_in values n f p)
  unfolding headers_in
  below_in zero p = All-nil _
  below_in (suc f) p =
      by-test (leb n p)
      (λ e. All-same (λ q. q < n) _ [] (rw e) (All-nil (λ q. q < n)))
      (λ e. All-same (λ q. q < n) _ (p ∷ headers_in values n f (p + (1 + get_or values p 0))) (rw e) (All-cons (λ q. q < n) p _ (leb-false n p e) (below_in f (p + (1 + get_or values p 0)))))

  pub all_below : (p : ℕ) → All (λ q. q < n) (headers_from values n p)
  unfolding headers_from
  all_below p = below_in (n - p) p

  that-in : (test : ℕ → Bool) (f p : ℕ) → first_in values n test f p ≡ find test (headers_in values n f p)
  unfolding first_in headers_in
  that-in test zero p = refl
  that-in test (suc f) p = by-test (leb n p) (λ e. rw e) (λ e. rw (e, that-in test f (p + (1 + get_or values p 0))))

  -- the first header of the pool that passes is the first of the list of its headers
  pub first-is : (test : ℕ → Bool) → first_header values n test ≡ find test (headers_from values n 0)
  unfolding first_header first_from headers_from
  first-is test = that-in test (n - 0) 0

-- what `find` gives over the headers of the pool
pub header-found : (values : List ℕ) (n : ℕ) (test : ℕ → Bool) (w : Option ℕ) → option_map (λ p. p) w ≡ find test (headers_from values n 0) → w ≡ first_header values n test
header-found values n test w e = sym (option_map_id w) ∙ e ∙ sym (first-is values n test)

-- w is the first that passes of what is left
module _ (w : Option ℕ) (test : ℕ → Bool) (left : List ℕ) (inv : w ≡ find test left) where
  pub that_end : left ≡ [] → None ≡ w
  that_end e = rw (inv, e)

  module _ (p : ℕ) (rest : List ℕ) (is : left ≡ p ∷ rest) (r : Bool) (says : r ≡ test p) where
    pub that_here : r ≡ true → Some p ≡ w
    that_here e = rw (inv, is, ← says, e)

    pub that_next : r ≡ false → w ≡ find test rest
    that_next e = rw (inv, is, ← says, e)
