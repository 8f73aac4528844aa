-- The pairs that are left in a prepared array, and the chains of its buckets.
-- Assumes nothing.
use Rattle.std.specs.Prelude.{Some, None}
use Prim.Native.Nat.{ℕ, zero, suc, ◌+◌, ◌*◌, ◌≤◌, ◌<◌}
use mathlib.Core.Path.{◌≡◌, refl, sym, ap, ◌∙◌}
use mathlib.Core.Bool.{Bool, true, false, ◌||◌, cond}
use mathlib.Core.List.{List, [], ◌∷◌, ◌++◌, append-nil}
use lib.ListN.{length, get_or-eq_default}
use lib.Dec.{eqb, ltb}
use native.Mathlib.Omega.{arith}
use borrow.Author.Tests.{eqb-true, eqb-false, ltb-true, ltb-false, eq-eqb}
use Rattle.cells.specs.ByPlace.{by-test}
use Rattle.bindings.specs.Binding.{Binding, same, has}
use Rattle.bindings.specs.Used.{without}
use Rattle.bindings.specs.OuterPairs.{pair_in, link_of, still_left, is_pair, left_below, left_in, scan_below, scan, OnChain, here, next}
use Rattle.bindings.proofs.Distinct.{clash, or-false, has-append, without-append}

or-true : (x : Bool) → x || true ≡ true
or-true true = refl
or-true false = refl

-- ---- which pairs are left
module _ (cells : List ℕ) where
  pub left-inside : (k : ℕ) → still_left cells k ≡ true → 5 * k + 2 < length cells
  unfolding still_left
  left-inside k e =
      by-test (ltb (5 * k + 2) (length cells)) (λ l. ltb-true _ _ l)
      (λ l. clash (still_left cells k) e (rw (eq-eqb _ _ (get_or-eq_default cells 0 (ltb-false _ _ l)))))

  pub pair_left : (a : Binding) (k : ℕ) → is_pair cells a k ≡ true → still_left cells k ≡ true
  unfolding is_pair
  pair_left a k e = by-test (still_left cells k) (λ l. l) (λ l. clash false (rw l at e) refl)

  pub pair_same : (a : Binding) (k : ℕ) → is_pair cells a k ≡ true → same (pair_in cells k) a ≡ true
  unfolding is_pair
  pair_same a k e = rw (pair_left a k e) at e

  pub pair_is : (a : Binding) (k : ℕ) → still_left cells k ≡ true → same (pair_in cells k) a ≡ true → is_pair cells a k ≡ true
  unfolding is_pair
  pair_is a k l e = rw l e

  -- what record k adds
  adds : (k : ℕ) (a : Binding) → has (cond (still_left cells k) (pair_in cells k ∷ []) []) a ≡ is_pair cells a k
  unfolding is_pair has
  adds k a = by-test (still_left cells k) (λ l. rw l (or-false (same (pair_in cells k) a))) (λ l. rw l)

  below_suc : (k : ℕ) (a : Binding) → has (left_below cells (suc k)) a ≡ has (left_below cells k) a || is_pair cells a k
  unfolding left_below
  below_suc k a =
      has-append (left_below cells k) (cond (still_left cells k) (pair_in cells k ∷ []) []) a ∙ ap (λ r. has (left_below cells k) a || r) (adds k a)

  below_none : (a : Binding) → ((k : ℕ) → is_pair cells a k ≡ false) → (n : ℕ) → has (left_below cells n) a ≡ false
  unfolding left_below has
  below_none a none zero = refl
  below_none a none (suc k) = below_suc k a ∙ rw (none k, below_none a none k)

  below-some : (a : Binding) (q : ℕ) → is_pair cells a q ≡ true → (n : ℕ) → q < n → has (left_below cells n) a ≡ true
  below-some a q e zero h = absurd (omega arith)
  below-some a q e (suc k) h =
      below_suc k a
      ∙ by-test (eqb q k)
      (λ s. let z : is_pair cells a k ≡ true = rw (eqb-true q k s) at e in rw z (or-true (has (left_below cells k) a)))
      (λ s. let n : q ≡ k → ⊥ = eqb-false q k s in rw (below-some a q e k (omega arith)))

  pub left-none : (a : Binding) → ((k : ℕ) → is_pair cells a k ≡ false) → has (left_in cells) a ≡ false
  unfolding left_in
  left-none a none = below_none a none (length cells)

  pub left-some : (a : Binding) (q : ℕ) → is_pair cells a q ≡ true → has (left_in cells) a ≡ true
  unfolding left_in
  left-some a q e = below-some a q e (length cells) (omega (arith, left-inside q (pair_left a q e)))

  not-one : (k : ℕ) → still_left cells k ≡ false → left_below cells (suc k) ≡ left_below cells k
  unfolding left_below
  not-one k e = rw (e, append-nil)

  -- where none is left from m on
  pub below_more : (m : ℕ) → ((k : ℕ) → m ≤ k → still_left cells k ≡ false) → (n : ℕ) → m ≤ n → left_below cells n ≡ left_below cells m
  below_more m none zero h = ap (left_below cells) (omega arith)
  below_more m none (suc k) h =
      by-test (eqb m (suc k))
      (λ e. ap (left_below cells) (sym (eqb-true _ _ e)))
      (λ e. let n : m ≡ suc k → ⊥ = eqb-false _ _ e in not-one k (none k (omega arith)) ∙ below_more m none k (omega arith))

-- ---- what a scan finds
module _ (cells : List ℕ) (a : Binding) where
  none_below : ((k : ℕ) → is_pair cells a k ≡ false) → (n : ℕ) → scan_below cells a n ≡ None
  unfolding scan_below
  none_below none zero = refl
  none_below none (suc k) = rw (none k) (none_below none k)

  one_below : (q : ℕ) → is_pair cells a q ≡ true → ((k : ℕ) → is_pair cells a k ≡ true → k ≡ q) → (n : ℕ) → q < n → scan_below cells a n ≡ Some q
  unfolding scan_below
  one_below q e alone zero h = absurd (omega arith)
  one_below q e alone (suc k) h =
      by-test (is_pair cells a k)
      (λ t. rw t (ap Some (alone k t)))
      (λ t. by-test (eqb q k)
      (λ s. clash (is_pair cells a k) (rw (eqb-true q k s) at e) t)
      (λ s. let n : q ≡ k → ⊥ = eqb-false q k s in rw t (one_below q e alone k (omega arith))))

  found_below : (n k : ℕ) → scan_below cells a n ≡ Some k → is_pair cells a k ≡ true
  unfolding scan_below
  found_below zero k e = cc
  found_below (suc j) k e =
      by-test (is_pair cells a j)
      (λ t. let z : Some j ≡ Some k = rw t at e in let y : j ≡ k = cc in rw y at t)
      (λ t. found_below j k (rw t at e))

  lacks-below : (n : ℕ) → scan_below cells a n ≡ None → (j : ℕ) → j < n → is_pair cells a j ≡ false
  unfolding scan_below
  lacks-below zero e j h = absurd (omega arith)
  lacks-below (suc k) e j h =
      by-test (is_pair cells a k)
      (λ t. let z : Some k ≡ None = rw t at e in cc)
      (λ t. by-test (eqb j k)
      (λ s. rw (← eqb-true j k s) at t)
      (λ s. let n : j ≡ k → ⊥ = eqb-false j k s in lacks-below k (rw t at e) j (omega arith)))

  pub scan-none : ((k : ℕ) → is_pair cells a k ≡ false) → scan cells a ≡ None
  unfolding scan
  scan-none none = none_below none (length cells)

  pub scan-one : (q : ℕ) → is_pair cells a q ≡ true → ((k : ℕ) → is_pair cells a k ≡ true → k ≡ q) → scan cells a ≡ Some q
  unfolding scan
  scan-one q e alone = one_below q e alone (length cells) (omega (arith, left-inside cells q (pair_left cells a q e)))

  pub scan-found : (k : ℕ) → scan cells a ≡ Some k → is_pair cells a k ≡ true
  unfolding scan
  scan-found k e = found_below (length cells) k e

  pub scan-lacks : scan cells a ≡ None → (j : ℕ) → is_pair cells a j ≡ false
  unfolding scan
  scan-lacks e j =
      by-test (is_pair cells a j)
      (λ t. clash (is_pair cells a j) t (lacks-below (length cells) e j (omega (arith, left-inside cells j (pair_left cells a j t)))))
      (λ t. t)

-- ---- two arrays that have the same pairs left below n
module _ (cells cells' : List ℕ) where
  pub below-same : (n : ℕ) → ((k : ℕ) → k < n → still_left cells' k ≡ still_left cells k) → ((k : ℕ) → k < n → pair_in cells' k ≡ pair_in cells k)
      → left_below cells' n ≡ left_below cells n
  unfolding left_below
  below-same zero l p = refl
  below-same (suc k) l p =
      rw (l k (omega arith), p k (omega arith), below-same k (λ j h. l j (omega arith)) (λ j h. p j (omega arith)))

  -- all but the pair a, which stands at q alone
  pub below-without : (a : Binding) (q : ℕ) → is_pair cells a q ≡ true → ((k : ℕ) → is_pair cells a k ≡ true → k ≡ q)
      → still_left cells' q ≡ false → ((k : ℕ) → (k ≡ q → ⊥) → still_left cells' k ≡ still_left cells k) → ((k : ℕ) → pair_in cells' k ≡ pair_in cells k)
      → (n : ℕ) → left_below cells' n ≡ without a (left_below cells n)
  unfolding left_below without
  below-without a q e alone gone l p zero = refl
  below-without a q e alone gone l p (suc k) =
      rw (below-without a q e alone gone l p k)
      (ap (λ r. without a (left_below cells k) ++ r)
      (by-test (eqb k q)
      (λ s. let z : k ≡ q = eqb-true k q s in rw (z, gone, pair_left cells a q e, pair_same cells a q e))
      (λ s. let n : k ≡ q → ⊥ = eqb-false k q s in
      rw (l k n, p k)
      (by-test (still_left cells k)
      (λ i. rw i (by-test (same (pair_in cells k) a) (λ o. absurd (n (alone k (pair_is cells a k i o)))) (λ o. rw o)))
      (λ i. rw i))))
      ∙ sym (without-append a (left_below cells k) (cond (still_left cells k) (pair_in cells k ∷ []) [])))

-- ---- chains
module _ (cells : List ℕ) (k : ℕ) where
  pub chain-end : {c : ℕ} → OnChain cells c k → c ≡ 0 → ⊥
  chain-end here e = omega arith
  chain-end (next o) e = omega arith

  pub chain_next : {c : ℕ} → OnChain cells c k → (q : ℕ) → c ≡ suc q → (k ≡ q → ⊥) → OnChain cells (link_of cells q) k
  chain_next here q e n = absurd (n (omega arith))
  chain_next (next {q = p} o) q e n = let z : p ≡ q = omega arith in rw z at o

  pub chain-kept : (cells' : List ℕ) (m : ℕ) → ((q : ℕ) → q < m → link_of cells' q ≡ link_of cells q) → ((q : ℕ) → link_of cells q ≤ q)
      → {c : ℕ} → OnChain cells c k → c ≤ m → OnChain cells' c k
  chain-kept cells' m alike back here h = here
  chain-kept cells' m alike back (next {q = q} o) h =
      next {q = q} {k = k} (rw (alike q (omega arith)) (chain-kept cells' m alike back o (omega (arith, back q))))
