-- Check 16 over a whole pool that passes 14 and 15.
--     sorted-computed     where it finds nothing below m, every term below m states the sort of its tree
--     computed-sorted     where every term does, it finds nothing
--     wrong_first         what it finds is the first term that does not
-- Assumes nothing.
use Prim.Native.Nat.{ℕ, zero, suc, ◌+◌, ◌-◌, ◌≤◌, ◌<◌}
use mathlib.Core.Path.{◌≡◌, refl}
use mathlib.Core.Bool.{Bool, true, false, not, ◌&&◌}
use mathlib.Core.List.{List}
use Rattle.std.specs.Prelude.{Some, None}
use lib.ListN.{length, get_or}
use lib.Dec.{leb}
use native.Mathlib.Omega.{arith}
use borrow.Author.Tests.{leb-false, not-true, not-false}
use Rattle.cells.specs.ByPlace.{by-test}
use Rattle.cells.specs.Headers.{first_in, first_from, first_header}
use Rattle.headers.specs.WellFormed.{is_term_tag, first_bad}
use Rattle.descriptions.specs.Description.{first_repeat}
use Rattle.sorts.specs.SortRule.{states_sort, first_wrong_sort}
use Rattle.meaning.specs.Term.{stated}
use Rattle.meaning.specs.Tree.{tree}
use Rattle.meaning.specs.SortTree.{sort_of_term}
use Rattle.meaning.proofs.trees.Header.{both, term-tagged}
use Rattle.meaning.proofs.trees.Walk.{place-passes}
use Rattle.meaning.proofs.trees.SortRules.{states-computed, computed-states}

-- ---- a walk over headers
module _ (values : List ℕ) (n : ℕ) (test : ℕ → Bool) where
  -- a test that holds nowhere is found nowhere
  none_in : ((p : ℕ) → p < n → test p ≡ false) → (f p : ℕ) → first_in values n test f p ≡ None
  unfolding first_in
  none_in never zero p = refl
  none_in never (suc f) p =
      by-test (leb n p) (λ e. rw e) (λ e. rw (e, never p (leb-false n p e)) (none_in never f (p + (1 + get_or values p 0))))

  module _ (q : ℕ) where
    -- what is found stands below n, and passes the test
    found-in : (f p : ℕ) → first_in values n test f p ≡ Some q → (q < n) × (test q ≡ true)
    unfolding first_in
    found-in zero p e = let z : ◌≡◌ {A = ℕ} 0 1 = cc in absurd (omega arith)
    found-in (suc f) p e =
        by-test (leb n p)
        (λ o. let d : None ≡ Some q = rw o at e in let z : ◌≡◌ {A = ℕ} 0 1 = cc in absurd (omega arith))
        (λ o. by-test (test p)
        (λ y. let d : Some p ≡ Some q = rw (o, y) at e in let z : p ≡ q = cc in rw (← z) (leb-false n p o, y))
        (λ y. found-in f (p + (1 + get_or values p 0)) (rw (o, y) at e)))

    -- before it nothing is found
    before-in : (f g p : ℕ) → first_in values n test f p ≡ Some q → first_in values q test g p ≡ None
    unfolding first_in
    before-in f zero p e = refl
    before-in zero (suc g) p e = cc
    before-in (suc f) (suc g) p e =
        by-test (leb q p) (λ i. rw i)
        (λ i. by-test (leb n p)
        (λ o. let d : None ≡ Some q = rw o at e in cc)
        (λ o. by-test (test p)
        (λ y. let d : Some p ≡ Some q = rw (o, y) at e in let z : p ≡ q = cc in absurd (omega (arith, leb-false q p i)))
        (λ y. rw (i, y) (before-in f g (p + (1 + get_or values p 0)) (rw (o, y) at e)))))

-- ---- check 16
module _ (tags values rules : List ℕ) (n : ℕ) (whole : n ≤ length values) (formed : first_bad tags values n ≡ None) where
  -- the term at t states the sort of its tree
  abbrev pub Sorted : ℕ → Type 0
  Sorted t = sort_of_term rules (tree tags values t) ≡ Some (stated (tree tags values t))

  abbrev is_wrong : ℕ → Bool
  is_wrong t = is_term_tag (get_or tags t 0) && not (states_sort tags values rules t)

  pub sorted-computed : (m : ℕ) → m ≤ n → first_wrong_sort tags values rules m ≡ None → (t : ℕ) → t < m → is_term_tag (get_or tags t 0) ≡ true → Sorted t
  unfolding first_wrong_sort
  sorted-computed m l none t h k =
      states-computed tags values n whole formed rules t (omega arith) k
      (not-false _ (rw k at (place-passes tags values n formed is_wrong m l none t h (term-tagged _ k))))

  module _ (single : first_repeat tags values n ≡ None) where
    pub computed-sorted : ((t : ℕ) → t < n → is_term_tag (get_or tags t 0) ≡ true → Sorted t) → first_wrong_sort tags values rules n ≡ None
    unfolding first_wrong_sort first_header first_from
    computed-sorted all =
        none_in values n is_wrong
        (λ t h. by-test (is_term_tag (get_or tags t 0)) (λ k. rw (k, computed-states tags values n whole formed rules t h k single (all t h k))) (λ k. rw k))
        (n - 0) 0

    -- "16 wrong sort (the first place)"
    pub record Wrong (p : ℕ) : Type 0 where
      pub below : p < n
      pub term : is_term_tag (get_or tags p 0) ≡ true
      pub wrong : Sorted p → ⊥
      pub before : (t : ℕ) → t < p → is_term_tag (get_or tags t 0) ≡ true → Sorted t

    pub wrong_first : (p : ℕ) → first_wrong_sort tags values rules n ≡ Some p → Wrong p
    unfolding first_wrong_sort first_header first_from
    wrong_first p e =
        let (h, y) = found-in values n is_wrong p (n - 0) 0 e in
        let (k, f) = both (is_term_tag (get_or tags p 0)) _ y in
        record {
          below = h;
          term = k;
          wrong = λ s. let a : states_sort tags values rules p ≡ true = computed-states tags values n whole formed rules p h k single s in
              let b : states_sort tags values rules p ≡ false = not-true _ f in let z : ◌≡◌ {A = ℕ} 0 1 = cc in omega arith;
          before = sorted-computed p (omega arith) (before-in values n is_wrong p (n - 0) (p - 0) 0 e);
        }
