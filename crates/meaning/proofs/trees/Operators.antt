-- The rules of operators that read their operands' sorts give the same sort on places and on trees, in a pool that passes check 14.
-- Assumes nothing.
use Prim.Native.Nat.{ℕ, ◌+◌, ◌≤◌, ◌<◌}
use mathlib.Core.Path.{◌≡◌, refl, sym, ap, ap₂}
use mathlib.Core.Bool.{Bool, true, false, ◌||◌, cond}
use mathlib.Core.List.{List, [], ◌∷◌, map}
use Rattle.std.specs.Prelude.{None, Some, slice_get}
use lib.ListN.{length, get_or, drop}
use lib.Dec.{ltb, eqb}
use native.Mathlib.Omega.{arith}
use borrow.Author.Tests.{eqb-true}
use Rattle.cells.specs.Cell.{sort_of}
use Rattle.headers.specs.WellFormed.{shape_of, count_fits, kind_at, value_fits, is_sort_tag, is_term_tag, first_bad}
use Rattle.meaning.specs.Sort.{Sort, int, real, param_bit_vec, bit_vec, tuple}
use Rattle.sorts.specs.SortRule.{made, no_answer, first_sort, last_sort, sort_tag, any_real, selected, bit_vector, concat_from, rare_list, singleton}
use Rattle.meaning.specs.Tree.{sort_from, sort_tree, terms_of, tree}
use Rattle.meaning.specs.SortTree.{last_of, sorts_from, form_of, stated_sorts, any_real_sort, select_sort, bit_vector_sort, concat_sort, rare_list_sort, singleton_sort}
use Rattle.meaning.proofs.trees.Stated.{sort-place, stated-is}
use Rattle.meaning.proofs.trees.Forms.{sorts-are, IsSort, AllSorts, sort-fits, sorts-fit, tag_of, width_of, array_at}
use Rattle.meaning.proofs.trees.Computed.{Gives, gives-cond}

-- places of terms
module _ (tags : List ℕ) (n : ℕ) where
  abbrev pub IsTerm : ℕ → Type 0
  IsTerm o = (o < n) × (is_term_tag (get_or tags o 0) ≡ true)

  abbrev pub AllTerms : List ℕ → Type 0
  AllTerms [] = Unit {0}
  AllTerms (o ∷ os) = IsTerm o × AllTerms os

-- the sorts that the terms at these places state: their places are sorts', and the trees there
abbrev pub Stated : List ℕ → List ℕ → ℕ → List ℕ → Type 0
Stated tags values n os = AllSorts tags n (map (sort_of values) os)

abbrev pub sorts_at : List ℕ → List ℕ → List ℕ → List Sort
sorts_at tags values os = map (sort_tree tags values) (map (sort_of values) os)

module _ (tags values : List ℕ) (n : ℕ) (whole : n ≤ length values) (formed : first_bad tags values n ≡ None) where
  -- ---- operands
  pub stated-at : (o : ℕ) → IsTerm tags n o → IsSort tags n (sort_of values o)
  stated-at o (h, k) = let (l, m) = sort-place tags values n whole formed o h k in (omega arith, m)

  pub all-stated : (os : List ℕ) → AllTerms tags n os → Stated tags values n os
  all-stated [] a = tt
  all-stated (o ∷ os) a = (stated-at o a.0, all-stated os a.1)

  pub sorts-stated : (os : List ℕ) → AllTerms tags n os → stated_sorts (terms_of (tree tags values) os) ≡ sorts_at tags values os
  unfolding stated_sorts terms_of
  sorts-stated [] a = refl
  sorts-stated (o ∷ os) a = ap₂ ◌∷◌ (stated-is tags values n whole formed o a.0.0 a.0.1) (sorts-stated os a.1)

  -- a test of the tag of an operand's sort
  pub test-tag : (q k : ℕ) → IsSort tags n q → eqb (get_or tags q 0) k ≡ eqb (form_of (sort_tree tags values q)).tag k
  test-tag q k is = ap (λ (x : ℕ). eqb x k) (sym (tag_of tags values n whole formed q is))

  -- ---- one operand's sort
  pub first_gives : (os : List ℕ) → Stated tags values n os → Gives tags values n (first_sort values os) (slice_get (sorts_at tags values os) 0)
  unfolding first_sort
  first_gives [] a = (refl, tt)
  first_gives (o ∷ os) a = (refl, a.0)

  pub second-gives : (os : List ℕ) → Stated tags values n os → Gives tags values n (first_sort values (drop 1 os)) (slice_get (sorts_at tags values os) 1)
  unfolding first_sort
  second-gives [] a = (refl, tt)
  second-gives (o ∷ []) a = (refl, tt)
  second-gives (o ∷ (p ∷ os)) a = (refl, a.1.0)

  pub last-gives : (os : List ℕ) → Stated tags values n os → Gives tags values n (last_sort values os) (last_of (sorts_at tags values os))
  unfolding last_sort
  last-gives [] a = (refl, tt)
  last-gives (o ∷ []) a = (refl, a.0)
  last-gives (o ∷ (p ∷ os)) a = last-gives (p ∷ os) a.1

  pub rare-gives : (os : List ℕ) → Stated tags values n os → Gives tags values n (rare_list values os) (Some (rare_list_sort (sorts_at tags values os)))
  unfolding rare_list rare_list_sort sort_from is_sort_tag shape_of count_fits value_fits kind_at
  rare-gives [] a = (refl, (refl, refl, (refl, tt)))
  rare-gives (o ∷ os) a = (refl, a.0)

  pub singleton-gives : (os : List ℕ) → Stated tags values n os → Gives tags values n (singleton values os) (singleton_sort (sorts_at tags values os))
  unfolding singleton singleton_sort sort_from is_sort_tag shape_of count_fits kind_at
  singleton-gives [] a = (refl, tt)
  singleton-gives (o ∷ os) a = (refl, (refl, refl, (sort-fits tags n (sort_of values o) a.0, tt)))

  pub select_gives : (os : List ℕ) → Stated tags values n os → Gives tags values n (selected tags values os) (select_sort (sorts_at tags values os))
  unfolding selected select_sort sort_tag
  select_gives [] a = (refl, tt)
  select_gives (o ∷ os) a =
      gives-cond tags values n _ _ _ _ _ _ (test-tag (sort_of values o) 11 a.0)
      (λ e. let (p, i) = array_at tags values n whole formed (sort_of values o) a.0 (eqb-true _ _ e) in (ap Some (sym p), i))
      (λ e. (refl, tt))

  -- ---- all operands' sorts
  pub any-real : (os : List ℕ) → Stated tags values n os → any_real tags values os ≡ any_real_sort (sorts_at tags values os)
  unfolding any_real any_real_sort sort_tag
  any-real [] a = refl
  any-real (o ∷ os) a = ap₂ ◌||◌ (test-tag (sort_of values o) 3 a.0) (any-real os a.1)

  pub arithmetic-gives : (b c : Bool) → b ≡ c → Gives tags values n (made (cond b 3 2) []) (Some (cond c real int))
  unfolding sort_from is_sort_tag shape_of count_fits
  arithmetic-gives true c e = rw (← e) (refl, (refl, refl, tt))
  arithmetic-gives false c e = rw (← e) (refl, (refl, refl, tt))

  pub param-gives : Gives tags values n (made 6 []) (Some param_bit_vec)
  unfolding sort_from is_sort_tag shape_of count_fits
  param-gives = (refl, (refl, refl, tt))

  pub bits-give : (w : ℕ) → Gives tags values n (made 7 (w ∷ [])) (Some (bit_vec w))
  unfolding sort_from is_sort_tag shape_of count_fits kind_at value_fits
  bits-give w = (refl, (refl, refl, (refl, tt)))

  pub bit-vector-gives : (os : List ℕ) → Stated tags values n os → Gives tags values n (bit_vector tags values os) (bit_vector_sort (sorts_at tags values os))
  unfolding bit_vector bit_vector_sort sort_tag
  bit-vector-gives [] a = param-gives
  bit-vector-gives (o ∷ os) a =
      gives-cond tags values n _ _ _ _ _ _ (test-tag (sort_of values o) 7 a.0) (λ e. (refl, a.0))
      (λ e. gives-cond tags values n _ _ _ _ _ _ (test-tag (sort_of values o) 6 a.0) (λ f. bit-vector-gives os a.1) (λ f. (refl, tt)))

  pub concat-gives : (width : ℕ) (param : Bool) (os : List ℕ) → Stated tags values n os
      → Gives tags values n (concat_from tags values width param os) (concat_sort width param (sorts_at tags values os))
  unfolding concat_from concat_sort sort_tag
  concat-gives width true [] a = param-gives
  concat-gives width false [] a =
      gives-cond tags values n (ltb width 4294967296) (ltb width 4294967296) (made 7 (width ∷ [])) no_answer (Some (bit_vec width)) None refl (λ e. bits-give width) (λ e. (refl, tt))
  concat-gives width param (o ∷ os) a =
      gives-cond tags values n _ _ _ _ _ _ (test-tag (sort_of values o) 7 a.0)
      (λ e. rw (width_of tags values n whole formed (sort_of values o) a.0 (eqb-true _ _ e)) (concat-gives (width + get_or values (sort_of values o + 1) 0) param os a.1))
      (λ e. gives-cond tags values n _ _ _ _ _ _ (test-tag (sort_of values o) 6 a.0) (λ f. concat-gives width true os a.1) (λ f. (refl, tt)))

  pub tuple-gives : (qs : List ℕ) → AllSorts tags n qs → Gives tags values n (made 13 qs) (Some (tuple (sorts_from (map (sort_tree tags values) qs))))
  unfolding sort_from is_sort_tag shape_of count_fits
  tuple-gives qs a = (rw (sorts-are (sort_tree tags values) qs), (refl, refl, sorts-fit tags n 0 qs a))
