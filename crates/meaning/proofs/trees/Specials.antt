-- The rules of relations and of BvConst, and so the rule of every operator, give the same sort on places and on trees, in a pool that
-- passes check 14.
-- Assumes nothing.
use Prim.Native.Nat.{ℕ, ◌+◌, ◌≤◌, ◌<◌}
use mathlib.Core.Path.{◌≡◌, refl, ap, ap₂, ◌∙◌}
use mathlib.Core.Bool.{Bool, true, false, ◌&&◌, cond}
use mathlib.Core.List.{List, [], ◌∷◌, ◌++◌, map, map-append, reverse, drop_last}
use Rattle.std.specs.Prelude.{None, Some, slice_get}
use lib.ListN.{length, length-map, get_or, drop}
use lib.Dec.{ltb, eqb}
use native.Mathlib.Omega.{arith}
use borrow.Author.Tests.{eqb-true, eqb-false, ltb-true, ne_eqb}
use Rattle.cells.specs.ByPlace.{by-test}
use Rattle.cells.specs.Cell.{cells_of, sort_of}
use Rattle.headers.specs.WellFormed.{shape_of, count_fits, is_sort_tag, is_term_tag, first_bad}
use Rattle.meaning.specs.Sort.{Sort, param_bit_vec, bit_vec}
use Rattle.sorts.specs.SortRule.{made, relation, first_sort, relation_sorts, sort_tag, bv_const, is_relation, transpose, join, product, special_of, by_special, by_rule}
use Rattle.meaning.specs.Term.{Term}
use Rattle.meaning.specs.Tree.{sorts_of, sort_from, sort_tree, terms_of, term_from, tree}
use Rattle.meaning.specs.SortTree.{form_of, is_relation_sort, columns, relation_of, stated_sorts, width_sort, bv_const_sort, transpose_sort, join_sort, product_sort, special_sort, plain_sort, operator_sort}
use Rattle.sorts.specs.declared.special.Special.{Special}
use Rattle.sorts.specs.declared.special.Special.TheVariants.{Arithmetic, Select, BitVectors, Concat, OneBit, BitCount, BvConst, RareList, Singleton, Insert, TupleOf, TupleUnit, Transpose, Join, Product, NoRule}
use Rattle.meaning.proofs.trees.Header.{both, Header, header, term-tagged}
use Rattle.meaning.proofs.trees.Walk.{place-fits}
use Rattle.meaning.proofs.trees.Tags.{by-term-tag}
use Rattle.meaning.proofs.trees.Terms.{term_is, term-op}
use Rattle.meaning.proofs.trees.Forms.{sorts-are, IsSort, AllSorts, cell_at, set_at, tuple_at}
use Rattle.meaning.proofs.trees.SortLists.{map-reverse, map-drop_last, map-drop, all_append, all-reverse, all-drop_last, all_drop}
use Rattle.meaning.proofs.trees.Computed.{Gives, gives-cond}
use Rattle.meaning.proofs.trees.Operators.{AllTerms, Stated, sorts_at, all-stated, sorts-stated, test-tag, first_gives, second-gives, last-gives, rare-gives, singleton-gives, select_gives, any-real, arithmetic-gives, param-gives, bits-give, bit-vector-gives, concat-gives, tuple-gives}

-- a test that matters only after another
both-same : (b c x y : Bool) → b ≡ c → (b ≡ true → x ≡ y) → (b && x) ≡ (c && y)
both-same true c x y e f = rw (← e) (f refl)
both-same false c x y e f = rw (← e)

module _ (tags values : List ℕ) (n : ℕ) (whole : n ≤ length values) (formed : first_bad tags values n ≡ None) where
  -- ---- relations
  module _ (o : ℕ) (is : IsSort tags n (sort_of values o)) where
    -- the sort of the term at o
    abbrev S : Sort
    S = sort_tree tags values (sort_of values o)

    is-relation : is_relation tags values o ≡ is_relation_sort S
    unfolding is_relation sort_tag
    is-relation =
        both-same _ _ _ _ (test-tag tags values n whole formed (sort_of values o) 12 is)
        (λ e. let (p, q, c) = set_at tags values n whole formed (sort_of values o) is (eqb-true _ _ e) in
        rw p (test-tag tags values n whole formed (get_or values (sort_of values o + 1) 0) 13 q))

    columns-are : is_relation tags values o ≡ true → (columns S ≡ map (sort_tree tags values) (relation_sorts values o)) × AllSorts tags n (relation_sorts values o)
    unfolding is_relation sort_tag relation_sorts
    columns-are e =
        let (a, b) = both (eqb (get_or tags (sort_of values o) 0) 12) _ e in
        let (p, q, c) = set_at tags values n whole formed (sort_of values o) is (eqb-true _ _ a) in
        let (f, k) = tuple_at tags values n whole formed (get_or values (sort_of values o + 1) 0) q (eqb-true _ _ b) in
        (ap (λ (x : Sort). (form_of x).sorts) p ∙ f, k)

  relation-gives : (cs : List ℕ) (ss : List Sort) → ss ≡ map (sort_tree tags values) cs → AllSorts tags n cs → Gives tags values n (relation cs) (Some (relation_of ss))
  relation-gives cs ss e a = (rw (e, sorts-are (sort_tree tags values) cs), a)

  transpose-gives : (os : List ℕ) → Stated tags values n os → Gives tags values n (transpose tags values os) (transpose_sort (sorts_at tags values os))
  unfolding transpose transpose_sort
  transpose-gives [] a = (refl, tt)
  transpose-gives (o ∷ os) a =
      gives-cond tags values n _ _ _ _ _ _ (is-relation o a.0)
      (λ e. let (c, k) = columns-are o a.0 e in
      relation-gives (reverse (relation_sorts values o)) _ (rw (c, map-reverse)) (all-reverse tags n (relation_sorts values o) k))
      (λ e. (refl, tt))

  join-gives : (os : List ℕ) → Stated tags values n os → Gives tags values n (join tags values os) (join_sort (sorts_at tags values os))
  unfolding join join_sort
  join-gives [] a = (refl, tt)
  join-gives (o ∷ []) a = (refl, tt)
  join-gives (o ∷ (p ∷ os)) a =
      gives-cond tags values n _ _ _ _ _ _
      (ap₂ ◌&&◌ (is-relation o a.0) (both-same _ _ _ _ (is-relation p a.1.0) (λ e. rw ((columns-are p a.1.0 e).0, length-map))))
      (λ e. let (f, r) = both (is_relation tags values o) _ e in
      let (c, k) = columns-are o a.0 f in
      let (d, l) = columns-are p a.1.0 (both (is_relation tags values p) _ r).0 in
      relation-gives (drop_last (relation_sorts values o) ++ drop 1 (relation_sorts values p)) _
      (rw (c, d, map-append, map-drop_last, map-drop (sort_tree tags values) 1))
      (all_append tags n (drop_last (relation_sorts values o)) (drop 1 (relation_sorts values p))
      (all-drop_last tags n (relation_sorts values o) k) (all_drop tags n 1 (relation_sorts values p) l)))
      (λ e. (refl, tt))

  product-gives : (os : List ℕ) → Stated tags values n os → Gives tags values n (product tags values os) (product_sort (sorts_at tags values os))
  unfolding product product_sort
  product-gives [] a = (refl, tt)
  product-gives (o ∷ []) a = (refl, tt)
  product-gives (o ∷ (p ∷ os)) a =
      gives-cond tags values n _ _ _ _ _ _ (ap₂ ◌&&◌ (is-relation o a.0) (is-relation p a.1.0))
      (λ e. let (f, g) = both (is_relation tags values o) _ e in
      let (c, k) = columns-are o a.0 f in
      let (d, l) = columns-are p a.1.0 g in
      relation-gives (relation_sorts values o ++ relation_sorts values p) _ (rw (c, d, map-append)) (all_append tags n (relation_sorts values o) (relation_sorts values p) k l))
      (λ e. (refl, tt))

  -- ---- BvConst
  module _ (sort_at : ℕ → Sort) (term_at : ℕ → Term) (cells : List ℕ) where
    abbrev Width : ℕ → Type 0
    Width k = width_sort (term_from k cells sort_at term_at) ≡ cond (eqb k 16) (bit_vec (get_or cells 1 0)) param_bit_vec

    width-op : (k : ℕ) → 32 ≤ k → k < 167 → Width k
    unfolding width_sort
    width-op k h l = rw (term-op sort_at term_at k cells h l, ne_eqb k 16 (λ e. omega arith))

    width_is : (k m : ℕ) → is_term_tag k ≡ true → count_fits (shape_of k) m ≡ true → Width k
    unfolding width_sort term_from
    width_is = by-term-tag Width refl refl refl refl refl refl refl refl refl refl refl refl width-op

  module _ (w : ℕ) (h : w < n) (k : is_term_tag (get_or tags w 0) ≡ true) where
    fits : Header tags values n w
    fits = header tags values n w (place-fits tags values n formed w h (term-tagged _ k))

    number : get_or tags w 0 ≡ 16 → get_or (cells_of values w) 1 0 ≡ get_or values (w + 2) 0
    unfolding shape_of count_fits
    number e =
        let c : get_or values w 0 ≡ 2 = eqb-true _ 2 (rw e at fits.count) in
        let z : w + 1 + 1 ≡ w + 2 = omega arith in
        rw (cell_at values w 1 (omega arith), z)

    width-gives : Gives tags values n (cond (eqb (get_or tags w 0) 16) (made 7 (get_or values (w + 2) 0 ∷ [])) (made 6 [])) (Some (width_sort (tree tags values w)))
    width-gives =
        rw (term_is tags values n whole formed w h k, width_is (sort_tree tags values) (tree tags values) (cells_of values w) (get_or tags w 0) (get_or values w 0) k fits.count)
        (by-test (eqb (get_or tags w 0) 16)
        (λ e. rw (e, number (eqb-true _ _ e)) (bits-give tags values n whole formed (get_or values (w + 2) 0)))
        (λ e. rw e (param-gives tags values n whole formed)))

  const-gives : (os : List ℕ) → AllTerms tags n os → Gives tags values n (bv_const tags values os) (bv_const_sort (terms_of (tree tags values) os))
  unfolding bv_const bv_const_sort terms_of
  const-gives [] a = (refl, tt)
  const-gives (o ∷ []) a = (refl, tt)
  const-gives (o ∷ (w ∷ os)) a = width-gives w a.1.0.0 a.1.0.1

  -- ---- any operator
  module _ (os : List ℕ) (a : AllTerms tags n os) where
    sorts : stated_sorts (terms_of (tree tags values) os) ≡ sorts_at tags values os
    sorts = sorts-stated tags values n whole formed os a

    ok : Stated tags values n os
    ok = all-stated tags values n whole formed os a

    special-gives : (rule : Special) → Gives tags values n (by_special tags values rule os) (special_sort rule (terms_of (tree tags values) os))
    unfolding by_special special_sort sorts_of sort_from is_sort_tag shape_of count_fits
    special-gives Arithmetic = rw sorts (arithmetic-gives tags values n whole formed _ _ (any-real tags values n whole formed os ok))
    special-gives Select = rw sorts (select_gives tags values n whole formed os ok)
    special-gives BitVectors = rw sorts (bit-vector-gives tags values n whole formed os ok)
    special-gives Concat = rw sorts (concat-gives tags values n whole formed 0 false os ok)
    special-gives OneBit = bits-give tags values n whole formed 1
    special-gives BitCount = rw (sorts, length-map, length-map) (bits-give tags values n whole formed (length os))
    special-gives BvConst = const-gives os a
    special-gives RareList = rw sorts (rare-gives tags values n whole formed os ok)
    special-gives Singleton = rw sorts (singleton-gives tags values n whole formed os ok)
    special-gives Insert = rw sorts (last-gives tags values n whole formed os ok)
    special-gives TupleOf = rw sorts (tuple-gives tags values n whole formed (map (sort_of values) os) ok)
    special-gives TupleUnit = (refl, (refl, refl, tt))
    special-gives Transpose = rw sorts (transpose-gives os ok)
    special-gives Join = rw sorts (join-gives os ok)
    special-gives Product = rw sorts (product-gives os ok)
    special-gives NoRule = (refl, tt)

    -- Bool, Int, Real, String, RegLan
    plain-gives : (rule : ℕ) → rule < 5 → Gives tags values n (made (rule + 1) []) (Some (plain_sort rule))
    unfolding plain_sort sort_from is_sort_tag shape_of count_fits
    plain-gives rule h =
        by-test (eqb rule 0) (λ e. rw (eqb-true rule 0 e) (refl, (refl, refl, tt)))
        (λ e. by-test (eqb rule 1) (λ f. rw (eqb-true rule 1 f) (refl, (refl, refl, tt)))
        (λ f. by-test (eqb rule 2) (λ g. rw (eqb-true rule 2 g) (refl, (refl, refl, tt)))
        (λ g. by-test (eqb rule 3) (λ i. rw (eqb-true rule 3 i) (refl, (refl, refl, tt)))
        (λ i. rw (left (eqb-false rule 0 e) (eqb-false rule 1 f) (eqb-false rule 2 g) (eqb-false rule 3 i)) (refl, (refl, refl, tt))))))
      where
        left : (rule ≡ 0 → ⊥) → (rule ≡ 1 → ⊥) → (rule ≡ 2 → ⊥) → (rule ≡ 3 → ⊥) → rule ≡ 4
        left a b c d = omega arith

    first : Gives tags values n (first_sort values os) (slice_get (stated_sorts (terms_of (tree tags values) os)) 0)
    first = rw sorts (first_gives tags values n whole formed os ok)

    second : Gives tags values n (first_sort values (drop 1 os)) (slice_get (stated_sorts (terms_of (tree tags values) os)) 1)
    second = rw sorts (second-gives tags values n whole formed os ok)

    -- an operator's rule gives the same sort on places and on trees
    pub operator-gives : (rule code : ℕ) → Gives tags values n (by_rule tags values rule code os) (operator_sort rule code (terms_of (tree tags values) os))
    unfolding by_rule operator_sort
    operator-gives rule code =
        by-test (ltb rule 5) (λ e. rw e (plain-gives rule (ltb-true rule 5 e)))
        (λ e. by-test (eqb rule 5) (λ f. rw (e, f) first)
        (λ f. by-test (eqb rule 6) (λ g. rw (e, f, g) second) (λ g. rw (e, f, g) (special-gives (special_of code)))))
