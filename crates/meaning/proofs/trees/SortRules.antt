-- Check 16 on trees: in a pool that passes checks 14 and 15, a term states the sort that is computed by places exactly where its tree does.
--     states-computed, computed-states     the two directions
-- Assumes nothing.
use Prim.Native.Nat.{ℕ, suc, ◌+◌, ◌-◌, ◌≤◌, ◌<◌, ◌%◌}
use mathlib.Core.Path.{◌≡◌, refl, sym, ap, ◌∙◌}
use mathlib.Core.Bool.{true, cond}
use mathlib.Core.List.{List, [], ◌∷◌, ◌++◌, map, map-append}
use Rattle.std.specs.Prelude.{Some, None}
use lib.ListN.{length, length-map, get_or, drop}
use lib.Dec.{ltb, leb, eqb}
use native.Mathlib.Omega.{arith}
use borrow.Author.Tests.{eqb-true, leb-true, le-ltb}
use Rattle.cells.specs.ByPlace.{by-test}
use Rattle.cells.specs.Cell.{cells_of, sort_of, operands_of}
use Rattle.headers.specs.WellFormed.{shape_of, count_fits, kind_at, pair_kind, value_fits, is_sort_tag, is_term_tag, first_bad}
use Rattle.descriptions.specs.Description.{first_repeat}
use Rattle.meaning.specs.Sort.{Sort, function}
use Rattle.sorts.specs.SortRule.{Computed, place, made, pair_sorts, first_sort, sort_tag, apply, application, by_rule, choice, lambda, compute_sort, states_sort}
use Rattle.meaning.specs.Term.{stated}
use Rattle.meaning.specs.Tree.{sort_from, sort_tree, vars_of, terms_of, term_from, tree}
use Rattle.meaning.specs.SortTree.{sorts_from, constant_sort, apply_sort, application_sort, sorts_of_vars, binder_sort, sort_of_term}
use Rattle.headers.specs.declared.well_formed.Shape.{Shape}
use Rattle.headers.specs.declared.well_formed.Shape.TheVariants.{Application, Binder, Operator}
use Rattle.headers.specs.declared.well_formed.CellKind.TheVariants.{OfSort, OfTerm}
use Rattle.meaning.proofs.trees.Header.{Each, Header, header, Described, described, term-cell, term-tagged}
use Rattle.meaning.proofs.trees.Walk.{place-fits}
use Rattle.meaning.proofs.trees.Tags.{shape-op, by-term-tag}
use Rattle.meaning.proofs.trees.Parts.{not_first, pair-second, two_cells, from_one, from-two}
use Rattle.meaning.proofs.trees.Terms.{term_is, term-op, even-rest}
use Rattle.meaning.proofs.trees.Stated.{first-sort, stated-is}
use Rattle.meaning.proofs.trees.Forms.{sorts-are, AllSorts, sort-below, sorts-fit, cell_at, function-at}
use Rattle.meaning.proofs.trees.SortLists.{map-drop, map_last, all_append, all_drop, all-at}
use Rattle.meaning.proofs.trees.Computed.{Gives, gives-cond, tree_of, of_tree}
use Rattle.meaning.proofs.trees.Operators.{IsTerm, AllTerms, stated-at, sorts-stated, test-tag, bits-give}
use Rattle.meaning.proofs.trees.Specials.{operator-gives}

-- ---- `compute_sort` by the tag: s and w are the first two cells, run the cells after the first
module _ (tags values rules : List ℕ) where
  by_tag : ℕ → ℕ → ℕ → List ℕ → Computed
  by_tag k s w run =
      cond (ltb k 20) (made (k - 14) [])
      (cond (ltb k 21) (made 7 (w ∷ []))
      (cond (ltb k 22) (place s)
      (cond (ltb k 23) (application tags values run)
      (cond (ltb k 25) (made 1 [])
      (cond (ltb k 26) (choice run)
      (cond (ltb k 27) (lambda values run)
      (cond (ltb k 28) (first_sort values run)
      (by_rule tags values (get_or rules (k - 32) 7) (k - 32) run))))))))

  compute-is : (t : ℕ) → compute_sort tags values rules t ≡ by_tag (get_or tags t 0) (sort_of values t) (get_or values (t + 2) 0) (drop 1 (cells_of values t))
  unfolding compute_sort operands_of by_tag
  compute-is t = by-test (ltb (get_or tags t 0) 22) (λ e. rw e) (λ e. rw e)

module _ (tags values : List ℕ) (n : ℕ) (whole : n ≤ length values) (formed : first_bad tags values n ≡ None) where
  -- ---- functions
  function-gives : (qs : List ℕ) → AllSorts tags n qs → Gives tags values n (made 10 qs) (Some (function (sorts_from (map (sort_tree tags values) qs))))
  unfolding sort_from is_sort_tag shape_of count_fits
  function-gives qs a = (rw (sorts-are (sort_tree tags values) qs), (refl, refl, sorts-fit tags n 0 qs a))

  apply-gives : (m : ℕ) (es : List ℕ) → AllSorts tags n es → Gives tags values n (apply m es) (apply_sort m (map (sort_tree tags values) es))
  unfolding apply apply_sort
  apply-gives m es a =
      rw (length-map es (sort_tree tags values))
      (by-test (eqb (m + 1) (length es))
      (λ e. rw e (map_last (sort_tree tags values) es m 0 (eqb-true _ _ e), all-at tags n es m (eqb-true _ _ e) a))
      (λ e. by-test (leb m (length es))
      (λ f. rw (e, f, ← map-drop (sort_tree tags values) m es) (function-gives (drop m es) (all_drop tags n m es a)))
      (λ f. rw (e, f) (refl, tt))))

  application-gives : (f : ℕ) (os : List ℕ) → IsTerm tags n f → AllTerms tags n os
      → Gives tags values n (application tags values (f ∷ os)) (application_sort (stated (tree tags values f)) (terms_of (tree tags values) os))
  unfolding application application_sort sort_tag
  application-gives f os is a =
      rw (stated-is tags values n whole formed f is.0 is.1, sorts-stated tags values n whole formed os a, length-map, length-map)
      (gives-cond tags values n _ _ _ _ _ _ (test-tag tags values n whole formed (sort_of values f) 10 (stated-at tags values n whole formed f is))
      (λ e. let (p, k) = function-at tags values n whole formed (sort_of values f) (stated-at tags values n whole formed f is) (eqb-true _ _ e) in
      rw p (apply-gives (length os) (cells_of values (sort_of values f)) k))
      (λ e. (refl, tt)))

  module _ (t : ℕ) (h : t < n) where
    -- ---- the cells of the term at t
    term-below : (c : ℕ) → value_fits tags t OfTerm c ≡ true → IsTerm tags n c
    term-below c e = let (l, k) = term-cell tags t c e in (omega arith, k)

    terms-below : (shape : Shape) (j : ℕ) (cs : List ℕ) → ((i : ℕ) → j ≤ i → kind_at shape i ≡ OfTerm) → Each tags t shape j cs → AllTerms tags n cs
    terms-below shape j [] k f = tt
    terms-below shape j (c ∷ cs) k f = (term-below c (rw (k j (omega arith)) at f.0), terms-below shape (suc j) cs (λ i l. k i (omega arith)) f.1)

    -- ---- binders
    choice-gives : (b : ℕ) (cs : List ℕ) → Each tags t Binder 2 cs → Gives tags values n (choice (b ∷ cs)) (binder_sort 25 (vars_of (sort_tree tags values) cs) (tree tags values b))
    unfolding choice binder_sort vars_of kind_at pair_kind
    choice-gives b [] f = (refl, tt)
    choice-gives b (a ∷ []) f = (refl, tt)
    choice-gives b (a ∷ (s ∷ cs)) f = (refl, sort-below tags n t s (omega arith) f.1.0)

    pair-sorts : (cs : List ℕ) → sorts_of_vars (vars_of (sort_tree tags values) cs) ≡ map (sort_tree tags values) (pair_sorts cs)
    unfolding vars_of pair_sorts
    pair-sorts [] = refl
    pair-sorts (a ∷ []) = refl
    pair-sorts (a ∷ (s ∷ cs)) = ap (λ (l : List Sort). sort_tree tags values s ∷ l) (pair-sorts cs)

    pairs_below : (j : ℕ) (cs : List ℕ) → 2 ≤ j → j % 2 ≡ 0 → Each tags t Binder j cs → AllSorts tags n (pair_sorts cs)
    unfolding pair_sorts kind_at
    pairs_below j [] l e f = tt
    pairs_below j (a ∷ []) l e f = tt
    pairs_below j (a ∷ (s ∷ cs)) l e f =
        (sort-below tags n t s (omega arith) (rw (pair-second OfSort j l e) at f.1.0), pairs_below (suc (suc j)) cs (omega arith) (omega arith) f.1.1)

    lambda-gives : (b : ℕ) (cs : List ℕ) → IsTerm tags n b → Each tags t Binder 2 cs
        → Gives tags values n (lambda values (b ∷ cs)) (binder_sort 26 (vars_of (sort_tree tags values) cs) (tree tags values b))
    unfolding lambda binder_sort
    lambda-gives b cs is f =
        rw (stated-is tags values n whole formed b is.0 is.1, pair-sorts cs, ← map-append (sort_tree tags values) (pair_sorts cs) (sort_of values b ∷ []))
        (function-gives (pair_sorts cs ++ (sort_of values b ∷ []))
        (all_append tags n (pair_sorts cs) (sort_of values b ∷ []) (pairs_below 2 cs (omega arith) refl f) (stated-at tags values n whole formed b is, tt)))

    -- ---- by the tag
    module _ (rules : List ℕ) (w : ℕ) where
      abbrev RightAt : ℕ → List ℕ → Type 0
      RightAt k cells =
          Each tags t (shape_of k) 0 cells
          → Gives tags values n (by_tag tags values rules k (get_or cells 0 0) w (drop 1 cells)) (sort_of_term rules (term_from k cells (sort_tree tags values) (tree tags values)))

      right-op : (cells : List ℕ) (k : ℕ) → 32 ≤ k → k < 167 → count_fits (shape_of k) (length cells) ≡ true → RightAt k cells
      unfolding by_tag sort_of_term count_fits kind_at
      right-op cells k l m c f =
          rw (
            term-op (sort_tree tags values) (tree tags values) k cells l m,
            le-ltb k 20 (omega arith),
            le-ltb k 21 (omega arith),
            le-ltb k 22 (omega arith),
            le-ltb k 23 (omega arith),
            le-ltb k 25 (omega arith),
            le-ltb k 26 (omega arith),
            le-ltb k 27 (omega arith),
            le-ltb k 28 (omega arith),
          )
          (operator-gives tags values n whole formed (drop 1 cells)
          (from_one (λ cs. Each tags t Operator 0 cs → AllTerms tags n (drop 1 cs)) (λ s cs g. terms-below Operator 1 cs (λ i j. not_first _ _ i j) g.1)
          cells (leb-true 1 (length cells) (rw (shape-op k l m) at c)) (rw (shape-op k l m) at f))
          (get_or rules (k - 32) 7) (k - 32))

      right-at : (cells : List ℕ) (k : ℕ) → is_term_tag k ≡ true → (k ≡ 20 → get_or cells 1 0 ≡ w) → count_fits (shape_of k) (length cells) ≡ true → RightAt k cells
      unfolding by_tag sort_of_term constant_sort term_from sort_from shape_of count_fits kind_at pair_kind is_sort_tag first_sort
      right-at cells k m q c =
          by-term-tag (λ k. (k ≡ 20 → get_or cells 1 0 ≡ w) → count_fits (shape_of k) (length cells) ≡ true → RightAt k cells)
          (λ q c f. (refl, (refl, refl, tt)))
          (λ q c f. (refl, (refl, refl, tt)))
          (λ q c f. (refl, (refl, refl, tt)))
          (λ q c f. (refl, (refl, refl, tt)))
          (λ q c f. rw (q refl) (bits-give tags values n whole formed w))
          (λ q c. two_cells (RightAt 21) (λ s a f. (refl, sort-below tags n t s (omega arith) f.0)) cells (eqb-true _ _ c))
          (λ q c. from-two (RightAt 22) (λ s g cs f. application-gives g cs (term-below g f.1.0) (terms-below Application 2 cs (λ i l. not_first _ _ i (omega arith)) f.1.1)) cells (leb-true _ _ c))
          (λ q c f. (refl, (refl, refl, tt)))
          (λ q c f. (refl, (refl, refl, tt)))
          (λ q c. from-two (RightAt 25) (λ s b cs f. choice-gives b cs f.1.1) cells (even-rest _ c).0)
          (λ q c. from-two (RightAt 26) (λ s b cs f. lambda-gives b cs (term-below b f.1.0) f.1.1) cells (even-rest _ c).0)
          (λ q c. from-two (RightAt 27) (λ s b cs f. let is = term-below b f.1.0 in (ap Some (sym (stated-is tags values n whole formed b is.0 is.1)), stated-at tags values n whole formed b is)) cells (even-rest _ c).0)
          (λ k l m q. right-op cells k l m)
          k (length cells) m c q c

  -- ---- the term at t
  module _ (rules : List ℕ) (t : ℕ) (h : t < n) (k : is_term_tag (get_or tags t 0) ≡ true) where
    fits : Header tags values n t
    fits = header tags values n t (place-fits tags values n formed t h (term-tagged _ k))

    here : Described tags values t
    here = described tags values t n whole fits

    first_cell : get_or (cells_of values t) 0 0 ≡ sort_of values t
    unfolding sort_of
    first_cell =
        let one : 1 ≤ get_or values t 0 = (first-sort (get_or values t 0) (get_or tags t 0) k fits.count).1 in
        let z : t + 1 + 0 ≡ t + 1 = omega arith in
        rw (cell_at values t 0 one, z)

    width-cell : get_or tags t 0 ≡ 20 → get_or (cells_of values t) 1 0 ≡ get_or values (t + 2) 0
    unfolding shape_of count_fits
    width-cell e =
        let three : get_or values t 0 ≡ 3 = eqb-true _ 3 (rw e at fits.count) in
        let z : t + 1 + 1 ≡ t + 2 = omega arith in
        rw (cell_at values t 1 (omega arith), z)

    -- the computed sort is the tree's
    sort-given : Gives tags values n (compute_sort tags values rules t) (sort_of_term rules (tree tags values t))
    sort-given =
        rw (compute-is tags values rules t, term_is tags values n whole formed t h k, ← first_cell)
        (right-at t h rules (get_or values (t + 2) 0) (cells_of values t) (get_or tags t 0) k width-cell here.count here.each-cell)

    -- a term that passes check 16 states the sort of its tree
    pub states-computed : states_sort tags values rules t ≡ true → sort_of_term rules (tree tags values t) ≡ Some (stated (tree tags values t))
    unfolding states_sort
    states-computed e =
        sym sort-given.0
        ∙ (tree_of tags values n whole formed (sort_of values t) (stated-at tags values n whole formed t (h, k)) (compute_sort tags values rules t) e
        ∙ ap Some (sym (stated-is tags values n whole formed t h k)))

    -- and a term whose tree states its sort passes
    pub computed-states : first_repeat tags values n ≡ None → sort_of_term rules (tree tags values t) ≡ Some (stated (tree tags values t)) → states_sort tags values rules t ≡ true
    unfolding states_sort
    computed-states single e =
        of_tree tags values n whole formed single (sort_of values t) (stated-at tags values n whole formed t (h, k)) (compute_sort tags values rules t) sort-given.1
        (sort-given.0 ∙ (e ∙ ap Some (stated-is tags values n whole formed t h k)))
