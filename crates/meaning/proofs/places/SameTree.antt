-- Two pools whose cells below n are the same: headers below n pass check 14 in both, and sorts and terms below n have the same trees.
--     formed-kept     the second pool passes check 14 if the first does and no header from n on fails
--     sort-kept, tree-kept     a sort, and a term, of the first pool has the same tree in the second
--     every-same      a test at every position of a range, where two tests agree
--     made-same       a tag and cells make the same term where the sorts and terms that the cells name have the same trees
-- Assumes nothing.
use Rattle.std.specs.Prelude.{None}
use Prim.Native.Nat.{ℕ, zero, suc, ◌+◌, ◌-◌, ◌≤◌, ◌<◌, ◌%◌}
use mathlib.Core.Path.{◌≡◌, refl, sym, ap, ap₂, ◌∙◌}
use mathlib.Core.Bool.{Bool, true, false, not, ◌&&◌, cond}
use mathlib.Core.List.{List, [], ◌∷◌}
use lib.ListN.{length, get_or, drop}
use lib.Dec.{ltb, eqb}
use native.Mathlib.Omega.{arith}
use borrow.Author.Tests.{ltb-true, lt-ltb, eqb-true, eq-eqb, leb-true}
use Rattle.cells.specs.Bounded.{every_in, every}
use Rattle.cells.specs.ByPlace.{by-test, by_place-is}
use Rattle.cells.specs.Cell.{cells_of, is_at}
use Rattle.cells.specs.Headers.{first_from}
use Rattle.cells.proofs.Cells.{same_refl, same-eq}
use Rattle.headers.specs.WellFormed.{shape_of, count_fits, kind_at, pair_kind, is_sort_tag, is_term_tag, value_fits, cell_fits, bool_first, header_fits, first_bad}
use Rattle.headers.specs.declared.well_formed.Shape.{Shape}
use Rattle.headers.specs.declared.well_formed.Shape.TheVariants.{Named, Sorts as SortList, Application, Binder, Let, Operator}
use Rattle.headers.specs.declared.well_formed.CellKind.{CellKind}
use Rattle.headers.specs.declared.well_formed.CellKind.TheVariants.{Number, OfSort, OfTerm}
use Rattle.descriptions.proofs.description.Fills.{or_else, header-grown, well-formed-fills}
use Rattle.descriptions.proofs.description.Growth.{Same, at_same}
use Rattle.meaning.specs.Sort.{Sort, atom, function, array, set, tuple, no_sort, scons}
use Rattle.meaning.specs.Term.{Vars, Term, const, bit_vector, var, app, quant, bind, letin, op, no_term, tcons, lcons}
use Rattle.meaning.specs.Tree.{sorts_of, sort_from, sort_step, sort_tree, vars_of, terms_of, lets_of, term_from, term_step, tree}
use Rattle.meaning.proofs.trees.Header.{both, Header, header, Each, Described, sort-cell, term-cell, sort-tagged, term-tagged}
use Rattle.meaning.proofs.trees.Walk.{place-fits, place-described}
use Rattle.meaning.proofs.trees.Tags.{shape-op, by-sort-tag, by-term-tag}
use Rattle.meaning.proofs.trees.Parts.{not_first, pair-second, one_cell, two_cells, three-cells, from_one, from-two}
use Rattle.meaning.proofs.trees.Sorts.{sort-is}
use Rattle.meaning.proofs.trees.Terms.{term_is, term-op, even-rest}

-- a description that stands at p
pub at_true : (tags values : List ℕ) (p tag : ℕ) (cells : List ℕ) → is_at tags values p tag cells ≡ true → (get_or tags p 0 ≡ tag) × (cells_of values p ≡ cells)
unfolding is_at
at_true tags values p tag cells e =
    let (a, b) = both (eqb (get_or tags p 0) tag) _ e in
    (eqb-true _ _ a, same-eq _ _ b)

-- ---- trees that agree at the places before p
module _ (tags : List ℕ) (p : ℕ) (sort_at sort_at' : ℕ → Sort) (same-sort : (c : ℕ) → c < p → is_sort_tag (get_or tags c 0) ≡ true → sort_at' c ≡ sort_at c) where
  sort-same : (c : ℕ) → value_fits tags p OfSort c ≡ true → sort_at' c ≡ sort_at c
  sort-same c h = let (l, k) = sort-cell tags p c h in same-sort c l k

  list_same : (shape : Shape) (j : ℕ) (cs : List ℕ) → ((i : ℕ) → j ≤ i → kind_at shape i ≡ OfSort) → Each tags p shape j cs → sorts_of sort_at' cs ≡ sorts_of sort_at cs
  unfolding sorts_of
  list_same shape j [] k h = refl
  list_same shape j (c ∷ cs) k h = ap₂ scons (sort-same c (rw (k j (omega arith)) at h.0)) (list_same shape (suc j) cs (λ i l. k i (omega arith)) h.1)

  abbrev SameSort : ℕ → List ℕ → Type 0
  SameSort k cells = Each tags p (shape_of k) 0 cells → sort_from k cells sort_at' ≡ sort_from k cells sort_at

  made-sort : (cells : List ℕ) (k : ℕ) → is_sort_tag k ≡ true → count_fits (shape_of k) (length cells) ≡ true → SameSort k cells
  unfolding sort_from shape_of count_fits kind_at
  made-sort cells =
      by-sort-tag (λ k. count_fits (shape_of k) (length cells) ≡ true → SameSort k cells)
      (λ e h. refl)
      (λ e h. refl)
      (λ e h. refl)
      (λ e h. refl)
      (λ e h. refl)
      (λ e h. refl)
      (λ e h. refl)
      (λ e h. refl)
      (λ e. from_one (SameSort 9) (λ a cs h. ap (atom a) (list_same Named 1 cs (λ i l. not_first _ _ i l) h.1)) cells (leb-true _ _ e))
      (λ e h. ap function (list_same SortList 0 cells (λ i l. refl) h))
      (λ e. two_cells (SameSort 11) (λ s t h. ap₂ array (sort-same s h.0) (sort-same t h.1.0)) cells (eqb-true _ _ e))
      (λ e. one_cell (SameSort 12) (λ s h. ap set (sort-same s h.0)) cells (eqb-true _ _ e))
      (λ e h. ap tuple (list_same SortList 0 cells (λ i l. refl) h))

  pub vars-same : (j : ℕ) (cs : List ℕ) → 2 ≤ j → j % 2 ≡ 0 → Each tags p Binder j cs → vars_of sort_at' cs ≡ vars_of sort_at cs
  unfolding vars_of kind_at
  vars-same j [] l e h = refl
  vars-same j (a ∷ []) l e h = refl
  vars-same j (a ∷ (s ∷ cs)) l e h =
      ap₂ (λ (x : Sort) (vs : Vars). record { name = a; sort = x } ∷ vs) (sort-same s (rw (pair-second OfSort j l e) at h.1.0))
      (vars-same (suc (suc j)) cs (omega arith) (omega arith) h.1.1)

  module _ (term_at term_at' : ℕ → Term) (same-term : (c : ℕ) → c < p → is_term_tag (get_or tags c 0) ≡ true → term_at' c ≡ term_at c) where
    term-same : (c : ℕ) → value_fits tags p OfTerm c ≡ true → term_at' c ≡ term_at c
    term-same c h = let (l, k) = term-cell tags p c h in same-term c l k

    terms-same : (shape : Shape) (j : ℕ) (cs : List ℕ) → ((i : ℕ) → j ≤ i → kind_at shape i ≡ OfTerm) → Each tags p shape j cs → terms_of term_at' cs ≡ terms_of term_at cs
    unfolding terms_of
    terms-same shape j [] k h = refl
    terms-same shape j (c ∷ cs) k h = ap₂ tcons (term-same c (rw (k j (omega arith)) at h.0)) (terms-same shape (suc j) cs (λ i l. k i (omega arith)) h.1)

    lets-same : (j : ℕ) (cs : List ℕ) → 2 ≤ j → j % 2 ≡ 0 → Each tags p Let j cs → lets_of term_at' cs ≡ lets_of term_at cs
    unfolding lets_of kind_at
    lets-same j [] l e h = refl
    lets-same j (a ∷ []) l e h = refl
    lets-same j (a ∷ (t ∷ cs)) l e h =
        ap₂ (lcons a) (term-same t (rw (pair-second OfTerm j l e) at h.1.0)) (lets-same (suc (suc j)) cs (omega arith) (omega arith) h.1.1)

    abbrev SameTerm : ℕ → List ℕ → Type 0
    SameTerm k cells = Each tags p (shape_of k) 0 cells → term_from k cells sort_at' term_at' ≡ term_from k cells sort_at term_at

    made-op : (cells : List ℕ) (k : ℕ) → 32 ≤ k → k < 167 → count_fits (shape_of k) (length cells) ≡ true → SameTerm k cells
    unfolding count_fits kind_at
    made-op cells k h l e f =
        rw (term-op sort_at' term_at' k cells h l, term-op sort_at term_at k cells h l)
        (from_one (λ (cs : List ℕ). Each tags p Operator 0 cs → op k (sort_at' (get_or cs 0 0)) (terms_of term_at' (drop 1 cs)) ≡ op k (sort_at (get_or cs 0 0)) (terms_of term_at (drop 1 cs)))
        (λ s cs g. ap₂ (op k) (sort-same s g.0) (terms-same Operator 1 cs (λ i j. not_first _ _ i j) g.1))
        cells (leb-true 1 (length cells) (rw (shape-op k h l) at e)) (rw (shape-op k h l) at f))

    pub made-same : (cells : List ℕ) (k : ℕ) → is_term_tag k ≡ true → count_fits (shape_of k) (length cells) ≡ true → SameTerm k cells
    unfolding term_from shape_of count_fits kind_at pair_kind
    made-same cells k t c =
        by-term-tag (λ k. count_fits (shape_of k) (length cells) ≡ true → SameTerm k cells)
        (λ e. two_cells (SameTerm 16) (λ s a h. ap (λ (x : Sort). const 16 x a) (sort-same s h.0)) cells (eqb-true _ _ e))
        (λ e. two_cells (SameTerm 17) (λ s a h. ap (λ (x : Sort). const 17 x a) (sort-same s h.0)) cells (eqb-true _ _ e))
        (λ e. two_cells (SameTerm 18) (λ s a h. ap (λ (x : Sort). const 18 x a) (sort-same s h.0)) cells (eqb-true _ _ e))
        (λ e. two_cells (SameTerm 19) (λ s a h. ap (λ (x : Sort). const 19 x a) (sort-same s h.0)) cells (eqb-true _ _ e))
        (λ e. three-cells (SameTerm 20) (λ s w a h. ap (λ (x : Sort). bit_vector x w a) (sort-same s h.0)) cells (eqb-true _ _ e))
        (λ e. two_cells (SameTerm 21) (λ s a h. ap (λ (x : Sort). var (record { name = a; sort = x })) (sort-same s h.0)) cells (eqb-true _ _ e))
        (λ e. from-two (SameTerm 22)
        (λ s f cs h i. app (sort-same s h.0 i) (term-same f h.1.0 i) (terms-same Application 2 cs (λ j l. not_first _ _ j (omega arith)) h.1.1 i))
        cells (leb-true _ _ e))
        (λ e. from-two (SameTerm 23) (λ s b cs h i. quant true (sort-same s h.0 i) (vars-same 2 cs (omega arith) refl h.1.1 i) (term-same b h.1.0 i)) cells (even-rest _ e).0)
        (λ e. from-two (SameTerm 24) (λ s b cs h i. quant false (sort-same s h.0 i) (vars-same 2 cs (omega arith) refl h.1.1 i) (term-same b h.1.0 i)) cells (even-rest _ e).0)
        (λ e. from-two (SameTerm 25) (λ s b cs h i. bind 25 (sort-same s h.0 i) (vars-same 2 cs (omega arith) refl h.1.1 i) (term-same b h.1.0 i)) cells (even-rest _ e).0)
        (λ e. from-two (SameTerm 26) (λ s b cs h i. bind 26 (sort-same s h.0 i) (vars-same 2 cs (omega arith) refl h.1.1 i) (term-same b h.1.0 i)) cells (even-rest _ e).0)
        (λ e. from-two (SameTerm 27) (λ s b cs h i. letin (sort-same s h.0 i) (lets-same 2 cs (omega arith) refl h.1.1 i) (term-same b h.1.0 i)) cells (even-rest _ e).0)
        (λ k h l. made-op cells k h l)
        k (length cells) t c c

-- ---- a header below n
pub every-same : (test test' : ℕ → Bool) (f j : ℕ) → ((i : ℕ) → i < j + f → test' i ≡ test i) → every_in test' f j ≡ every_in test f j
unfolding every_in
every-same test test' zero j a = refl
every-same test test' (suc f) j a = ap₂ ◌&&◌ (a j (omega arith)) (every-same test test' f (suc j) (λ i l. a i (omega arith)))

module _ (n : ℕ) (tags values tags' values' : List ℕ) (s : Same n tags values tags' values') where
  pub value-kept : (p : ℕ) → p ≤ n → (kind : CellKind) (v : ℕ) → value_fits tags' p kind v ≡ value_fits tags p kind v
  unfolding value_fits
  value-kept p h Number v = refl
  value-kept p h OfSort v = by-test (ltb v p) (λ e. rw (s.tags-same v (omega (arith, ltb-true v p e)))) (λ e. rw e)
  value-kept p h OfTerm v = by-test (ltb v p) (λ e. rw (s.tags-same v (omega (arith, ltb-true v p e)))) (λ e. rw e)

  module _ (p : ℕ) (h : p < n) (w : get_or values p 0 < n - p) where
    cells-kept : cells_of values' p ≡ cells_of values p
    unfolding is_at
    cells-kept =
        (at_true tags' values' p (get_or tags p 0) (cells_of values p)
        (at_same n tags values tags' values' s p h w (get_or tags p 0) (cells_of values p) ∙ rw (eq-eqb (get_or tags p 0) (get_or tags p 0) refl) (same_refl (cells_of values p)))).1

    cell-kept : (shape : Shape) (j : ℕ) → j < get_or values p 0 → cell_fits tags' values' p shape j ≡ cell_fits tags values p shape j
    unfolding cell_fits
    cell-kept shape j l =
        rw (s.tags-same (p + 1 + j) (omega arith), s.values_same (p + 1 + j) (omega arith), value-kept p (omega arith) (kind_at shape j) (get_or values (p + 1 + j) 0))

    header-kept : (n' : ℕ) → n ≤ n' → header_fits tags' values' n' p ≡ header_fits tags values n p
    unfolding header_fits bool_first every
    header-kept n' g =
        rw (
          s.tags-same p h,
          s.values_same p h,
          lt-ltb (get_or values p 0) (n' - p) (omega arith),
          lt-ltb (get_or values p 0) (n - p) w,
          every-same (cell_fits tags values p (shape_of (get_or tags p 0))) (cell_fits tags' values' p (shape_of (get_or tags p 0))) (get_or values p 0 - 0) 0
              (λ i l. cell-kept (shape_of (get_or tags p 0)) i (omega arith)),
        )

  module _ (formed : first_bad tags values n ≡ None) where
    pub formed-kept : (n' : ℕ) → n ≤ n' → first_from values' n' (λ p. not (header_fits tags' values' n' p)) n ≡ None → first_bad tags' values' n' ≡ None
    unfolding first_bad
    formed-kept n' g after =
        header-grown values n values' n' g s.values_same (λ p. not (header_fits tags values n p)) (λ p. not (header_fits tags' values' n' p))
        (λ p h w. ap not (header-kept p h w n' g)) (well-formed-fills tags values n formed)
        ∙ ap₂ or_else formed after

    -- ---- trees below n
    run-kept : (t : ℕ) → t < n → (get_or tags t 0 ≡ 0 → ⊥) → cells_of values' t ≡ cells_of values t
    run-kept t h k = let at : Header tags values n t = header tags values n t (place-fits tags values n formed t h k) in cells-kept t h (omega arith)

    sort-below : (d t : ℕ) → t < d → t < n → is_sort_tag (get_or tags t 0) ≡ true → sort_tree tags' values' t ≡ sort_tree tags values t
    unfolding sort_tree sort_step
    sort-below zero t f h k = absurd (omega arith)
    sort-below (suc d) t f h k =
        let here : Described tags values t = place-described tags values n formed s.long t h (sort-tagged _ k) in
        by_place-is (sort_step tags' values') no_sort t
        ∙ (rw (s.tags-same t h, run-kept t h (sort-tagged _ k))
        (made-sort tags t (sort_tree tags values) (λ u. cond (ltb u t) (sort_tree tags' values' u) no_sort)
        (λ u l m. rw (lt-ltb u t l) (sort-below d u (omega arith) (omega arith) m)) (cells_of values t) (get_or tags t 0) k here.count here.each-cell)
        ∙ sym (sort-is tags values n s.long formed t h k))

    pub sort-kept : (t : ℕ) → t < n → is_sort_tag (get_or tags t 0) ≡ true → sort_tree tags' values' t ≡ sort_tree tags values t
    sort-kept t = sort-below (suc t) t (omega arith)

    tree-below : (d t : ℕ) → t < d → t < n → is_term_tag (get_or tags t 0) ≡ true → tree tags' values' t ≡ tree tags values t
    unfolding tree term_step
    tree-below zero t f h k = absurd (omega arith)
    tree-below (suc d) t f h k =
        let here : Described tags values t = place-described tags values n formed s.long t h (term-tagged _ k) in
        by_place-is (term_step tags' values') no_term t
        ∙ (rw (s.tags-same t h, run-kept t h (term-tagged _ k))
        (made-same tags t (sort_tree tags values) (sort_tree tags' values') (λ u l m. sort-kept u (omega arith) m)
        (tree tags values) (λ u. cond (ltb u t) (tree tags' values' u) no_term)
        (λ u l m. rw (lt-ltb u t l) (tree-below d u (omega arith) (omega arith) m)) (cells_of values t) (get_or tags t 0) k here.count here.each-cell)
        ∙ sym (term_is tags values n s.long formed t h k))

    pub tree-kept : (t : ℕ) → t < n → is_term_tag (get_or tags t 0) ≡ true → tree tags' values' t ≡ tree tags values t
    tree-kept t = tree-below (suc t) t (omega arith)
