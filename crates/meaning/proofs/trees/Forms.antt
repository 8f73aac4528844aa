-- The sort at a place taken apart, in a pool that passes check 14: its tag, its width and the sorts that it is applied to are those of its
-- cells.
-- Assumes nothing.
use Rattle.std.specs.Prelude.{None}
use Prim.Native.Nat.{ℕ, suc, ◌+◌, ◌≤◌, ◌<◌}
use mathlib.Core.Path.{◌≡◌, refl, ap, ◌∙◌}
use mathlib.Core.Bool.{true}
use mathlib.Core.List.{List, [], ◌∷◌, map}
use lib.ListN.{length, get_or}
use lib.Seq.{get_or-take, get_or-drop}
use native.Mathlib.Omega.{arith}
use borrow.Author.Tests.{eqb-true, lt-ltb}
use Rattle.cells.specs.Cell.{cells_of}
use Rattle.headers.specs.WellFormed.{shape_of, count_fits, kind_at, value_fits, is_sort_tag, first_bad}
use Rattle.meaning.specs.Sort.{Sort, scons}
use Rattle.meaning.specs.Tree.{sorts_of, sort_from, sort_tree}
use Rattle.meaning.specs.SortTree.{entries, sorts_from, form_of, part}
use Rattle.headers.specs.declared.well_formed.Shape.TheVariants.{Sorts as SortList}
use Rattle.headers.specs.declared.well_formed.CellKind.TheVariants.{OfSort}
use Rattle.meaning.proofs.trees.Header.{Each, Header, header, cells-length, described, sort-cell, sort-tagged}
use Rattle.meaning.proofs.trees.Walk.{place-fits}
use Rattle.meaning.proofs.trees.Tags.{by-sort-tag}
use Rattle.meaning.proofs.trees.Parts.{one_cell}
use Rattle.meaning.proofs.trees.Sorts.{sort-is}

-- ---- lists of sorts
module _ (sort_at : ℕ → Sort) where
  pub entries-are : (cs : List ℕ) → entries (sorts_of sort_at cs) ≡ map sort_at cs
  unfolding entries sorts_of
  entries-are [] = refl
  entries-are (c ∷ cs) = ap (λ (l : List Sort). sort_at c ∷ l) (entries-are cs)

  pub sorts-are : (cs : List ℕ) → sorts_from (map sort_at cs) ≡ sorts_of sort_at cs
  unfolding sorts_from sorts_of
  sorts-are [] = refl
  sorts-are (c ∷ cs) = ap (scons (sort_at c)) (sorts-are cs)

-- ---- places of sorts
module _ (tags : List ℕ) (n : ℕ) where
  abbrev pub IsSort : ℕ → Type 0
  IsSort q = (q < n) × (is_sort_tag (get_or tags q 0) ≡ true)

  abbrev pub AllSorts : List ℕ → Type 0
  AllSorts [] = Unit {0}
  AllSorts (q ∷ qs) = IsSort q × AllSorts qs

  -- a cell of a header below n that names a sort
  pub sort-below : (p q : ℕ) → p ≤ n → value_fits tags p OfSort q ≡ true → IsSort q
  sort-below p q h e = let (l, k) = sort-cell tags p q e in (omega arith, k)

  pub sorts-below : (p j : ℕ) (cs : List ℕ) → p ≤ n → Each tags p SortList j cs → AllSorts cs
  unfolding kind_at
  sorts-below p j [] h f = tt
  sorts-below p j (c ∷ cs) h f = (sort-below p c h f.0, sorts-below p (suc j) cs h f.1)

  pub sort-fits : (q : ℕ) → IsSort q → value_fits tags n OfSort q ≡ true
  unfolding value_fits
  sort-fits q (h, k) = rw (lt-ltb q n h) k

  pub sorts-fit : (j : ℕ) (cs : List ℕ) → AllSorts cs → Each tags n SortList j cs
  unfolding kind_at
  sorts-fit j [] a = tt
  sorts-fit j (c ∷ cs) a = (sort-fits c a.0, sorts-fit (suc j) cs a.1)

-- the cell at position j of the header at p
pub cell_at : (values : List ℕ) (p j : ℕ) → j < get_or values p 0 → get_or (cells_of values p) j 0 ≡ get_or values (p + 1 + j) 0
unfolding cells_of
cell_at values p j l = rw (get_or-take, get_or-drop)

-- ---- the sort at s
module _ (tags values : List ℕ) (n : ℕ) (whole : n ≤ length values) (formed : first_bad tags values n ≡ None) where
  module _ (s : ℕ) (is : IsSort tags n s) where
    fits : Header tags values n s
    fits = header tags values n s (place-fits tags values n formed s is.0 (sort-tagged _ is.1))

    here : sort_tree tags values s ≡ sort_from (get_or tags s 0) (cells_of values s) (sort_tree tags values)
    here = sort-is tags values n whole formed s is.0 is.1

    pub tag_of : (form_of (sort_tree tags values s)).tag ≡ get_or tags s 0
    unfolding form_of sort_from
    tag_of = rw here (by-sort-tag (λ k. (form_of (sort_from k (cells_of values s) (sort_tree tags values))).tag ≡ k) refl refl refl refl refl refl refl refl refl refl refl refl refl (get_or tags s 0) is.1)

    pub width_of : get_or tags s 0 ≡ 7 → (form_of (sort_tree tags values s)).index ≡ get_or values (s + 1) 0
    unfolding form_of sort_from shape_of count_fits
    width_of e =
        let one : get_or values s 0 ≡ 1 = eqb-true _ 1 (rw e at fits.count) in
        let z : s + 1 + 0 ≡ s + 1 = omega arith in
        rw (here, e, cell_at values s 0 (omega arith), z)

    -- a Function's and a Tuple's sorts
    abbrev Listed : Type 0
    Listed = ((form_of (sort_tree tags values s)).sorts ≡ map (sort_tree tags values) (cells_of values s)) × AllSorts tags n (cells_of values s)

    listed : (k : ℕ) → get_or tags s 0 ≡ k → shape_of k ≡ SortList
        → (form_of (sort_from k (cells_of values s) (sort_tree tags values))).sorts ≡ entries (sorts_of (sort_tree tags values) (cells_of values s)) → Listed
    listed k e o f =
        let each : Each tags s (shape_of (get_or tags s 0)) 0 (cells_of values s) = (described tags values s n whole fits).each-cell in
        (rw (here, e) (f ∙ entries-are (sort_tree tags values) (cells_of values s)), sorts-below tags n s 0 (cells_of values s) (omega arith) (rw (e, o) at each))

    pub function-at : get_or tags s 0 ≡ 10 → Listed
    unfolding form_of sort_from shape_of
    function-at e = listed 10 e refl refl

    pub tuple_at : get_or tags s 0 ≡ 13 → Listed
    unfolding form_of sort_from shape_of
    tuple_at e = listed 13 e refl refl

    -- an Array's second sort
    pub array_at : get_or tags s 0 ≡ 11 → (part (sort_tree tags values s) 1 ≡ sort_tree tags values (get_or values (s + 2) 0)) × IsSort tags n (get_or values (s + 2) 0)
    unfolding form_of sort_from shape_of count_fits kind_at
    array_at e =
        let two : get_or values s 0 ≡ 2 = eqb-true _ 2 (rw e at fits.count) in
        let z : s + 1 + 1 ≡ s + 2 = omega arith in
        (rw (here, e, cell_at values s 1 (omega arith), z), sort-below tags n s _ (omega arith) (rw (e, z) at (fits.holds 1 (omega arith))))

    -- a Set's sort
    pub set_at : get_or tags s 0 ≡ 12 → (part (sort_tree tags values s) 0 ≡ sort_tree tags values (get_or values (s + 1) 0))
        × IsSort tags n (get_or values (s + 1) 0) × (cells_of values s ≡ get_or values (s + 1) 0 ∷ [])
    unfolding form_of sort_from shape_of count_fits kind_at cells_of
    set_at e =
        let one : get_or values s 0 ≡ 1 = eqb-true _ 1 (rw e at fits.count) in
        let z : s + 1 + 0 ≡ s + 1 = omega arith in
        let first : get_or (cells_of values s) 0 0 ≡ get_or values (s + 1) 0 = rw z at (cell_at values s 0 (omega arith)) in (
          rw (here, e, first),
          sort-below tags n s _ (omega arith) (rw (e, z) at (fits.holds 0 (omega arith))),
          one_cell (λ cs. get_or cs 0 0 ≡ get_or values (s + 1) 0 → cs ≡ get_or values (s + 1) 0 ∷ []) (λ a o. rw o) (cells_of values s) (cells-length tags values s n whole fits ∙ one) first,
        )
