-- The sorts of a pool that passes checks 14 and 15.
--     sort-is        the sort at a place is what its cells say, of the sorts at the places that they hold
--     sort-one       two places with equal sorts are one place
--     made_one       a place with the sort of a tag and cells has that tag and those cells
-- A sort's tag and parts are read off its tree again.
-- Assumes nothing.
use Rattle.std.specs.Prelude.{None}
use Prim.Native.Nat.{ℕ, zero, suc, ◌≤◌, ◌<◌}
use mathlib.Core.Path.{◌≡◌, refl, sym, ap, ap₂, ◌∙◌}
use mathlib.Core.Bool.{true, cond}
use mathlib.Core.List.{List, [], ◌∷◌}
use lib.ListN.{length, get_or}
use lib.Dec.{ltb}
use native.Mathlib.Omega.{arith}
use borrow.Author.Tests.{eqb-true, leb-true, lt-ltb}
use Rattle.cells.specs.Cell.{cells_of}
use Rattle.cells.specs.ByPlace.{by_place-is}
use Rattle.headers.specs.WellFormed.{shape_of, count_fits, kind_at, value_fits, is_sort_tag, first_bad}
use Rattle.descriptions.specs.Description.{first_repeat}
use Rattle.meaning.specs.Sort.{Sort, Sorts, bool, int, real, string, reglan, param_bit_vec, bit_vec, sort_var, atom, function, array, set, tuple, no_sort, snil, scons}
use Rattle.meaning.specs.Tree.{sorts_of, sort_from, sort_step, sort_tree}
use Rattle.headers.specs.declared.well_formed.Shape.{Shape}
use Rattle.headers.specs.declared.well_formed.Shape.TheVariants.{Named, Sorts as SortList}
use Rattle.headers.specs.declared.well_formed.CellKind.TheVariants.{OfSort}
use Rattle.meaning.proofs.trees.Header.{Each, Described, sort-cell, sort-tagged}
use Rattle.meaning.proofs.trees.Walk.{place-described, one_place}
use Rattle.meaning.proofs.trees.Tags.{by-sort-tag}
use Rattle.meaning.proofs.trees.Parts.{Part, number, sort, parts, parts-one, Reads, one-description, not_first, no_cell, one_cell, two_cells, from_one}

-- ---- a sort's tag and parts
unfoldable tag_of : Sort → ℕ
tag_of bool = 1
tag_of int = 2
tag_of real = 3
tag_of string = 4
tag_of reglan = 5
tag_of param_bit_vec = 6
tag_of (bit_vec w) = 7
tag_of (sort_var a) = 8
tag_of (atom a ss) = 9
tag_of (function ss) = 10
tag_of (array s t) = 11
tag_of (set s) = 12
tag_of (tuple ss) = 13
tag_of no_sort = 0

list_of : Sorts → List (Part Sort ℕ)
list_of snil = []
list_of (scons s ss) = sort s ∷ list_of ss

parts_of : Sort → List (Part Sort ℕ)
unfolding list_of
parts_of bool = []
parts_of int = []
parts_of real = []
parts_of string = []
parts_of reglan = []
parts_of param_bit_vec = []
parts_of (bit_vec w) = number w ∷ []
parts_of (sort_var a) = number a ∷ []
parts_of (atom a ss) = number a ∷ list_of ss
parts_of (function ss) = list_of ss
parts_of (array s t) = sort s ∷ (sort t ∷ [])
parts_of (set s) = sort s ∷ []
parts_of (tuple ss) = list_of ss
parts_of no_sort = []

-- no cell of a sort names a term
abbrev sort_parts : (ℕ → Sort) → Shape → ℕ → List ℕ → List (Part Sort ℕ)
sort_parts sort_at = parts sort_at (λ u. u)

module _ (sort_at : ℕ → Sort) where
  list-parts : (shape : Shape) (j : ℕ) (cs : List ℕ) → ((i : ℕ) → j ≤ i → kind_at shape i ≡ OfSort) → list_of (sorts_of sort_at cs) ≡ sort_parts sort_at shape j cs
  unfolding list_of sorts_of
  list-parts shape j [] k = refl
  list-parts shape j (c ∷ cs) k = rw (k j (omega arith)) (ap (λ (l : List (Part Sort ℕ)). sort (sort_at c) ∷ l) (list-parts shape (suc j) cs (λ i h. k i (omega arith))))

  abbrev Read : ℕ → List ℕ → Type 0
  Read k cells = (tag_of (sort_from k cells sort_at) ≡ k) × (parts_of (sort_from k cells sort_at) ≡ sort_parts sort_at (shape_of k) 0 cells)

  reads : (cells : List ℕ) (k : ℕ) → is_sort_tag k ≡ true → count_fits (shape_of k) (length cells) ≡ true → Read k cells
  unfolding tag_of parts_of sort_from shape_of count_fits kind_at
  reads cells =
      by-sort-tag (λ k. count_fits (shape_of k) (length cells) ≡ true → Read k cells)
      (λ e. no_cell (Read 1) (refl, refl) cells (eqb-true _ _ e))
      (λ e. no_cell (Read 2) (refl, refl) cells (eqb-true _ _ e))
      (λ e. no_cell (Read 3) (refl, refl) cells (eqb-true _ _ e))
      (λ e. no_cell (Read 4) (refl, refl) cells (eqb-true _ _ e))
      (λ e. no_cell (Read 5) (refl, refl) cells (eqb-true _ _ e))
      (λ e. no_cell (Read 6) (refl, refl) cells (eqb-true _ _ e))
      (λ e. one_cell (Read 7) (λ w. (refl, refl)) cells (eqb-true _ _ e))
      (λ e. one_cell (Read 8) (λ a. (refl, refl)) cells (eqb-true _ _ e))
      (λ e. from_one (Read 9) (λ a cs. (refl, ap (λ (l : List (Part Sort ℕ)). number a ∷ l) (list-parts Named 1 cs (λ i h. not_first _ _ i h)))) cells (leb-true _ _ e))
      (λ e. (refl, list-parts SortList 0 cells (λ i h. refl)))
      (λ e. two_cells (Read 11) (λ s t. (refl, refl)) cells (eqb-true _ _ e))
      (λ e. one_cell (Read 12) (λ s. (refl, refl)) cells (eqb-true _ _ e))
      (λ e. (refl, list-parts SortList 0 cells (λ i h. refl)))

-- ---- the cells of a sort name earlier places
module _ (tags : List ℕ) (p : ℕ) (before sort_at : ℕ → Sort) (agree : (c : ℕ) → c < p → before c ≡ sort_at c) where
  agree-cell : (c : ℕ) → value_fits tags p OfSort c ≡ true → before c ≡ sort_at c
  agree-cell c h = agree c (sort-cell tags p c h).0

  list-agrees : (shape : Shape) (j : ℕ) (cs : List ℕ) → ((i : ℕ) → j ≤ i → kind_at shape i ≡ OfSort) → Each tags p shape j cs → sorts_of before cs ≡ sorts_of sort_at cs
  unfolding sorts_of
  list-agrees shape j [] k h = refl
  list-agrees shape j (c ∷ cs) k h = ap₂ scons (agree-cell c (rw (k j (omega arith)) at h.0)) (list-agrees shape (suc j) cs (λ i l. k i (omega arith)) h.1)

  abbrev Agrees : ℕ → List ℕ → Type 0
  Agrees k cells = Each tags p (shape_of k) 0 cells → sort_from k cells before ≡ sort_from k cells sort_at

  agrees : (cells : List ℕ) (k : ℕ) → is_sort_tag k ≡ true → count_fits (shape_of k) (length cells) ≡ true → Agrees k cells
  unfolding sort_from shape_of count_fits kind_at
  agrees cells =
      by-sort-tag (λ k. count_fits (shape_of k) (length cells) ≡ true → Agrees k cells)
      (λ e h. refl)
      (λ e h. refl)
      (λ e h. refl)
      (λ e h. refl)
      (λ e h. refl)
      (λ e h. refl)
      (λ e h. refl)
      (λ e h. refl)
      (λ e. from_one (Agrees 9) (λ a cs h. ap (atom a) (list-agrees Named 1 cs (λ i l. not_first _ _ i l) h.1)) cells (leb-true _ _ e))
      (λ e h. ap function (list-agrees SortList 0 cells (λ i l. refl) h))
      (λ e. two_cells (Agrees 11) (λ s t h. ap₂ array (agree-cell s h.0) (agree-cell t h.1.0)) cells (eqb-true _ _ e))
      (λ e. one_cell (Agrees 12) (λ s h. ap set (agree-cell s h.0)) cells (eqb-true _ _ e))
      (λ e h. ap tuple (list-agrees SortList 0 cells (λ i l. refl) h))

-- ---- the theorems
module _ (tags values : List ℕ) (n : ℕ) (whole : n ≤ length values) (formed : first_bad tags values n ≡ None) where
  at : (s : ℕ) → s < n → is_sort_tag (get_or tags s 0) ≡ true → Described tags values s
  at s h k = place-described tags values n formed whole s h (sort-tagged _ k)

  -- the sort at s is what its cells say
  pub sort-is : (s : ℕ) → s < n → is_sort_tag (get_or tags s 0) ≡ true → sort_tree tags values s ≡ sort_from (get_or tags s 0) (cells_of values s) (sort_tree tags values)
  unfolding sort_tree sort_step
  sort-is s h k =
      by_place-is (sort_step tags values) no_sort s
      ∙ agrees tags s (λ u. cond (ltb u s) (sort_tree tags values u) no_sort) (sort_tree tags values) (λ c l. rw (lt-ltb c s l)) (cells_of values s) (get_or tags s 0) k (at s h k).count (at s h k).each-cell

  read_at : (s : ℕ) → s < n → is_sort_tag (get_or tags s 0) ≡ true → Reads (sort_tree tags values) (λ u. u) tag_of parts_of tags values s (sort_tree tags values s)
  read_at s h k =
      let (t, p) = reads (sort_tree tags values) (cells_of values s) (get_or tags s 0) k (at s h k).count in
      record { tag_is = rw (sort-is s h k) t; parts_are = rw (sort-is s h k) p }

  module _ (single : first_repeat tags values n ≡ None) where
    same-sort : (d s u : ℕ) → s < d → s < n → u < n → is_sort_tag (get_or tags s 0) ≡ true → is_sort_tag (get_or tags u 0) ≡ true
        → sort_tree tags values s ≡ sort_tree tags values u → s ≡ u
    same-sort zero s u f h l k m e = absurd (omega arith)
    same-sort (suc d) s u f h l k m e =
        let (tag, cells) = one-description (sort_tree tags values) (λ c. c) tag_of parts_of tags values s u (sort_tree tags values s)
        (read_at s h k) (rw e (read_at u l m)) (at s h k) (at u l m)
        (λ a b i j. same-sort d a b (omega arith) (omega arith) (omega arith)) (λ a b i j x y q. q) in
        one_place tags values n formed single s u h l (sort-tagged _ k) tag cells

    -- two places with equal sorts are one place
    pub sort-one : (s u : ℕ) → s < n → u < n → is_sort_tag (get_or tags s 0) ≡ true → is_sort_tag (get_or tags u 0) ≡ true
        → sort_tree tags values s ≡ sort_tree tags values u → s ≡ u
    sort-one s u = same-sort (suc s) s u (omega arith)

    -- a place has the sort of a tag and cells only if they are its own
    pub made_one : (s k : ℕ) (cells : List ℕ) → s < n → is_sort_tag (get_or tags s 0) ≡ true
        → is_sort_tag k ≡ true → count_fits (shape_of k) (length cells) ≡ true → Each tags n (shape_of k) 0 cells
        → sort_tree tags values s ≡ sort_from k cells (sort_tree tags values) → (get_or tags s 0 ≡ k) × (cells_of values s ≡ cells)
    made_one s k cells h l m c f e =
        let (t, p) = reads (sort_tree tags values) cells k m c in
        let tag : get_or tags s 0 ≡ k = sym (read_at s h l).tag_is ∙ (ap tag_of e ∙ t) in (
          tag,
          parts-one (sort_tree tags values) (λ u. u) tags s n (λ a b i j. sort-one a b (omega arith) j) (λ a b i j x y q. q) (shape_of k) 0 (cells_of values s) cells
              (rw tag at (at s h l).each-cell) f (rw tag at (sym (read_at s h l).parts_are) ∙ (ap parts_of e ∙ p)),
        )
