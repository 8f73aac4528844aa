-- The sort that a term states, and the variable at a place, in a pool that passes check 14.
-- Assumes nothing.
use Rattle.std.specs.Prelude.{None}
use Prim.Native.Nat.{ℕ, ◌+◌, ◌≤◌, ◌<◌}
use mathlib.Core.Path.{◌≡◌, refl, ap, ap₂, ◌∙◌}
use mathlib.Core.Bool.{true}
use mathlib.Core.List.{List, [], ◌∷◌}
use lib.ListN.{length, get_or}
use lib.Seq.{get_or-take, get_or-drop}
use native.Mathlib.Omega.{arith}
use borrow.Author.Tests.{eqb-true, leb-true}
use Rattle.cells.specs.Cell.{cells_of, sort_of}
use Rattle.headers.specs.WellFormed.{shape_of, count_fits, kind_at, pair_kind, is_sort_tag, is_term_tag, first_bad}
use Rattle.meaning.specs.Sort.{Sort}
use Rattle.meaning.specs.Term.{Term, stated, var}
use Rattle.meaning.specs.Tree.{sort_tree, term_from, tree}
use Rattle.meaning.specs.FreeTree.{var_at}
use Rattle.headers.specs.declared.well_formed.CellKind.TheVariants.{OfSort}
use Rattle.meaning.proofs.trees.Header.{Header, header, cells-length, sort-cell, term-tagged}
use Rattle.meaning.proofs.trees.Walk.{place-fits}
use Rattle.meaning.proofs.trees.Tags.{shape-op, by-term-tag}
use Rattle.meaning.proofs.trees.Parts.{two_cells}
use Rattle.meaning.proofs.trees.Terms.{term_is, term-op, even-rest}

-- the sort of a term is that of its first cell
module _ (sort_at : ℕ → Sort) (term_at : ℕ → Term) where
  stated-op : (cells : List ℕ) (k : ℕ) → 32 ≤ k → k < 167 → stated (term_from k cells sort_at term_at) ≡ sort_at (get_or cells 0 0)
  unfolding stated
  stated-op cells k h l = rw (term-op sort_at term_at k cells h l)

  stated-first : (cells : List ℕ) (k m : ℕ) → is_term_tag k ≡ true → count_fits (shape_of k) m ≡ true → stated (term_from k cells sort_at term_at) ≡ sort_at (get_or cells 0 0)
  unfolding stated term_from
  stated-first cells = by-term-tag (λ k. stated (term_from k cells sort_at term_at) ≡ sort_at (get_or cells 0 0)) refl refl refl refl refl refl refl refl refl refl refl refl (stated-op cells)

-- a term has a first cell, and it names a sort
module _ (m : ℕ) where
  abbrev First : ℕ → Type 0
  First k = count_fits (shape_of k) m ≡ true → (kind_at (shape_of k) 0 ≡ OfSort) × (1 ≤ m)

  first-op : (k : ℕ) → 32 ≤ k → k < 167 → First k
  unfolding count_fits kind_at
  first-op k h l e = (rw (shape-op k h l), leb-true 1 m (rw (shape-op k h l) at e))

  pub first-sort : (k : ℕ) → is_term_tag k ≡ true → First k
  unfolding count_fits shape_of kind_at pair_kind
  first-sort k t c =
      by-term-tag First
      (λ e. (refl, omega (arith, eqb-true m 2 e)))
      (λ e. (refl, omega (arith, eqb-true m 2 e)))
      (λ e. (refl, omega (arith, eqb-true m 2 e)))
      (λ e. (refl, omega (arith, eqb-true m 2 e)))
      (λ e. (refl, omega (arith, eqb-true m 3 e)))
      (λ e. (refl, omega (arith, eqb-true m 2 e)))
      (λ e. (refl, omega (arith, leb-true 2 m e)))
      (λ e. (refl, omega (arith, even-rest m e)))
      (λ e. (refl, omega (arith, even-rest m e)))
      (λ e. (refl, omega (arith, even-rest m e)))
      (λ e. (refl, omega (arith, even-rest m e)))
      (λ e. (refl, omega (arith, even-rest m e)))
      first-op
      k m t c c

pub var-tag : (k : ℕ) → k ≡ 21 → is_term_tag k ≡ true
unfolding is_term_tag
var-tag k e = rw e

module _ (tags values : List ℕ) (n : ℕ) (whole : n ≤ length values) (formed : first_bad tags values n ≡ None) where
  module _ (t : ℕ) (h : t < n) (k : is_term_tag (get_or tags t 0) ≡ true) where
    fits : Header tags values n t
    fits = header tags values n t (place-fits tags values n formed t h (term-tagged _ k))

    cell-is : (j : ℕ) → j < get_or values t 0 → get_or (cells_of values t) j 0 ≡ get_or values (t + 1 + j) 0
    unfolding cells_of
    cell-is j l = rw (get_or-take, get_or-drop)

    -- the first cell names a sort
    pub sort-place : (sort_of values t < t) × (is_sort_tag (get_or tags (sort_of values t) 0) ≡ true)
    unfolding sort_of
    sort-place =
        let (e, l) = first-sort (get_or values t 0) (get_or tags t 0) k fits.count in
        let z : t + 1 + 0 ≡ t + 1 = omega arith in
        sort-cell tags t (get_or values (t + 1) 0) (rw (e, z) at (fits.holds 0 (omega arith)))

    -- the term at t states the sort at its first cell
    pub stated-is : stated (tree tags values t) ≡ sort_tree tags values (sort_of values t)
    unfolding sort_of
    stated-is =
        let (e, l) = first-sort (get_or values t 0) (get_or tags t 0) k fits.count in
        let z : t + 1 + 0 ≡ t + 1 = omega arith in
        rw (term_is tags values n whole formed t h k)
        (stated-first (sort_tree tags values) (tree tags values) (cells_of values t) (get_or tags t 0) (get_or values t 0) k fits.count
        ∙ ap (sort_tree tags values) (rw (cell-is 0 (omega arith), z)))

  -- a variable's cells: its sort and its name
  pub var-cells : (t : ℕ) → t < n → get_or tags t 0 ≡ 21 → cells_of values t ≡ sort_of values t ∷ get_or values (t + 2) 0 ∷ []
  unfolding sort_of shape_of count_fits
  var-cells t h e =
      let k : is_term_tag (get_or tags t 0) ≡ true = var-tag _ e in
      let two : get_or values t 0 ≡ 2 = eqb-true _ 2 (rw e at (fits t h k).count) in
      let first : t + 1 + 0 ≡ t + 1 = omega arith in
      let second : t + 1 + 1 ≡ t + 2 = omega arith in
      two_cells (λ cs. get_or cs 0 0 ≡ get_or values (t + 1) 0 → get_or cs 1 0 ≡ get_or values (t + 2) 0 → cs ≡ get_or values (t + 1) 0 ∷ get_or values (t + 2) 0 ∷ [])
      (λ a b p q. ap₂ (λ (a b : ℕ). a ∷ b ∷ []) p q) (cells_of values t) (cells-length tags values t n whole (fits t h k) ∙ two)
      (rw (cell-is t h k 0 (omega arith), first)) (rw (cell-is t h k 1 (omega arith), second))

  pub var-is : (t : ℕ) → t < n → get_or tags t 0 ≡ 21 → tree tags values t ≡ var (var_at tags values t)
  unfolding var_at term_from
  var-is t h e = rw (term_is tags values n whole formed t h (var-tag _ e), e, var-cells t h e)
