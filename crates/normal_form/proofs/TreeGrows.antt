-- Trees in a pool that grows: old places keep theirs, and what is put has that of its tag and cells.
--     sort-grows, tree-grows     a sort and a term of a pool have the same trees in every pool that goes on
--     put-term                   the term that is put
-- Assumes nothing.
use Rattle.std.specs.Prelude.{Option, Some, None}
use Prim.Native.Nat.{ℕ, zero, suc, ◌+◌, ◌-◌, ◌<◌}
use mathlib.Core.Path.{◌≡◌, refl, sym, ap, ◌∙◌}
use mathlib.Core.Bool.{Bool, true, false, not}
use mathlib.Core.List.{List, [], ◌∷◌}
use lib.ListN.{length, get_or, replicate, get_or-replicate}
use lib.Seq.{get_or_at, get_or-append-add}
use native.Mathlib.Omega.{arith}
use borrow.Author.Tests.{lt-ltb, ne_eqb}
use Rattle.cells.specs.Bounded.{every_in, every}
use Rattle.cells.specs.Cell.{cells_of, is_at}
use Rattle.cells.proofs.Walks.{first-end, first_next, found-holds}
use Rattle.descriptions.specs.Description.{find}
use Rattle.headers.specs.WellFormed.{shape_of, count_fits, kind_at, is_sort_tag, is_term_tag, value_fits, cell_fits, bool_first, header_fits, first_bad}
use Rattle.headers.specs.declared.well_formed.Shape.{Shape}
use Rattle.descriptions.proofs.description.Growth.{Same}
use Rattle.meaning.specs.Tree.{sort_tree, term_from, tree}
use Rattle.meaning.proofs.trees.Header.{Each}
use Rattle.meaning.proofs.trees.Terms.{term_is}
use Rattle.formulas.specs.Built.{Pool, Placed, count, extend, place_at, put}
use Rattle.meaning.proofs.places.Operands.{IsTerm}
use Rattle.meaning.proofs.places.SameTree.{at_true, made-same, value-kept, formed-kept, sort-kept, tree-kept}
use Rattle.building.proofs.Interning.{Good, Grows, PutOn, extend-count, put_on}

-- a pool that passes check 14, filled by its headers
pub record Sound (q : Pool) : Type 0 where
  pub good : Good q
  pub formed : first_bad q.tags q.values (count q) ≡ None
  pub some : 0 < count q

-- a header with this tag and these cells passes check 14 after the cells of q
pub record Fit (q : Pool) (tag : ℕ) (cells : List ℕ) : Type 0 where
  pub count-fits : count_fits (shape_of tag) (length cells) ≡ true
  pub each-cell : Each q.tags (count q) (shape_of tag) 0 cells

-- ---- old places
module _ (q q' : Pool) (good : Good q) (good' : Good q') (g : Grows q q') where
  pub cells_same : Same (count q) q.tags q.values q'.tags q'.values
  cells_same = record {
    long = omega (arith, good.size);
    long' = omega (arith, good'.size, g.longer);
    tags-same = g.tags-same;
    values_same = g.values_same;
  }

module _ (q q' : Pool) (s : Sound q) (good' : Good q') (g : Grows q q') where
  pub sort-grows : (t : ℕ) → t < count q → is_sort_tag (get_or q.tags t 0) ≡ true → sort_tree q'.tags q'.values t ≡ sort_tree q.tags q.values t
  sort-grows = sort-kept (count q) q.tags q.values q'.tags q'.values (cells_same q q' s.good good' g) s.formed

  pub tree-grows : (t : ℕ) → t < count q → is_term_tag (get_or q.tags t 0) ≡ true → tree q'.tags q'.values t ≡ tree q.tags q.values t
  tree-grows = tree-kept (count q) q.tags q.values q'.tags q'.values (cells_same q q' s.good good' g) s.formed

-- ---- one more header
every_true : (test : ℕ → Bool) (f j : ℕ) → ((i : ℕ) → i < j + f → test i ≡ true) → every_in test f j ≡ true
unfolding every_in
every_true test zero j a = refl
every_true test (suc f) j a = rw (a j (omega arith)) (every_true test f (suc j) (λ i l. a i (omega arith)))

each_at : (tags : List ℕ) (p : ℕ) (shape : Shape) (j : ℕ) (cs : List ℕ) → Each tags p shape j cs → (i : ℕ) → i < length cs
    → value_fits tags p (kind_at shape (j + i)) (get_or cs i 0) ≡ true
each_at tags p shape j [] f i h = absurd (omega arith)
each_at tags p shape j (c ∷ cs) f zero h = let z : j + 0 ≡ j = omega arith in rw z f.0
each_at tags p shape j (c ∷ cs) f (suc i) h = let z : j + suc i ≡ suc j + i = omega arith in rw z (each_at tags p shape (suc j) cs f.1 i (omega arith))

module _ (q : Pool) (tag : ℕ) (cells : List ℕ) (s : Sound q) (fit : Fit q tag cells) (q⁺ : Pool) (is : q⁺ ≡ extend q tag cells) (good⁺ : Good q⁺) (grows : Grows q q⁺) where
  tag-new : get_or q⁺.tags (count q) 0 ≡ tag
  tag-new = rw is (get_or_at q.tags tag (replicate (length cells) 0) 0 (count q) refl)

  count-new : get_or q⁺.values (count q) 0 ≡ length cells
  count-new = rw is (get_or_at q.values (length cells) cells 0 (count q) s.good.size)

  blank-new : (j : ℕ) → j < length cells → get_or q⁺.tags (count q + 1 + j) 0 ≡ 0
  blank-new j h =
      let z : count q + 1 + j ≡ count q + suc j = omega arith in
      rw (is, z) (get_or-append-add q.tags (tag ∷ replicate (length cells) 0) (suc j) 0 ∙ get_or-replicate (length cells) j 0 0 h)

  cell-new : (j : ℕ) → get_or q⁺.values (count q + 1 + j) 0 ≡ get_or cells j 0
  cell-new j =
      let z : count q + 1 + j ≡ length q.values + suc j = omega (arith, s.good.size) in
      rw (is, z) (get_or-append-add q.values (length cells ∷ cells) (suc j) 0)

  fits-new : (j : ℕ) → j < length cells → cell_fits q⁺.tags q⁺.values (count q) (shape_of tag) j ≡ true
  unfolding cell_fits
  fits-new j h =
      rw (
        blank-new j h,
        cell-new j,
        value-kept (count q) q.tags q.values q⁺.tags q⁺.values (cells_same q q⁺ s.good good⁺ grows) (count q) (omega arith) (kind_at (shape_of tag) j) (get_or cells j 0),
      )
      (let z : 0 + j ≡ j = omega arith in rw z at (each_at q.tags (count q) (shape_of tag) 0 cells fit.each-cell j h))

  longer : count q⁺ ≡ count q + 1 + length cells
  longer = ap (λ (x : Pool). count x) is ∙ extend-count q tag cells

  header-new : header_fits q⁺.tags q⁺.values (count q⁺) (count q) ≡ true
  unfolding header_fits bool_first every
  header-new =
      rw (
        ne_eqb (count q) 0 (λ z. omega (arith, s.some)),
        tag-new,
        count-new,
        lt-ltb (length cells) (count q⁺ - count q) (omega (arith, longer)),
        fit.count-fits,
      )
      (every_true (cell_fits q⁺.tags q⁺.values (count q) (shape_of tag)) (length cells - 0) 0 (λ i l. fits-new i (omega arith)))

  extend-formed : first_bad q⁺.tags q⁺.values (count q⁺) ≡ None
  extend-formed =
      formed-kept (count q) q.tags q.values q⁺.tags q⁺.values (cells_same q q⁺ s.good good⁺ grows) s.formed (count q⁺) grows.longer
      (first_next q⁺.values (count q⁺) bad _ (count q) refl (omega (arith, longer)) false (sym (ap not header-new)) refl (length cells) (sym count-new)
      ∙ sym (first-end q⁺.values (count q⁺) bad _ (count q + (1 + length cells)) refl (omega (arith, longer))))
    where
      bad : ℕ → Bool
      bad p = not (header_fits q⁺.tags q⁺.values (count q⁺) p)

-- ---- what is put
found_at : (tags values : List ℕ) (n tag : ℕ) (cells : List ℕ) (p : ℕ) → find tags values n tag cells ≡ Some p → (get_or tags p 0 ≡ tag) × (cells_of values p ≡ cells)
unfolding find
found_at tags values n tag cells p e = at_true tags values p tag cells (found-holds values n (λ q. is_at tags values q tag cells) p e)

-- the term with this tag and these cells stands in the pool, which goes on from q
pub record PutTerm (q : Pool) (tag : ℕ) (cells : List ℕ) (o : Placed) : Type 0 where
  pub sound : Sound o.pool
  pub grows : Grows q o.pool
  pub term : IsTerm o.pool.tags (count o.pool) o.place
  pub tree_is : tree o.pool.tags o.pool.values o.place ≡ term_from tag cells (sort_tree q.tags q.values) (tree q.tags q.values)

module _ (q : Pool) (tag : ℕ) (cells : List ℕ) (s : Sound q) (fit : Fit q tag cells) where
  put-formed : first_bad (put q tag cells).pool.tags (put q tag cells).pool.values (count (put q tag cells).pool) ≡ None
  unfolding put
  put-formed = go (find q.tags q.values (count q) tag cells) refl (put_on q tag cells s.good)
    where
      go : (f : Option ℕ) → put q tag cells ≡ place_at q tag cells f → PutOn q tag cells (place_at q tag cells f)
          → first_bad (place_at q tag cells f).pool.tags (place_at q tag cells f).pool.values (count (place_at q tag cells f).pool) ≡ None
      go (Some p) e o = s.formed
      go None e o = extend-formed q tag cells s fit (extend q tag cells) refl o.good o.grows

  pub put-term : is_term_tag tag ≡ true → PutTerm q tag cells (put q tag cells)
  put-term k =
      let o = put q tag cells in
      let on = put_on q tag cells s.good in
      let (tag_is, cells_are) = found_at o.pool.tags o.pool.values (count o.pool) tag cells o.place on.found in
      let is-term : is_term_tag (get_or o.pool.tags o.place 0) ≡ true = rw tag_is k in
      record {
        sound = record { good = on.good; formed = put-formed; some = omega (arith, s.some, on.grows.longer) };
        grows = on.grows;
        term = (on.below, is-term);
        tree_is =
            term_is o.pool.tags o.pool.values (count o.pool) (omega (arith, on.good.size)) put-formed o.place on.below is-term
            ∙ rw (tag_is, cells_are)
            (made-same q.tags (count q) (sort_tree q.tags q.values) (sort_tree o.pool.tags o.pool.values) (sort-grows q o.pool s on.good on.grows)
            (tree q.tags q.values) (tree o.pool.tags o.pool.values) (tree-grows q o.pool s on.good on.grows)
            cells tag k fit.count-fits fit.each-cell);
      }
