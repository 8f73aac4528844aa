-- Check 14 in two pools whose values below n are the same, and whose tags are once narrowed.
--     NarrowSame      two such pools: `Same` but for the narrowing
--     bad-same        the first bad header is the same
--     small-tag       where there is none, every tag is at most the last one
--     narrow-same     so the tags are the same, and from here on nothing speaks of narrowing
-- Assumes nothing.
use Rattle.std.specs.Prelude.{None}
use Prim.Native.Nat.{ℕ, zero, suc, ◌+◌, ◌-◌, ◌≤◌, ◌<◌}
use mathlib.Core.Path.{◌≡◌, refl, sym, ap, ◌∙◌}
use mathlib.Core.Bool.{Bool, true, false, not}
use mathlib.Core.List.{List}
use lib.ListN.{length, get_or}
use lib.Dec.{leb, ltb}
use native.Mathlib.Omega.{arith}
use borrow.Author.Tests.{ltb-true, ltb-false, leb-false}
use Rattle.cells.specs.ByPlace.{by-test}
use Rattle.cells.specs.Bounded.{every}
use Rattle.cells.specs.Headers.{first_in, first_from, first_header}
use Rattle.headers.specs.WellFormed.{shape_of, count_fits, kind_at, value_fits, cell_fits, bool_first, header_fits, first_bad}
use Rattle.headers.specs.declared.well_formed.Shape.{Shape}
use Rattle.headers.specs.declared.well_formed.CellKind.{CellKind}
use Rattle.headers.specs.declared.well_formed.CellKind.TheVariants.{Number, OfSort, OfTerm}
use Rattle.descriptions.proofs.description.Growth.{Same}
use Rattle.meaning.proofs.trees.Header.{Header, header}
use Rattle.meaning.proofs.trees.Walk.{place-fits}
use Rattle.meaning.proofs.places.SameTree.{every-same}
use Rattle.tag_layouts.specs.Narrowed.{last_tag, narrow}
use Rattle.tag_layouts.proofs.Tags.{narrow-small, shape-far, same_shape, same-sort-tag, same-term-tag, same-is}

pub record NarrowSame (n : ℕ) (tags values tags' values' : List ℕ) : Type 0 where
  pub long : n ≤ length values
  pub long' : n ≤ length values'
  pub tags-narrow : (i : ℕ) → i < n → narrow (get_or tags' i 0) ≡ narrow (get_or tags i 0)
  pub values_same : (i : ℕ) → i < n → get_or values' i 0 ≡ get_or values i 0

module _ (n : ℕ) (tags values tags' values' : List ℕ) (s : NarrowSame n tags values tags' values') where
  value_same : (p : ℕ) → p < n → (kind : CellKind) (v : ℕ) → value_fits tags' p kind v ≡ value_fits tags p kind v
  unfolding value_fits
  value_same p h Number v = refl
  value_same p h OfSort v = by-test (ltb v p) (λ e. rw (same-sort-tag _ _ (s.tags-narrow v (omega (arith, ltb-true v p e))))) (λ e. rw e)
  value_same p h OfTerm v = by-test (ltb v p) (λ e. rw (same-term-tag _ _ (s.tags-narrow v (omega (arith, ltb-true v p e))))) (λ e. rw e)

  cell_same : (p : ℕ) → p < n → get_or values p 0 < n - p → (shape : Shape) (j : ℕ) → j < get_or values p 0
      → cell_fits tags' values' p shape j ≡ cell_fits tags values p shape j
  unfolding cell_fits
  cell_same p h w shape j l =
      rw (
        same-is _ _ (s.tags-narrow (p + 1 + j) (omega arith)) 0 (omega arith),
        s.values_same (p + 1 + j) (omega arith),
        value_same p h (kind_at shape j) (get_or values (p + 1 + j) 0),
      )

  header-same : (p : ℕ) → p < n → header_fits tags' values' n p ≡ header_fits tags values n p
  unfolding header_fits bool_first every
  header-same p h =
      rw (same-is _ _ (s.tags-narrow p h) 1 (omega arith), same_shape _ _ (s.tags-narrow p h), s.values_same p h)
      (by-test (ltb (get_or values p 0) (n - p))
      (λ e. rw (every-same (cell_fits tags values p (shape_of (get_or tags p 0))) (cell_fits tags' values' p (shape_of (get_or tags p 0))) (get_or values p 0 - 0) 0
      (λ i l. cell_same p h (ltb-true _ _ e) (shape_of (get_or tags p 0)) i (omega arith))))
      (λ e. rw e))

  -- a walk whose test says the same at every place below n
  walk_same : (test test' : ℕ → Bool) → ((p : ℕ) → p < n → test' p ≡ test p) → (f p : ℕ) → first_in values' n test' f p ≡ first_in values n test f p
  unfolding first_in
  walk_same test test' agree zero p = refl
  walk_same test test' agree (suc f) p =
      by-test (leb n p) (λ e. rw e)
      (λ e. rw (agree p (leb-false n p e), s.values_same p (leb-false n p e), walk_same test test' agree f (p + (1 + get_or values p 0))))

  pub bad-same : first_bad tags' values' n ≡ first_bad tags values n
  unfolding first_bad first_header first_from
  bad-same = walk_same _ _ (λ p h. ap not (header-same p h)) (n - 0) 0

pub small-tag : (n : ℕ) (tags values : List ℕ) → first_bad tags values n ≡ None → (t : ℕ) → t < n → get_or tags t 0 ≤ last_tag
unfolding count_fits
small-tag n tags values formed t h =
    by-test (ltb last_tag (get_or tags t 0))
    (λ e.
    let far : last_tag < get_or tags t 0 = ltb-true last_tag (get_or tags t 0) e in
    let here : Header tags values n t = header tags values n t (place-fits tags values n formed t h (λ z. omega arith)) in
    let none : false ≡ true = rw (shape-far (get_or tags t 0) far) at here.count in
    let z : ◌≡◌ {A = ℕ} 0 1 = cc in absurd (omega arith))
    (λ e. ltb-false last_tag (get_or tags t 0) e)

pub narrow-same : (n : ℕ) (tags values tags' values' : List ℕ) → NarrowSame n tags values tags' values' → first_bad tags values n ≡ None
    → Same n tags values tags' values'
narrow-same n tags values tags' values' s formed = record {
  long = s.long;
  long' = s.long';
  tags-same = λ i h. sym (narrow-small _ (small-tag n tags' values' (bad-same n tags values tags' values' s ∙ formed) i h))
      ∙ (s.tags-narrow i h ∙ narrow-small _ (small-tag n tags values formed i h));
  values_same = s.values_same;
}
