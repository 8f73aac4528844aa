-- Check 15 of a pool that grows: where no header repeats an earlier one, none does after a new description is put.
--     first-same          a walk over headers finds the same in two pools whose cells are the same
--     repeat-same         so does check 15
--     repeat-extended     one more header, whose description does not stand in the pool
-- Assumes nothing.
use Rattle.std.specs.Prelude.{Some, None}
use Prim.Native.Nat.{ℕ, ◌+◌, ◌-◌, ◌≤◌, ◌<◌}
use mathlib.Core.Path.{◌≡◌, refl, sym, ap, ap₂, ◌∙◌}
use mathlib.Core.Bool.{Bool, true, false}
use mathlib.Core.List.{List}
use lib.ListN.{length, get_or}
use lib.Seq.{get_or_at}
use lib.Dec.{leb}
use native.Mathlib.Omega.{arith}
use borrow.Author.Tests.{leb-true, leb-false}
use Rattle.cells.specs.ByPlace.{by-test}
use Rattle.cells.specs.Cell.{cells_of, is_at}
use Rattle.cells.specs.Headers.{first_from, first_header}
use Rattle.cells.proofs.Walks.{first-end, first-here, first_next, found-holds}
use Rattle.descriptions.specs.Description.{find, is_found, repeats, first_repeat}
use Rattle.descriptions.proofs.description.Fills.{Fills, filled, more, or_else, or_nothing, header-grown}
use Rattle.descriptions.proofs.description.Growth.{Same, cells_same, at_same}
use Rattle.formulas.specs.Built.{Pool, count, extend}
use Rattle.meaning.proofs.places.SameTree.{at_true}
use Rattle.building.proofs.Interning.{Good, Grows, extend-count}

-- ---- a walk up to m finds the same, where the tests agree at the headers that fill n
module _ (values : List ℕ) (n : ℕ) (values' : List ℕ) (same : (p : ℕ) → p < n → get_or values' p 0 ≡ get_or values p 0) (m : ℕ) (within : m ≤ n)
    (test test' : ℕ → Bool) (agree : (p : ℕ) → p < n → get_or values p 0 < n - p → test' p ≡ test p) where
  pub first-same : (p : ℕ) → Fills values n p → first_from values' m test' p ≡ first_from values m test p
  first-same p filled = sym (first-end values' m test' _ n refl within) ∙ first-end values m test _ n refl within
  first-same p (more h k f) =
      by-test (leb m p)
      (λ o. sym (first-end values' m test' _ p refl (leb-true m p o)) ∙ first-end values m test _ p refl (leb-true m p o))
      (λ o. let l : p < m = leb-false m p o in
      by-test (test p)
      (λ y. sym (first-here values' m test' _ p refl l true (sym (agree p h k ∙ y)) refl) ∙ first-here values m test _ p refl l true (sym y) refl)
      (λ y. first_next values' m test' _ p refl l false (sym (agree p h k ∙ y)) refl (get_or values p 0) (sym (same p h))
      ∙ (first-same (p + (1 + get_or values p 0)) f ∙ sym (first_next values m test _ p refl l false (sym y) refl (get_or values p 0) refl))))

-- ---- two pools whose cells below n are the same
module _ (n : ℕ) (tags values tags' values' : List ℕ) (s : Same n tags values tags' values') (fills : Fills values n 0) where
  find-same : (m : ℕ) → m ≤ n → (tag : ℕ) (cells : List ℕ) → find tags' values' m tag cells ≡ find tags values m tag cells
  unfolding find first_header
  find-same m l tag cells =
      first-same values n values' s.values_same m l (λ q. is_at tags values q tag cells) (λ q. is_at tags' values' q tag cells)
      (λ p h w. at_same n tags values tags' values' s p h w tag cells) 0 fills

  repeats-same : (p : ℕ) → p < n → get_or values p 0 < n - p → repeats tags' values' p ≡ repeats tags values p
  unfolding repeats
  repeats-same p h w =
      rw (s.tags-same p h, cells_same n tags values tags' values' s p h w)
      (ap is_found (find-same p (omega arith) (get_or tags p 0) (cells_of values p)))

  repeat-grown : (n' : ℕ) → n ≤ n' → first_repeat tags' values' n' ≡ or_else (first_repeat tags values n) (first_from values' n' (repeats tags' values') n)
  unfolding first_repeat
  repeat-grown n' g = header-grown values n values' n' g s.values_same (repeats tags values) (repeats tags' values') repeats-same fills

  pub repeat-same : first_repeat tags' values' n ≡ first_repeat tags values n
  repeat-same =
      repeat-grown n (omega arith)
      ∙ (ap (or_else (first_repeat tags values n)) (sym (first-end values' n (repeats tags' values') _ n refl (omega arith))) ∙ or_nothing (first_repeat tags values n))

-- ---- one more header
module _ (q : Pool) (tag : ℕ) (cells : List ℕ) (good : Good q) (good⁺ : Good (extend q tag cells)) (grows : Grows q (extend q tag cells))
    (new : find q.tags q.values (count q) tag cells ≡ None)
    (found : find (extend q tag cells).tags (extend q tag cells).values (count (extend q tag cells)) tag cells ≡ Some (count q))
    (single : first_repeat q.tags q.values (count q) ≡ None) where
  abbrev tags⁺ : List ℕ
  tags⁺ = (extend q tag cells).tags

  abbrev values⁺ : List ℕ
  values⁺ = (extend q tag cells).values

  abbrev n⁺ : ℕ
  n⁺ = count (extend q tag cells)

  same⁺ : Same (count q) q.tags q.values tags⁺ values⁺
  same⁺ = record {
    long = omega (arith, good.size);
    long' = omega (arith, good⁺.size, grows.longer);
    tags-same = grows.tags-same;
    values_same = grows.values_same;
  }

  count-new : get_or values⁺ (count q) 0 ≡ length cells
  count-new = get_or_at q.values (length cells) cells 0 (count q) good.size

  described : (get_or tags⁺ (count q) 0 ≡ tag) × (cells_of values⁺ (count q) ≡ cells)
  unfolding find
  described = at_true tags⁺ values⁺ (count q) tag cells (found-holds values⁺ n⁺ (λ p. is_at tags⁺ values⁺ p tag cells) (count q) found)

  new-alone : repeats tags⁺ values⁺ (count q) ≡ false
  unfolding repeats
  new-alone =
      rw (described.0, described.1)
      (ap is_found (find-same (count q) q.tags q.values tags⁺ values⁺ same⁺ good.fills (count q) (omega arith) tag cells ∙ new))

  pub repeat-extended : first_repeat tags⁺ values⁺ n⁺ ≡ None
  repeat-extended =
      repeat-grown (count q) q.tags q.values tags⁺ values⁺ same⁺ good.fills n⁺ grows.longer
      ∙ ap₂ or_else single
      (first_next values⁺ n⁺ (repeats tags⁺ values⁺) _ (count q) refl (omega (arith, extend-count q tag cells)) false (sym new-alone) refl (length cells) (sym count-new)
      ∙ sym (first-end values⁺ n⁺ (repeats tags⁺ values⁺) _ (count q + (1 + length cells)) refl (omega (arith, extend-count q tag cells))))
