-- What the walk of `free_masks` says of itself: what the memo holds, and what a walk leaves.
-- Rests on cells' Cell, on bindings' Binding, on free_variables' Free and FreeMemo, and on BindingFree and Mask.
use Rattle.std.specs.Prelude.{ℕ, ◌+◌, ◌-◌, ◌≡◌, Bool, false, cond, List, get_or, set, ltb}
use Rattle.cells.specs.Cell.{operands_of}
use Rattle.free_variables.specs.Free.{any_of}
use Rattle.free_variables.specs.FreeMemo.{pair_kind_of}
use Rattle.bindings.specs.Binding.{Binding, bindings_of}
use Rattle.free_pairs.specs.BindingFree.{binding_free}
use Rattle.free_pairs.specs.Mask.{mask_of, bound_in}

-- the pair a is free in the term at u, which stands before t; false of any other place
unfoldable pub binding_below : List ℕ → List ℕ → ℕ → Binding → ℕ → ℕ → Bool
binding_below tags values n a t u = cond (ltb u t) (binding_free tags values n u a) false

-- the pair a is free in the body at u of the term at t, and the term's own pairs do not bind it
unfoldable pub binding_under : List ℕ → List ℕ → ℕ → ℕ → ℕ → Binding → Bool
binding_under tags values n t u a =
    cond (bound_in values (pair_kind_of (get_or tags t 0)) (operands_of tags values t) a) false (binding_free tags values n u a)

-- the pairs of a list that are free in a term of the run that stands before t
unfoldable pub mask_among : List ℕ → List ℕ → ℕ → List ℕ → ℕ → List ℕ → ℕ
mask_among tags values n list t run = mask_of (λ a. any_of (binding_below tags values n a t) run) (bindings_of list)

-- the memo: an entry that is not 0 is the mask of its place, plus 1
pub record MaskMemo (tags values : List ℕ) (n : ℕ) (list memo : List ℕ) : Type 0 where
  pub at : (u : ℕ) → (get_or memo u 0 ≡ 0 → ⊥) → get_or memo u 0 - 1 ≡ mask_of (binding_free tags values n u) (bindings_of list)

-- the answer r is the one defined, and the memo left is right
pub record MaskWalked (tags values : List ℕ) (n : ℕ) (list memo : List ℕ) (r defined : ℕ) : Type 0 where
  pub is : r ≡ defined
  pub right : MaskMemo tags values n list memo

-- noting the mask of t hands it back as r; past the memo's end nothing is noted
pub record MaskNoted (memo : List ℕ) (t mask : ℕ) (after : List ℕ) (r : ℕ) : Type 0 where
  pub same : r ≡ mask
  pub kept : after ≡ set memo t (mask + 1)
