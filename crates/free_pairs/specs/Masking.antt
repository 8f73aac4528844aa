-- What the walkers of `FreeMasks` promise each other: what the memo holds, and the masks that they give.
-- Rests on bindings' Binding, on BindingFree, Mask and MaskWalk, and on the struct `FreeMasks`.
use Rattle.std.specs.Prelude.{ℕ, Bool, List}
use Rattle.bindings.specs.Binding.{Binding, bindings_of}
use Rattle.free_pairs.specs.declared.free_masks.FreeMasks.{FreeMasks}
use Rattle.free_pairs.specs.BindingFree.{binding_free}
use Rattle.free_pairs.specs.Mask.{mask_of}
use Rattle.free_pairs.specs.MaskWalk.{binding_under, mask_among, MaskMemo, MaskWalked}

-- a pair is free in the term at t
abbrev pub free_at : FreeMasks → ℕ → Binding → Bool
free_at m t = binding_free m.pool.now.tags.now m.pool.now.values.now m.n t

-- a pair is free in the body at u of the term at t, and the term's own pairs do not bind it
abbrev pub free_under : FreeMasks → ℕ → ℕ → Binding → Bool
free_under m t u = binding_under m.pool.now.tags.now m.pool.now.values.now m.n t u

-- the memo is right
abbrev pub MemoOf : FreeMasks → List ℕ → Type 0
MemoOf m memo = MaskMemo m.pool.now.tags.now m.pool.now.values.now m.n m.list.now memo

-- r is the mask of the pairs that pass the test, and the memo left is right
abbrev pub Gives : FreeMasks → List ℕ → ℕ → (Binding → Bool) → Type 0
Gives m memo r test = MaskWalked m.pool.now.tags.now m.pool.now.values.now m.n m.list.now memo r (mask_of test (bindings_of m.list.now))

-- the same of the pairs that are free in a term of the run that stands before t
abbrev pub GivesAmong : FreeMasks → List ℕ → ℕ → ℕ → List ℕ → Type 0
GivesAmong m memo r t run =
    MaskWalked m.pool.now.tags.now m.pool.now.values.now m.n m.list.now memo r
    (mask_among m.pool.now.tags.now m.pool.now.values.now m.n m.list.now t run)
