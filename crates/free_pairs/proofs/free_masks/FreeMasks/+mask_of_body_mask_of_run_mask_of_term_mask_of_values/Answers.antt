use borrow.Author.Rules.{rules}
use Rattle.free_pairs.proofs.free_masks.Laws.{walks, finds, walk-known, under-walked, known-room, noted}
use Rattle.free_pairs.proofs.free_masks.FreeMasks.+mask_of_body_mask_of_run_mask_of_term_mask_of_values.Goals as goal
use Rattle.free_pairs.proofs.free_masks.FreeMasks.+mask_of_body_mask_of_run_mask_of_term_mask_of_values.Goals.{mask_of_term-in-Nothing, mask_of_term-in-Variable, mask_of_term-in-Body, mask_of_term-in-Run, mask_of_term-in-Values, mask_of_term-in-Let}
use Rattle.bindings.specs.Binding.{bindings_of}
use Rattle.free_pairs.specs.BindingFree.{binding_free}
use Rattle.free_pairs.specs.Mask.{mask_of}
use Rattle.free_pairs.specs.MaskWalk.{MaskWalked}

pub mask_of_run-returns-then-run-eq0 : goal.mask_of_run-returns-then-run-eq0
mask_of_run-returns-then-run-eq0 t c = search walks

pub mask_of_run-returns-then-t-u : goal.mask_of_run-returns-then-t-u
mask_of_run-returns-then-t-u t c = search walks

pub mask_of_run-returns : goal.mask_of_run-returns
mask_of_run-returns t c = search walks

pub mask_of_values-returns-then-run-lt3 : goal.mask_of_values-returns-then-run-lt3
mask_of_values-returns-then-run-lt3 t c = search walks

pub mask_of_values-returns-then-t-u : goal.mask_of_values-returns-then-t-u
mask_of_values-returns-then-t-u t c = search walks

pub mask_of_values-returns : goal.mask_of_values-returns
mask_of_values-returns t c = search walks

pub mask_of_term-note_mask-requires : goal.mask_of_term-note_mask-requires
mask_of_term-note_mask-requires t c = let w : MaskWalked c.args.self.now.pool.now.tags.now c.args.self.now.pool.now.values.now c.args.self.now.n c.args.self.now.list.now c.match-free_from.memo c.match-free_from.mask
    (mask_of (binding_free c.args.self.now.pool.now.tags.now c.args.self.now.pool.now.values.now c.args.self.now.n c.args.t.0) (bindings_of c.args.self.now.list.now)) = elim c.match-free_from.branch [
      | mask_of_term-in-Nothing w ↦ rw (w.memo-is, w.mask-is) (search (finds, rules))
      | mask_of_term-in-Variable w ↦ rw (w.memo-is, w.mask-is) (search (finds, rules))
      | mask_of_term-in-Body w ↦ rw (w.memo-is, w.mask-is) (search (finds, rules))
      | mask_of_term-in-Run w ↦ rw (w.memo-is, w.mask-is) (search (finds, rules))
      | mask_of_term-in-Values w ↦ rw (w.memo-is, w.mask-is) (search (finds, rules))
      | mask_of_term-in-Let w ↦ rw (w.memo-is, w.mask-is) (search (finds, rules))
    ] in
    known-room c.args.self.now.list.now c.args.self.now.short _ _ w.is

pub mask_of_term-returns-then-known-ne0 : goal.mask_of_term-returns-then-known-ne0
mask_of_term-returns-then-known-ne0 t c = search walk-known

pub mask_of_term-returns : goal.mask_of_term-returns
mask_of_term-returns t c = let w : MaskWalked c.args.self.now.pool.now.tags.now c.args.self.now.pool.now.values.now c.args.self.now.n c.args.self.now.list.now c.match-free_from.memo c.match-free_from.mask
    (mask_of (binding_free c.args.self.now.pool.now.tags.now c.args.self.now.pool.now.values.now c.args.self.now.n c.args.t.0) (bindings_of c.args.self.now.list.now)) = elim c.match-free_from.branch [
      | mask_of_term-in-Nothing w ↦ rw (w.memo-is, w.mask-is) (search (finds, rules))
      | mask_of_term-in-Variable w ↦ rw (w.memo-is, w.mask-is) (search (finds, rules))
      | mask_of_term-in-Body w ↦ rw (w.memo-is, w.mask-is) (search (finds, rules))
      | mask_of_term-in-Run w ↦ rw (w.memo-is, w.mask-is) (search (finds, rules))
      | mask_of_term-in-Values w ↦ rw (w.memo-is, w.mask-is) (search (finds, rules))
      | mask_of_term-in-Let w ↦ rw (w.memo-is, w.mask-is) (search (finds, rules))
    ] in
    noted _ _ _ _ _ _ _ w _ _ c.note_mask.ensures

pub mask_of_body-returns : goal.mask_of_body-returns
mask_of_body-returns t c = search (under-walked, rules)
