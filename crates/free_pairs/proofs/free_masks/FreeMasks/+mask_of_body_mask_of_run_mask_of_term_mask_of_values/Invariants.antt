use lib.ListN.{length}
use Prim.Native.Nat.{◌*◌, ◌+◌, ◌^◌}
use Rattle.free_pairs.proofs.free_masks.FreeMasks.+mask_of_body_mask_of_run_mask_of_term_mask_of_values.Given as goal

-- The measures: the place, and at one place the term walker above the body's, and that above the rest of the run.
abbrev pub decreases-mask_of_body : goal.decreases-mask_of_body
decreases-mask_of_body l = l.t.0 * 2 ^ 65 + 2 ^ 64

abbrev pub decreases-mask_of_run : goal.decreases-mask_of_run
decreases-mask_of_run l = l.t.0 * 2 ^ 65 + length l.run.now

abbrev pub decreases-mask_of_term : goal.decreases-mask_of_term
decreases-mask_of_term l = l.t.0 * 2 ^ 65 + 2 ^ 64 + 1

abbrev pub decreases-mask_of_values : goal.decreases-mask_of_values
decreases-mask_of_values l = l.t.0 * 2 ^ 65 + length l.run.now
