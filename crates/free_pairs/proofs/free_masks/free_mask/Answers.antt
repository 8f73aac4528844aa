use Rattle.free_pairs.proofs.free_masks.Laws.{fresh, group-fits, group-mask}
use Rattle.free_pairs.proofs.free_masks.free_mask.Goals as goal

pub invariant_of-masks : goal.invariant_of-masks
invariant_of-masks c = record { short = group-fits c.args.list.now _ c.group.ensures }

pub mask_of_term-requires : goal.mask_of_term-requires
mask_of_term-requires c = fresh _ _ _ _ 8192

pub returns : goal.returns
returns c = group-mask c.args.list.now _ c.group.ensures _ _ _ _ _ _ c.mask_of_term.ensures
