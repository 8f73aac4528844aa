use Rattle.free_pairs.proofs.free_lists.Laws.{group-first}
use Rattle.free_pairs.proofs.free_lists.first_in_group.Goals as goal

pub returns : goal.returns
returns c = group-first _ _ c.args.list.now _ c.group.ensures _ c.free_mask-mask.ensures _ c.first_marked.ensures
