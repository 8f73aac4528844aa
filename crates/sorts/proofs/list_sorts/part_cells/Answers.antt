use Rattle.sorts.proofs.list_sorts.Laws.{tuple-sets}
use Rattle.sorts.proofs.list_sorts.part_cells.Goals as goal

pub returns : goal.returns
returns c = search tuple-sets
