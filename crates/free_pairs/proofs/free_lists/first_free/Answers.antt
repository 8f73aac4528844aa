use Rattle.free_pairs.proofs.free_lists.Laws.{none-lacks}
use Rattle.free_pairs.proofs.free_lists.first_free.Goals as goal

pub returns : goal.returns
returns c = none-lacks _ _ _ c.first_missing.ensures
