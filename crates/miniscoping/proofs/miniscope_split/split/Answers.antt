use Rattle.miniscoping.proofs.miniscope_split.Laws.{fresh}
use Rattle.miniscoping.proofs.miniscope_split.split.Goals as goal

pub returns : goal.returns
returns c = fresh _ _ _ _ _ _ 4096 c.requires _ c.split_all.ensures
