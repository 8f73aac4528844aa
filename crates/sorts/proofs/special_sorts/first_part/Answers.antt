use Rattle.sorts.proofs.special_sorts.Laws.{part-is}
use Rattle.sorts.proofs.special_sorts.first_part.Goals as goal

pub returns : goal.returns
returns c = search part-is
