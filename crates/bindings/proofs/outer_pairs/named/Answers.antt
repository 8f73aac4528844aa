use Rattle.bindings.proofs.outer_pairs.Laws.{named-is}
use Rattle.bindings.proofs.outer_pairs.named.Goals as goal

pub returns : goal.returns
returns c = named-is _ _ c.checked_sub.ensures
