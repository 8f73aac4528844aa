use Rattle.bindings.proofs.outer_pairs.Laws.{puts}
use Rattle.bindings.proofs.outer_pairs.put.Goals as goal

pub returns-then-is_some : goal.returns-then-is_some
returns-then-is_some c = search puts

pub returns : goal.returns
returns c = search puts
