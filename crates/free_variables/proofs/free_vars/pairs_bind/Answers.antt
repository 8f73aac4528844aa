use Rattle.free_variables.proofs.free_vars.Laws.{bind-by}
use Rattle.free_variables.proofs.free_vars.pairs_bind.Goals as goal

pub returns : goal.returns
returns c = search bind-by
