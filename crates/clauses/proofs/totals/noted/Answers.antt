use Rattle.clauses.proofs.totals.Laws.{steps}
use Rattle.clauses.proofs.totals.noted.Goals as goal

pub returns : goal.returns
returns c = search steps
