use Rattle.clauses.proofs.totals.Laws.{steps}
use Rattle.clauses.proofs.totals.start.Goals as goal

pub returns-in-And : goal.returns-in-And
returns-in-And c = search steps

pub returns-in-Or : goal.returns-in-Or
returns-in-Or c = search steps
