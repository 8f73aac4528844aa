use Rattle.building.proofs.terms.Cells.{literals}
use Rattle.building.proofs.terms.literal.Goals as goal

pub returns-then-polarity-clause-puts : goal.returns-then-polarity-clause-puts
returns-then-polarity-clause-puts c = search literals

pub returns-clause-puts : goal.returns-clause-puts
returns-clause-puts c = search literals
