use Rattle.cells.proofs.Cells.{runs}
use Rattle.cells.proofs.run.cells.Goals as goal

pub returns-then-values-p : goal.returns-then-values-p
returns-then-values-p c = search runs

pub returns-then-values-start : goal.returns-then-values-start
returns-then-values-start c = search runs

pub returns : goal.returns
returns c = search runs
