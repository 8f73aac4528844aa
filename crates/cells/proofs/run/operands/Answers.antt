use Rattle.cells.proofs.Cells.{operand-runs}
use Rattle.cells.proofs.run.operands.Goals as goal

pub returns-then-tag_at-lt-APPLICATION : goal.returns-then-tag_at-lt-APPLICATION
returns-then-tag_at-lt-APPLICATION c = search operand-runs

pub returns-then-run-eq0 : goal.returns-then-run-eq0
returns-then-run-eq0 c = search operand-runs

pub returns : goal.returns
returns c = search operand-runs
