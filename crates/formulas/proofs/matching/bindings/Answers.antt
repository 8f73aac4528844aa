use Rattle.std.proofs.Common.{arith}
use Rattle.formulas.proofs.matching.Laws.{pairs-none, pairs-rest}
use Rattle.formulas.proofs.matching.bindings.Goals as goal

pub returns-in-empty : goal.returns-in-empty
returns-in-empty c = pairs-none _ _ _ _ c.operands.ensures (omega arith)

pub returns-in-len1-up : goal.returns-in-len1-up
returns-in-len1-up c = pairs-rest _ _ _ _ c.operands.ensures
