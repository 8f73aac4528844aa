use Rattle.formulas.specs.Pattern.{equality}
use Rattle.formulas.specs.PatternAnswer.{two_in}
use Rattle.formulas.proofs.matching.Laws.{no_two, two_operands}
use Rattle.formulas.proofs.matching.equality_at.Goals as goal

pub returns-in_err-left : goal.returns-in_err-left
unfolding equality two_in
returns-in_err-left c = rw c.from_residual.ensures (no_two _ _ _ _ c.in_err-left.ensures)

pub returns : goal.returns
unfolding equality two_in
returns c = two_operands _ _ _ _ c.in_ok-left.field-0 c.in_ok-left.ensures
