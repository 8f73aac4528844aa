use Rattle.clausification.proofs.qnt_cnf.Laws.{implication-other, implication-plain, implication-is}
use Rattle.clausification.proofs.qnt_cnf.implication_at.Goals as goal

pub returns-in_err-negation : goal.returns-in_err-negation
returns-in_err-negation c = rw c.from_residual.ensures (implication-other _ _ _ c.in_err-negation.ensures)

pub returns-in_err-l : goal.returns-in_err-l
returns-in_err-l c = rw c.from_residual-in_err-l.ensures (implication-plain _ _ _ _ c.in_ok-negation.ensures c.in_err-l.ensures)

pub returns : goal.returns
returns c = implication-is _ _ _ _ c.in_ok-negation.ensures _ c.in_ok-l.ensures
