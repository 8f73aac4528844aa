use Rattle.quantifier_rules.proofs.qnt_join.Joining.{list-end, list-off, list-next}
use Rattle.quantifier_rules.proofs.qnt_join.along_list.Goals as goal

pub returns-in_err-k : goal.returns-in_err-k
returns-in_err-k c =
    rw c.from_residual.ensures
    (list-off _ _ _ _ _ c.loop-pair.invariant _ _ c.in-Some.ensures.steps _ c.along_pair.ensures c.in_err-k.was)

pub loop-pair-preserved : goal.loop-pair-preserved
loop-pair-preserved c = list-next _ _ _ _ _ c.loop-pair.invariant _ _ c.in-Some.ensures.steps _ c.along_pair.ensures _ c.in_ok-k.was

pub returns : goal.returns
returns c = list-end _ _ _ _ _ c.loop-pair.invariant c.in-None.ensures.steps.0
