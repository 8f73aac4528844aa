use mathlib.Core.Path.{sym, ap}
use Rattle.answers.specs.Outcome.{answer_of}
use Rattle.miniscoping.proofs.miniscope_distribute.Laws.{all_end, all-refused, all-next, passes_on}
use Rattle.miniscoping.proofs.sides.Laws.{one-ended}
use Rattle.miniscoping.proofs.miniscope_distribute.distributed_all.Goals as goal

pub loop-t-preserved : goal.loop-t-preserved
loop-t-preserved c = all-next _ _ _ _ _ _ c.loop-t.invariant _ _ _ _ c.in-Some.ensures.steps.0 c.in-Some.ensures.steps.1 c.in_ok-distributed.ensures

pub returns-in_err-distributed : goal.returns-in_err-distributed
returns-in_err-distributed c = passes_on _ _ (all-refused _ _ _ _ _ _ c.loop-t.invariant _ _ _ _ c.in-Some.ensures.steps.0 c.in-Some.ensures.steps.1 _ c.in_err-distributed.ensures _ c.from_residual.ensures.1)

pub returns : goal.returns
returns c = ap answer_of (sym (all_end _ _ _ _ _ _ c.loop-t.invariant (one-ended _ _ c.in-None.ensures.steps)))
