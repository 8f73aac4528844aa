use Rattle.bindings.proofs.binding.Laws.{has_end, has_here, has-next, same-variables}
use Rattle.bindings.proofs.binding.has.Goals as goal

pub returns-then-eq : goal.returns-then-eq
returns-then-eq c = has_here _ _ _ c.loop-other.invariant _ _ c.in-Some.ensures.steps _ (same-variables _ _ _ c.eq.ensures) c.if-eq.true

pub loop-other-preserved : goal.loop-other-preserved
loop-other-preserved c = has-next _ _ _ c.loop-other.invariant _ _ c.in-Some.ensures.steps _ (same-variables _ _ _ c.eq.ensures) c.if-eq.false

pub returns : goal.returns
returns c = has_end _ _ _ c.loop-other.invariant c.in-None.ensures.steps.0
