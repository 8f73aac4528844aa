use mathlib.Core.Bool.{not}
use mathlib.Core.Path.{ap}
use Rattle.bindings.proofs.binding.Laws.{first-end, first-here, first_next}
use Rattle.bindings.proofs.binding.first_new.Goals as goal

pub returns-then-not-has : goal.returns-then-not-has
returns-then-not-has c = first-here _ _ _ c.loop-pair.invariant _ _ c.in-Some.ensures.steps _ (ap not c.has.ensures) (ap not c.if-not-has.true)

pub loop-pair-preserved : goal.loop-pair-preserved
loop-pair-preserved c = first_next _ _ _ c.loop-pair.invariant _ _ c.in-Some.ensures.steps _ (ap not c.has.ensures) (ap not c.if-not-has.false)

pub returns : goal.returns
returns c = first-end _ _ _ c.loop-pair.invariant c.in-None.ensures.steps.0
