use Rattle.bindings.proofs.binding.Laws.{first-end, first-here, first_next}
use Rattle.clausification.proofs.taken_list.first_in_neither.Goals as goal

pub returns-then-is_in_neither : goal.returns-then-is_in_neither
returns-then-is_in_neither c = first-here _ _ _ c.loop-pair.invariant _ _ c.in-Some.ensures.steps _ c.is_in_neither.ensures c.if-is_in_neither.true

pub loop-pair-preserved : goal.loop-pair-preserved
loop-pair-preserved c = first_next _ _ _ c.loop-pair.invariant _ _ c.in-Some.ensures.steps _ c.is_in_neither.ensures c.if-is_in_neither.false

pub returns : goal.returns
returns c = first-end _ _ _ c.loop-pair.invariant c.in-None.ensures.steps.0
