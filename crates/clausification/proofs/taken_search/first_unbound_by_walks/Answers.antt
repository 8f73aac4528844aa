use Rattle.bindings.proofs.binding.Laws.{first-end, first-here, first_next}
use Rattle.clausification.proofs.taken_search.first_unbound_by_walks.Goals as goal

pub returns-then-is_unbound : goal.returns-then-is_unbound
returns-then-is_unbound c = first-here _ _ _ c.loop-pair.invariant _ _ c.in-Some.ensures.steps _ c.is_unbound.ensures c.if-is_unbound.true

pub loop-pair-preserved : goal.loop-pair-preserved
loop-pair-preserved c = first_next _ _ _ c.loop-pair.invariant _ _ c.in-Some.ensures.steps _ c.is_unbound.ensures c.if-is_unbound.false

pub returns : goal.returns
returns c = first-end _ _ _ c.loop-pair.invariant c.in-None.ensures.steps.0
