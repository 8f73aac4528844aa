use Rattle.free_pairs.proofs.free_lists.Laws.{mark-end, mark-here, mark-next}
use Rattle.free_pairs.proofs.free_lists.first_marked.Goals as goal

pub returns-then-is_marked : goal.returns-then-is_marked
returns-then-is_marked c = mark-here _ _ _ _ c.loop-pair.invariant _ _ c.in-Some.ensures.steps _ c.is_marked.ensures c.if-is_marked.true

pub loop-pair-preserved : goal.loop-pair-preserved
loop-pair-preserved c = mark-next _ _ _ _ c.loop-pair.invariant _ _ c.in-Some.ensures.steps _ c.is_marked.ensures c.if-is_marked.false

pub returns : goal.returns
returns c = mark-end _ _ _ _ c.loop-pair.invariant c.in-None.ensures.steps.0
