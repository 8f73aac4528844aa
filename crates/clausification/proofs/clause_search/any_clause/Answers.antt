use Rattle.clausification.proofs.clause_search.Laws.{any-all, any_here, any_next}
use Rattle.clausification.proofs.clause_search.any_clause.Goals as goal

pub returns-then-is_clause : goal.returns-then-is_clause
returns-then-is_clause c = any_here _ _ _ _ _ _ _ _ _ c.loop-end.invariant _ c.part-end-items.ensures c.loop-end-test.true _ c.part.ensures _ c.is_clause.ensures c.if-is_clause.true

pub loop-end-preserved : goal.loop-end-preserved
loop-end-preserved c = any_next _ _ _ _ _ _ _ _ _ c.loop-end.invariant _ c.part-end-items.ensures c.loop-end-test.true _ c.part.ensures _ c.is_clause.ensures c.if-is_clause.false

pub returns : goal.returns
returns c = any-all _ _ _ _ _ _ _ _ _ c.loop-end.invariant _ c.part-end-items.ensures c.loop-end-test.false
