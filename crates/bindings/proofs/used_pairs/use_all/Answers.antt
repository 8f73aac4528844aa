use Rattle.bindings.proofs.used_pairs.Laws.{all_end, all_new, all-next}
use Rattle.bindings.proofs.used_pairs.use_all.Goals as goal

pub returns-then-not-use_pair : goal.returns-then-not-use_pair
returns-then-not-use_pair c = all_new _ _ _ _ c.loop-pair.invariant _ _ c.in-Some.ensures.steps _ _ c.use_pair.ensures c.if-not-use_pair.true

pub loop-pair-preserved : goal.loop-pair-preserved
loop-pair-preserved c = all-next _ _ _ _ c.loop-pair.invariant _ _ c.in-Some.ensures.steps _ _ c.use_pair.ensures c.if-not-use_pair.false

pub returns : goal.returns
returns c = all_end _ _ _ _ c.loop-pair.invariant c.in-None.ensures.steps.0
