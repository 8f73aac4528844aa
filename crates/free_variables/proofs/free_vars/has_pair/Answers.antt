use Rattle.free_variables.proofs.free_vars.Laws.{bind-end, bind-here, bind-next}
use Rattle.free_variables.proofs.free_vars.has_pair.Goals as goal

pub returns-then-is_pair : goal.returns-then-is_pair
returns-then-is_pair c = bind-here _ _ _ _ _ _ c.loop-pairs.invariant c.in-len2-up.len_at_least _ c.is_pair.ensures c.if-is_pair.true

pub loop-pairs-preserved : goal.loop-pairs-preserved
loop-pairs-preserved c = bind-next _ _ _ _ _ _ c.loop-pairs.invariant c.in-len2-up.len_at_least _ c.is_pair.ensures c.if-is_pair.false

pub returns : goal.returns
returns c = bind-end _ _ _ _ _ _ c.loop-pairs.invariant c.in_default.len_below
