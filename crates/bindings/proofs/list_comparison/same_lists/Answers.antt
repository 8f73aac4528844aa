use Rattle.bindings.proofs.list_comparison.Laws.{runs_compared}
use Rattle.bindings.proofs.list_comparison.same_lists.Goals as goal

pub returns : goal.returns
returns c = rw (← c.pairs_of.ensures, ← c.pairs_of-2.ensures) (runs_compared _ _ _ c.eq.ensures.ran)
