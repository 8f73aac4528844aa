use Rattle.appearance.proofs.compute_free_vars.PairLoops.{Hiding}
use Rattle.appearance.proofs.compute_free_vars.hide_pairs.Given as goal

abbrev pub invariant-loop-i : goal.invariant-loop-i
invariant-loop-i l = Hiding l.pool.tags.now l.pool.values.now l.rows.index.now l.kind l.run l.initial.state l.state l.i
