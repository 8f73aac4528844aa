use Rattle.appearance.proofs.rows.Dropping.{Dropping}
use Rattle.appearance.proofs.rows.drop_pairs.Given as goal

abbrev pub invariant-loop-i : goal.invariant-loop-i
invariant-loop-i l = Dropping l.pool.tags.now l.pool.values.now l.index l.initial.table l.to l.table l.kind l.run l.i
