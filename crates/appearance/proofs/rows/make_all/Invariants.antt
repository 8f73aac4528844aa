use Rattle.appearance.proofs.rows.Tables.{Making}
use Rattle.appearance.proofs.rows.make_all.Given as goal

abbrev pub invariant-loop-at : goal.invariant-loop-at
invariant-loop-at l = Making l.pool.tags.now l.pool.values.now l.n l.words l.table l.at l.next
