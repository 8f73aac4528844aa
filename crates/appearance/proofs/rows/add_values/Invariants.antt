use Rattle.appearance.proofs.rows.Adding.{ValuesAdding}
use Rattle.appearance.proofs.rows.add_values.Given as goal

abbrev pub invariant-loop-i : goal.invariant-loop-i
invariant-loop-i l = ValuesAdding l.pool.tags.now l.row.words l.initial.table l.row.start l.t.0 l.run l.table l.i
