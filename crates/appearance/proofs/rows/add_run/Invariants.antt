use Rattle.appearance.proofs.rows.Adding.{RunAdding}
use Rattle.appearance.proofs.rows.add_run.Given as goal

abbrev pub invariant-loop-u : goal.invariant-loop-u
invariant-loop-u l = RunAdding l.pool.tags.now l.row.words l.initial.table l.row.start l.t.0 l.run l.table l.u-index
