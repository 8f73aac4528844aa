use Rattle.appearance.proofs.rows.Words.{AddingRow}
use Rattle.appearance.proofs.rows.add_row.Given as goal

abbrev pub invariant-loop-j : goal.invariant-loop-j
invariant-loop-j l = AddingRow l.initial.table l.row.start l.from l.row.words l.table l.j
