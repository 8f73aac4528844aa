use Rattle.appearance.proofs.rows.Numbers.{Numbering}
use Rattle.appearance.proofs.rows.number_variables.Given as goal

abbrev pub invariant-loop-p : goal.invariant-loop-p
invariant-loop-p l = Numbering l.pool.tags.now l.n l.initial.table l.table l.count l.p
