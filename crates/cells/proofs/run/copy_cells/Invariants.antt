use Rattle.cells.proofs.run.Laws.{Copying}
use Rattle.cells.proofs.run.copy_cells.Given as goal

abbrev pub invariant-loop-i : goal.invariant-loop-i
invariant-loop-i l = Copying l.from l.initial.to l.to l.i
