use Rattle.building.proofs.terms.Cells.{Gathering}
use Rattle.building.specs.Walk.{memo_of}
use Rattle.building.proofs.terms.gather.Given as goal

abbrev pub invariant-loop-u : goal.invariant-loop-u
invariant-loop-u l = Gathering (memo_of l.initial.work) l.polarity l.run l.work l.k l.u-index
