use Rattle.appearance.proofs.bits.Laws.{Meeting}
use Rattle.appearance.proofs.bits.meets.Given as goal

abbrev pub invariant-loop-j : goal.invariant-loop-j
invariant-loop-j l = Meeting l.a l.from l.b l.start l.words l.j
