use Rattle.tag_layouts.proofs.narrowing.Laws.{Narrowing}
use Rattle.tag_layouts.proofs.narrowing.narrow_into.Given as goal

abbrev pub invariant-loop-i : goal.invariant-loop-i
invariant-loop-i l = Narrowing l.tags l.initial.bytes l.k l.bytes l.i
