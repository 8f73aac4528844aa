use Rattle.tag_layouts.proofs.narrowing.Laws.{Writing}
use Rattle.tag_layouts.proofs.narrowing.write_back.Given as goal

abbrev pub invariant-loop-i : goal.invariant-loop-i
invariant-loop-i l = Writing l.initial.tags l.bytes l.n l.tags l.i
