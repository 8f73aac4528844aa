use Rattle.bindings.specs.BindingAnswer.{pairs_left}
use Rattle.bindings.proofs.outer_pairs.Laws.{Preparing}
use Rattle.bindings.proofs.outer_pairs.prepare.Given as goal

abbrev pub invariant-loop-pair : goal.invariant-loop-pair
invariant-loop-pair l = Preparing l.outer l.prepared l.k (pairs_left l.pair-iterator)
