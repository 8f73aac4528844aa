use Rattle.bindings.specs.Binding.{bindings_of}
use Rattle.bindings.specs.BindingAnswer.{binding, pairs_left}
use Rattle.bindings.proofs.used_pairs.Laws.{Using}
use Rattle.bindings.proofs.used_pairs.use_pair.Given as goal

abbrev pub invariant-loop-mark : goal.invariant-loop-mark
invariant-loop-mark l = Using (binding l.pair) (bindings_of l.outer) l.initial.used l.used l.mark-index (pairs_left l.left) l.was_left
