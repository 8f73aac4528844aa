use Rattle.bindings.specs.Binding.{bindings_of}
use Rattle.bindings.specs.BindingAnswer.{pairs_left}
use Rattle.bindings.specs.Used.{use_all}
use Rattle.bindings.specs.OuterPairs.{left_in}
use Rattle.bindings.proofs.outer_pairs.Laws.{Using}
use Rattle.bindings.proofs.outer_pairs.use_all.Given as goal

abbrev pub invariant-loop-pair : goal.invariant-loop-pair
invariant-loop-pair l = Using (use_all (bindings_of l.inner) (left_in l.initial.prepared)) (pairs_left l.pair-iterator) l.prepared
