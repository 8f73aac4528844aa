use Rattle.bindings.specs.Binding.{bindings_of}
use Rattle.bindings.specs.BindingAnswer.{pairs_left}
use Rattle.clausification.proofs.taken_list.Laws.{Putting}
use Rattle.clausification.proofs.taken_list.put_pairs.Given as goal

abbrev pub invariant-loop-pair : goal.invariant-loop-pair
invariant-loop-pair l = Putting l.initial.cells l.k (bindings_of l.list) l.cells (pairs_left l.pair-iterator) l.j
