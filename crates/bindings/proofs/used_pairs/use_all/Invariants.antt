use mathlib.Core.Path.{◌≡◌}
use Rattle.bindings.specs.Binding.{bindings_of}
use Rattle.bindings.specs.BindingAnswer.{pairs_left}
use Rattle.bindings.specs.Used.{use_all, left_of}
use Rattle.bindings.proofs.used_pairs.use_all.Given as goal

abbrev pub invariant-loop-pair : goal.invariant-loop-pair
invariant-loop-pair l = use_all (bindings_of l.inner) (left_of l.initial.used (bindings_of l.outer)) ≡ use_all (pairs_left l.pair-iterator) (left_of l.used (bindings_of l.outer))
