use mathlib.Core.Path.{◌≡◌}
use mathlib.Core.Bool.{not}
use Rattle.bindings.specs.Binding.{bindings_of, has, first_of}
use Rattle.bindings.specs.BindingAnswer.{name_of, pairs_left}
use Rattle.bindings.proofs.binding.first_new.Given as goal

abbrev pub invariant-loop-pair : goal.invariant-loop-pair
invariant-loop-pair l = name_of (first_of (λ a. not (has (bindings_of l.other) a)) (bindings_of l.list)) ≡ name_of (first_of (λ a. not (has (bindings_of l.other) a)) (pairs_left l.pair-iterator))
