use mathlib.Core.Path.{◌≡◌}
use mathlib.Core.Bool.{not}
use mathlib.Core.List.{◌++◌}
use Rattle.bindings.specs.Binding.{bindings_of, has, first_of}
use Rattle.bindings.specs.BindingAnswer.{name_of, pairs_left}
use Rattle.clausification.proofs.taken_list.first_in_neither.Given as goal

abbrev pub invariant-loop-pair : goal.invariant-loop-pair
invariant-loop-pair l =
    name_of (first_of (λ a. not (has (bindings_of l.left ++ bindings_of l.taken) a)) (bindings_of l.right))
    ≡ name_of (first_of (λ a. not (has (bindings_of l.left ++ bindings_of l.taken) a)) (pairs_left l.pair-iterator))
