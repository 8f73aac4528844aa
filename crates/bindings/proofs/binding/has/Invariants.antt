use mathlib.Core.Path.{◌≡◌}
use Rattle.bindings.specs.Binding.{bindings_of, has}
use Rattle.bindings.specs.BindingAnswer.{binding, pairs_left}
use Rattle.bindings.proofs.binding.has.Given as goal

abbrev pub invariant-loop-other : goal.invariant-loop-other
invariant-loop-other l = has (bindings_of l.list) (binding l.pair) ≡ has (pairs_left l.other-iterator) (binding l.pair)
