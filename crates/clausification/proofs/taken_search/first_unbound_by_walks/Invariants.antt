use mathlib.Core.Path.{◌≡◌}
use mathlib.Core.Bool.{not}
use mathlib.Core.List.{◌++◌}
use Rattle.formulas.specs.Normal.{taken}
use Rattle.formulas.specs.Built.{form_at}
use Rattle.bindings.specs.Binding.{bindings_of, has, first_of}
use Rattle.bindings.specs.BindingAnswer.{name_of, pairs_left}
use Rattle.clausification.proofs.taken_search.first_unbound_by_walks.Given as goal

abbrev pub invariant-loop-pair : goal.invariant-loop-pair
invariant-loop-pair l =
    name_of (first_of (λ a. not (has (bindings_of l.left ++ taken bindings_of (form_at l.pool.tags.now l.pool.values.now l.x.0)) a)) (bindings_of l.right))
    ≡ name_of (first_of (λ a. not (has (bindings_of l.left ++ taken bindings_of (form_at l.pool.tags.now l.pool.values.now l.x.0)) a)) (pairs_left l.pair-iterator))
