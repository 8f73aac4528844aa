use mathlib.Core.Path.{◌≡◌}
use lib.ListN.{length}
use Rattle.bindings.specs.Binding.{bindings_of, first_of}
use Rattle.bindings.specs.BindingAnswer.{name_of}
use Rattle.free_pairs.specs.FreeLists.{is_missing}
use Rattle.free_pairs.proofs.free_lists.first_missing_by.Given as goal

abbrev pub invariant-loop-rest : goal.invariant-loop-rest
invariant-loop-rest l =
    name_of (first_of (is_missing l.pool.tags.now l.pool.values.now l.n l.t.0 (bindings_of l.other)) (bindings_of l.list)) ≡ name_of (first_of (is_missing l.pool.tags.now l.pool.values.now l.n l.t.0 (bindings_of l.other)) (bindings_of l.rest))

abbrev pub decreases-loop-rest : goal.decreases-loop-rest
decreases-loop-rest l = length l.rest
