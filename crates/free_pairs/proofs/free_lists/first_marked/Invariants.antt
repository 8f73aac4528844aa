use mathlib.Core.Path.{◌≡◌}
use Rattle.bindings.specs.Binding.{bindings_of}
use Rattle.bindings.specs.BindingAnswer.{name_of, pairs_left}
use Rattle.free_pairs.specs.FreeLists.{first_marked}
use Rattle.free_pairs.proofs.free_lists.first_marked.Given as goal

abbrev pub invariant-loop-pair : goal.invariant-loop-pair
invariant-loop-pair l = name_of (first_marked (bindings_of l.other) l.mask (bindings_of l.list)) ≡ name_of (first_marked (bindings_of l.other) l.m (pairs_left l.pair-iterator))
