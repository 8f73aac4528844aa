use mathlib.Core.Path.{◌≡◌}
use Rattle.bindings.specs.Binding.{bindings_of}
use Rattle.bindings.specs.Used.{left_of}
use Rattle.formulas.specs.Formula.{is_forall}
use Rattle.miniscoping.specs.MiniscopeSplit.{split_all}
use Rattle.miniscoping.proofs.miniscope_split.split_all.Given as goal

abbrev pub invariant-loop-t : goal.invariant-loop-t
invariant-loop-t l = split_all l.pool.tags.now l.pool.values.now (is_forall l.kind) (left_of l.initial.used (bindings_of l.outer)) l.from l.to ≡ split_all l.pool.tags.now l.pool.values.now (is_forall l.kind) (left_of l.used (bindings_of l.outer)) l.t-iterator.a.rest.now l.t-iterator.b.rest.now
