use mathlib.Core.Path.{◌≡◌}
use Rattle.miniscoping.specs.SidesAnswer.{sides_at}
use Rattle.miniscoping.specs.MiniscopeDistribute.{distributed_all}
use Rattle.miniscoping.proofs.miniscope_distribute.distributed_all.Given as goal

abbrev pub invariant-loop-t : goal.invariant-loop-t
invariant-loop-t l = distributed_all l.pool.tags.now l.pool.values.now (sides_at l.pool.tags.now l.pool.values.now l.s) l.from l.to ≡ distributed_all l.pool.tags.now l.pool.values.now (sides_at l.pool.tags.now l.pool.values.now l.s) l.t-iterator.a.rest.now l.t-iterator.b.rest.now
