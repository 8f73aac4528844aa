use Rattle.std.proofs.Common.{◌≡◌, ℕ, ◌<◌, get_or}
use Rattle.free_variables.specs.Free.{mark_of}
use Rattle.free_variables.proofs.free_vars.mark_free_vars.Given as goal

abbrev pub invariant-loop-v : goal.invariant-loop-v
invariant-loop-v l = (u : ℕ) → u < l.v → get_or l.marks u 0 ≡ mark_of l.pool.tags.now l.pool.values.now l.n l.t.0 u
