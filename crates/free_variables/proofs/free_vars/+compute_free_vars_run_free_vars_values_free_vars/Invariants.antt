use lib.ListN.{length}
use Prim.Native.Nat.{◌*◌, ◌+◌, ◌^◌}
use Rattle.free_variables.proofs.free_vars.+compute_free_vars_run_free_vars_values_free_vars.Given as goal

-- The measures: the place, and at one place the rest of the run, below the term walker.
abbrev pub decreases-compute_free_vars : goal.decreases-compute_free_vars
decreases-compute_free_vars l = l.t.0 * 2 ^ 65 + 2 ^ 64

abbrev pub decreases-run_free_vars : goal.decreases-run_free_vars
decreases-run_free_vars l = l.t.0 * 2 ^ 65 + length l.run.now

abbrev pub decreases-values_free_vars : goal.decreases-values_free_vars
decreases-values_free_vars l = l.t.0 * 2 ^ 65 + length l.run.now
