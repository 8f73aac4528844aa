use Rattle.appearance.proofs.compute_free_vars.Runs.{RunAt, ValuesAt}
use Rattle.appearance.specs.Walk.{SameArrays}
use Prim.Native.Nat.{◌*◌, ◌+◌}
use Rattle.appearance.proofs.compute_free_vars.+body_free_vars_compute_free_vars_run_free_vars_values_free_vars.Given as goal

-- The measures: the place, and at one place the term walker above the others.
abbrev pub decreases-body_free_vars : goal.decreases-body_free_vars
decreases-body_free_vars l = l.t.0 * 4 + 2

abbrev pub decreases-compute_free_vars : goal.decreases-compute_free_vars
decreases-compute_free_vars l = l.t.0 * 4 + 3

abbrev pub decreases-run_free_vars : goal.decreases-run_free_vars
decreases-run_free_vars l = l.t.0 * 4

abbrev pub decreases-values_free_vars : goal.decreases-values_free_vars
decreases-values_free_vars l = l.t.0 * 4 + 1

abbrev pub invariant-run_free_vars-loop-u : goal.invariant-run_free_vars-loop-u
invariant-run_free_vars-loop-u l = record { same : SameArrays l.initial.found l.found; at : RunAt l.pool.tags.now l.pool.values.now l.rows.index.now l.rows.table.now l.rows.words l.initial.found.state.now l.initial.found.places.now l.initial.found.len l.t.0 l.run l.found.state.now l.found.places.now l.found.len l.u-index }

abbrev pub invariant-values_free_vars-loop-i : goal.invariant-values_free_vars-loop-i
invariant-values_free_vars-loop-i l = record { same : SameArrays l.initial.found l.found; at : ValuesAt l.pool.tags.now l.pool.values.now l.rows.index.now l.rows.table.now l.rows.words l.initial.found.state.now l.initial.found.places.now l.initial.found.len l.t.0 l.run l.found.state.now l.found.places.now l.found.len l.i }
