use Prim.Native.Nat.{◌*◌, ◌+◌}
use Rattle.clauses.proofs.empty_or.Laws.{RunLeft}
use Rattle.clauses.proofs.empty_or.+from_run_from_term.Given as goal

-- The measures: the place, and at one place the run walker below the term walker.
abbrev pub decreases-from_run : goal.decreases-from_run
decreases-from_run l = l.x.0 * 2

abbrev pub decreases-from_term : goal.decreases-from_term
decreases-from_term l = l.x.0 * 2 + 1

abbrev pub invariant-from_run-loop-u : goal.invariant-from_run-loop-u
invariant-from_run-loop-u l = RunLeft l.pool.tags.now l.pool.values.now l.run l.memo l.u-index
