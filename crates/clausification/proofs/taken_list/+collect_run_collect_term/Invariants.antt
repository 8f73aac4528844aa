use Prim.Native.Nat.{◌*◌, ◌+◌}
use Rattle.clausification.proofs.taken_list.Laws.{Collecting}
use Rattle.clausification.proofs.taken_list.+collect_run_collect_term.Given as goal

-- The measures: the place, and at one place the run walker below the term walker.
abbrev pub decreases-collect_run : goal.decreases-collect_run
decreases-collect_run l = l.x.0 * 2

abbrev pub decreases-collect_term : goal.decreases-collect_term
decreases-collect_term l = l.x.0 * 2 + 1

abbrev pub invariant-collect_run-loop-u : goal.invariant-collect_run-loop-u
invariant-collect_run-loop-u l = Collecting l.pool.tags.now l.pool.values.now l.initial.cells l.k l.run l.seen l.cells l.j l.u-index
