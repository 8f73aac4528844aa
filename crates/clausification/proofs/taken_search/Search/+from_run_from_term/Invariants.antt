use Prim.Native.Nat.{◌*◌, ◌+◌}
use Rattle.clausification.specs.Searching.{sought_in}
use Rattle.clausification.proofs.taken_search.Laws.{SearchLeft}
use Rattle.clausification.proofs.taken_search.Search.+from_run_from_term.Given as goal

-- The measures: the place, and at one place the run walker below the term walker.
abbrev pub decreases-from_run : goal.decreases-from_run
decreases-from_run l = l.x.0 * 2

abbrev pub decreases-from_term : goal.decreases-from_term
decreases-from_term l = l.x.0 * 2 + 1

abbrev pub invariant-from_run-loop-u : goal.invariant-from_run-loop-u
invariant-from_run-loop-u l = SearchLeft l.self.pool.now.tags.now l.self.pool.now.values.now (sought_in l.self) l.run l.seen l.u-index
