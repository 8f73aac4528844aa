use Prim.Native.Nat.{◌+◌, ◌*◌}
use Rattle.clauses.proofs.conjunctive_normal_form.Laws.{OperandsLeft}
use Rattle.clauses.proofs.conjunctive_normal_form.CountedPool.+write_clause_write_run.Given as goal

-- The measures: the place, and at one place the run walker below the term walker.
abbrev pub decreases-write_clause : goal.decreases-write_clause
decreases-write_clause l = l.x.0 * 2 + 1

abbrev pub decreases-write_run : goal.decreases-write_run
decreases-write_run l = l.x.0 * 2

abbrev pub invariant-write_run-loop-u : goal.invariant-write_run-loop-u
invariant-write_run-loop-u l =
    OperandsLeft l.self.pool.now.tags.now l.self.pool.now.values.now l.self.memo.now l.fn.x.0 l.run l.initial.number l.initial.out l.initial.next l.clauses l.number l.out l.next l.u-index
