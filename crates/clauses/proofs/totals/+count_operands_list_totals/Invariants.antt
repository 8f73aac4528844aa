use Rattle.clauses.proofs.totals.Laws.{CountedTo}
use Prim.Native.Nat.{◌*◌, ◌+◌}
use Rattle.clauses.proofs.totals.+count_operands_list_totals.Given as goal

-- The measures: the place, and at one place the walk along the operands below the term walker.
abbrev pub decreases-count_operands : goal.decreases-count_operands
decreases-count_operands l = l.x.0 * 2

abbrev pub decreases-list_totals : goal.decreases-list_totals
decreases-list_totals l = l.x.0 * 2 + 1

abbrev pub invariant-count_operands-loop-u : goal.invariant-count_operands-loop-u
invariant-count_operands-loop-u l = CountedTo l.pool.tags.now l.pool.values.now l.u-items l.initial.memo l.memo l.u-index
