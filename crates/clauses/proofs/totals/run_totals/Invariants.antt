use Rattle.formulas.specs.Formula.{is_and}
use Rattle.clauses.proofs.totals.Laws.{Folded}
use Rattle.clauses.specs.ClauseWalk.{as_totals, memo_at}
use Prim.Native.Nat.{◌-◌}
use lib.ListN.{length}
use Rattle.clauses.proofs.totals.run_totals.Given as goal

abbrev pub invariant-loop-u : goal.invariant-loop-u
invariant-loop-u l = Folded (is_and l.kind) (memo_at l.memo) l.run (length l.run - length l.yielded) (as_totals l.sum)
