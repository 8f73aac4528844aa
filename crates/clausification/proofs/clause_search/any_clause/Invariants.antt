use Prim.Native.Nat.{◌-◌}
use mathlib.Core.Path.{◌≡◌}
use lib.ListN.{drop}
use Rattle.clausification.specs.ClauseSearch.{clauses_in, clauses_of}
use Rattle.clausification.specs.QntCnf.{is_clause, any_clause}
use Rattle.clausification.proofs.clause_search.any_clause.Given as goal

abbrev pub invariant-loop-end : goal.invariant-loop-end
invariant-loop-end l =
    any_clause (is_clause l.pool.tags.now l.pool.values.now l.x.0) (clauses_of l.listed)
    ≡ any_clause (is_clause l.pool.tags.now l.pool.values.now l.x.0) (clauses_in l.listed.literals.now (drop l.end-index l.listed.ends.now) l.start (l.listed.count - l.end-index))
