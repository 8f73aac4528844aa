use Prim.Native.Nat.{◌+◌, ◌*◌}
use Rattle.clauses.specs.ClauseList.{filled, SameArrays}
use Rattle.clauses.proofs.clause_list.Lists.{ListsLeft}
use Rattle.clauses.proofs.clause_list.ClauseLists.+write_list_write_lists.Given as goal

-- The measures: the place, and at one place the run walker below the term walker.
abbrev pub decreases-write_list : goal.decreases-write_list
decreases-write_list l = l.x.0 * 2 + 1

abbrev pub decreases-write_lists : goal.decreases-write_lists
decreases-write_lists l = l.x.0 * 2

abbrev pub invariant-write_lists-loop-u : goal.invariant-write_lists-loop-u
invariant-write_lists-loop-u l = record {
  left : ListsLeft l.counted.pool.now.tags.now l.counted.pool.now.values.now l.counted.memo.now l.fn.x.0 l.run l.initial.self.literals.now l.initial.self.ends.now (filled l.initial.self)
      l.self.literals.now l.self.ends.now (filled l.self) l.u-index;
  same : SameArrays l.initial.self l.self;
}
