use Rattle.clauses.specs.ClauseList.{list_at, SameArrays}
use Rattle.clauses.proofs.clause_list.Laws.{Wrote}
use Rattle.clauses.proofs.clause_list.ClauseLists.write_clauses.Given as goal

abbrev pub invariant-loop-k : goal.invariant-loop-k
invariant-loop-k l = record {
  wrote : Wrote (list_at l.counted l.x.0) l.initial.self.literals.now l.initial.self.ends.now l.initial.self.clause_count l.initial.self.literal_count
      l.self.literals.now l.self.ends.now l.k l.self.clause_count l.self.literal_count;
  same : SameArrays l.initial.self l.self;
}
