use Rattle.clauses.proofs.clause_list.Laws.{list-answers, list-ready}
use Rattle.clauses.proofs.clause_list.list_clauses.Goals as goal

pub returns-then-empty_or : goal.returns-then-empty_or
returns-then-empty_or c = search list-answers

pub list_counted-requires : goal.list_counted-requires
list_counted-requires c = list-ready _ _ _ _ c.clear_list.ensures _ c.requires

pub returns : goal.returns
returns c = search list-answers
