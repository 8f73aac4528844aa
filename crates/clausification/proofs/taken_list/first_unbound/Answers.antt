use Rattle.clausification.proofs.taken_list.Laws.{fresh, whole}
use borrow.Author.Rules.{rules}
use Rattle.clausification.proofs.taken_list.first_unbound.Goals as goal

pub collect_term-requires-clause-memo : goal.collect_term-requires-clause-memo
collect_term-requires-clause-memo c = fresh _ _ 8192 _

pub returns : goal.returns
returns c = whole _ _ 8192 _ _ _ _ c.collect_term.ensures _ c.in-Some.is 8192 (search rules) _ _ _ c.first_in_neither.ensures
