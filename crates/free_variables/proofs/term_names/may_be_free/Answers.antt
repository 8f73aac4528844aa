use borrow.Author.Rules.{rules}
use Rattle.free_variables.proofs.term_names.Laws.{may-is}
use Rattle.free_variables.proofs.term_names.may_be_free.Goals as goal

pub returns : goal.returns
returns c = search (may-is, rules)
