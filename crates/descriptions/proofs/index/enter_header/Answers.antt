use borrow.Author.Rules.{rules}
use Rattle.descriptions.proofs.index.Entries.{headers}
use Rattle.descriptions.proofs.index.enter_header.Goals as goal

pub returns-clause-value : goal.returns-clause-value
returns-clause-value c = search (headers, rules)

pub returns-clause-index_2 : goal.returns-clause-index_2
returns-clause-index_2 c = search (headers, rules)
