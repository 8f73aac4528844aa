use borrow.Author.Rules.{rules}
use Rattle.descriptions.proofs.index.Forgetting.{leaving}
use Rattle.descriptions.proofs.index.leave.Goals as goal

pub returns-then-index-b : goal.returns-then-index-b
returns-then-index-b c = search (leaving, rules)

pub returns : goal.returns
returns c = search (leaving, rules)
