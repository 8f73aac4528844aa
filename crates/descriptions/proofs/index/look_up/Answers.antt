use Rattle.descriptions.proofs.index.Laws.{looks-up}
use borrow.Author.Rules.{rules}
use Rattle.descriptions.proofs.index.look_up.Goals as goal

pub returns : goal.returns
returns c = search (looks-up, rules)
