use borrow.Author.Rules.{rules}
use Rattle.appearance.proofs.pairs.Laws.{variable-place}
use Rattle.appearance.proofs.pairs.variable_of.Goals as goal

pub returns : goal.returns
returns c = search (variable-place, rules)
