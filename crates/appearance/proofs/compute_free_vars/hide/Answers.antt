use Rattle.appearance.proofs.compute_free_vars.Laws.{reasons}
use borrow.Author.Rules.{rules}
use Rattle.appearance.proofs.compute_free_vars.hide.Goals as goal

pub returns : goal.returns
returns c = search (reasons, rules)
