use borrow.Author.Rules.{rules}
use Rattle.descriptions.specs.Index.{entered}
use Rattle.descriptions.proofs.index.enter.Goals as goal

pub returns : goal.returns
unfolding entered
returns c = search rules
