use borrow.Author.Rules.{rules}
use Rattle.appearance.proofs.bits.Laws.{meetings}
use Rattle.appearance.proofs.bits.meets.Goals as goal

pub returns-then-x-y-ne0 : goal.returns-then-x-y-ne0
returns-then-x-y-ne0 c = search (meetings, rules)

pub loop-j-preserved : goal.loop-j-preserved
loop-j-preserved c = search (meetings, rules)

pub returns : goal.returns
returns c = search (meetings, rules)
