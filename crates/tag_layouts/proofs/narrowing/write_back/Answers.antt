use borrow.Author.Rules.{rules}
use Rattle.tag_layouts.proofs.narrowing.Laws.{writings}
use Rattle.tag_layouts.proofs.narrowing.write_back.Goals as goal

pub loop-i-init : goal.loop-i-init
loop-i-init c = search (writings, rules)

pub loop-i-preserved : goal.loop-i-preserved
loop-i-preserved c = search (writings, rules)

pub returns : goal.returns
returns c = search (writings, rules)
