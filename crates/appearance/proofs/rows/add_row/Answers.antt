use borrow.Author.Rules.{rules}
use Rattle.appearance.proofs.rows.Words.{add-more}
use Rattle.appearance.proofs.rows.add_row.Goals as goal

pub loop-j-preserved : goal.loop-j-preserved
loop-j-preserved c = search (add-more, rules)
