use native.Mathlib.Omega.{arith}
use borrow.Author.Rules.{rules}
use Rattle.appearance.proofs.rows.Words.{fill-words}
use Rattle.appearance.proofs.rows.fill_row.Goals as goal

pub returns : goal.returns
returns c = fill-words _ c.min-start.result c.min-end.result c.fill.new.self (omega arith) (omega arith) (search (rules, c.fill.ensures.after)) _ _ (omega arith) (omega arith)
