use Rattle.appearance.proofs.compute_free_vars.Laws.{notes}
use borrow.Author.Rules.{rules}
use Rattle.appearance.proofs.compute_free_vars.note_variable.Goals as goal

pub returns-then-found-at-ne0-clause-noted : goal.returns-then-found-at-ne0-clause-noted
returns-then-found-at-ne0-clause-noted c = search (notes, rules)

pub returns-then-found-clause-noted : goal.returns-then-found-clause-noted
returns-then-found-clause-noted c = search (notes, rules)

pub returns-else-found-clause-noted : goal.returns-else-found-clause-noted
returns-else-found-clause-noted c = search (notes, rules)
