use borrow.Author.Rules.{rules}
use Rattle.clauses.proofs.totals.Laws.{walks, term-operands, operand-falls, run_fits}
use Rattle.clauses.proofs.totals.+count_operands_list_totals.Goals as goal

pub count_operands-list_totals-requires : goal.count_operands-list_totals-requires
count_operands-list_totals-requires t c = (search operand-falls, search rules)

pub count_operands-loop-u-preserved : goal.count_operands-loop-u-preserved
count_operands-loop-u-preserved t c = search walks

pub list_totals-count_operands-requires : goal.list_totals-count_operands-requires
list_totals-count_operands-requires t c = (search rules, search term-operands)

pub list_totals-note-requires-in-Connective : goal.list_totals-note-requires-in-Connective
list_totals-note-requires-in-Connective t c = search run_fits

pub list_totals-returns-in-Literal : goal.list_totals-returns-in-Literal
list_totals-returns-in-Literal t c = search walks

pub list_totals-returns-in-Forall : goal.list_totals-returns-in-Forall
list_totals-returns-in-Forall t c = search walks

pub list_totals-returns-in-Connective : goal.list_totals-returns-in-Connective
list_totals-returns-in-Connective t c = search walks
