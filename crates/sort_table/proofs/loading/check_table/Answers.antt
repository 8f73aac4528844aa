use borrow.Author.Rules.{rules}
use Rattle.sort_table.proofs.loading.Laws.{answers, entry-fits}
use Rattle.sort_table.proofs.loading.check_table.Goals as goal

pub returns-then-entries-ne-ENTRIES : goal.returns-then-entries-ne-ENTRIES
returns-then-entries-ne-ENTRIES c = search answers

pub overflow_cast-result-in-Some : goal.overflow_cast-result-in-Some
overflow_cast-result-in-Some c = search (entry-fits, rules)

pub returns-in-Some : goal.returns-in-Some
returns-in-Some c = search answers

pub overflow_cast-result-in-Some-first_not_bool : goal.overflow_cast-result-in-Some-first_not_bool
overflow_cast-result-in-Some-first_not_bool c = search (entry-fits, rules)

pub returns-in-Some-first_not_bool : goal.returns-in-Some-first_not_bool
returns-in-Some-first_not_bool c = search answers

pub returns : goal.returns
returns c = search answers
