use Rattle.free_variables.proofs.term_names.Laws.{marks}
use Rattle.free_variables.proofs.term_names.mark_name.Goals as goal

pub returns-then-at-names : goal.returns-then-at-names
returns-then-at-names c = search marks

pub returns-else-at-names : goal.returns-else-at-names
returns-else-at-names c = search marks
