use Rattle.free_variables.proofs.term_names.Laws.{fresh}
use Rattle.free_variables.proofs.term_names.mark_names.Goals as goal

pub names_of_term-requires : goal.names_of_term-requires
names_of_term-requires c = fresh _ _ _ 8192
