use Rattle.free_variables.proofs.free_vars.Laws.{fresh}
use Rattle.free_variables.proofs.free_vars.is_free.Goals as goal

pub compute_free_vars-requires : goal.compute_free_vars-requires
compute_free_vars-requires c = fresh _ _ _ 8192
