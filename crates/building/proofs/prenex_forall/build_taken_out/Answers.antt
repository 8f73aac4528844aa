use Rattle.building.proofs.prenex_forall.Laws.{taken-built}
use Rattle.building.proofs.prenex_forall.build_taken_out.Goals as goal

pub returns-clause-normal_built : goal.returns-clause-normal_built
returns-clause-normal_built c = taken-built _ _ _ _ _ _ _ _ _ c.prenex_forall.ensures.known
