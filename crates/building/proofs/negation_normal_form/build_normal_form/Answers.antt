use Rattle.building.proofs.build.Walks.{ready-empty, zeros-empty}
use Rattle.building.proofs.negation_normal_form.Whole.{normal-built}
use Rattle.building.specs.Walk.{normal}
use Rattle.building.proofs.negation_normal_form.build_normal_form.Goals as goal

pub negation_normal_form-requires-clause-ready : goal.negation_normal_form-requires-clause-ready
negation_normal_form-requires-clause-ready c = record { walk_ready = ready-empty _ _ _ _ c.requires.pool_ready.state (zeros-empty _ c.requires.work_value) normal; has_index = c.requires.pool_ready.has_index }

pub returns-clause-normal_built : goal.returns-clause-normal_built
returns-clause-normal_built c = normal-built _ _ _ _ _ _ _ _ _ _ c.negation_normal_form.ensures.known
