use Rattle.sorts.proofs.list_sorts.Laws.{relation-run}
use Rattle.sorts.proofs.list_sorts.relation_sorts.Goals as goal

pub returns : goal.returns
returns c = search relation-run
