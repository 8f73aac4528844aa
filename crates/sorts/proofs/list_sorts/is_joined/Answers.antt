use Rattle.sorts.proofs.list_sorts.Laws.{relations}
use Rattle.sorts.proofs.list_sorts.is_joined.Goals as goal

pub returns-then-not-is_tuple_set : goal.returns-then-not-is_tuple_set
returns-then-not-is_tuple_set c = search relations

pub returns : goal.returns
returns c = search relations
