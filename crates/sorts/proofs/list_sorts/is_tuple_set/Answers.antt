use Rattle.sorts.proofs.list_sorts.Laws.{tuple-sets}
use Rattle.sorts.proofs.list_sorts.is_tuple_set.Goals as goal

pub returns-then-not-is_at : goal.returns-then-not-is_at
returns-then-not-is_at c = search tuple-sets

pub returns : goal.returns
returns c = search tuple-sets
