use Rattle.sorts.proofs.list_sorts.Laws.{related}
use Rattle.sorts.proofs.list_sorts.is_relation.Goals as goal

pub returns-then-tag_at-ne-SET : goal.returns-then-tag_at-ne-SET
returns-then-tag_at-ne-SET c = search related

pub returns : goal.returns
returns c = search related
