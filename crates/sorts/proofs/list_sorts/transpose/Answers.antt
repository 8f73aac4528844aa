use Rattle.sorts.proofs.list_sorts.Laws.{transposes}
use Rattle.sorts.proofs.list_sorts.transpose.Goals as goal

pub returns-then-os-eq0 : goal.returns-then-os-eq0
returns-then-os-eq0 c = search transposes

pub returns-then-not-is_relation : goal.returns-then-not-is_relation
returns-then-not-is_relation c = search transposes

pub returns : goal.returns
returns c = search transposes
