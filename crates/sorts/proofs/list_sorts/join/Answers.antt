use Rattle.sorts.proofs.list_sorts.Laws.{joinings}
use Rattle.sorts.proofs.list_sorts.join.Goals as goal

pub returns-then-os-lt2 : goal.returns-then-os-lt2
returns-then-os-lt2 c = search joinings

pub returns-then-not-is_relation : goal.returns-then-not-is_relation
returns-then-not-is_relation c = search joinings

pub returns-then-not-is_relation-2 : goal.returns-then-not-is_relation-2
returns-then-not-is_relation-2 c = search joinings

pub returns-then-right-eq0 : goal.returns-then-right-eq0
returns-then-right-eq0 c = search joinings

pub returns : goal.returns
returns c = search joinings
