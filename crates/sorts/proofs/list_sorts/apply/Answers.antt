use Rattle.sorts.proofs.list_sorts.Laws.{applied}
use Rattle.sorts.proofs.list_sorts.apply.Goals as goal

pub returns-then-rest-eq1 : goal.returns-then-rest-eq1
returns-then-rest-eq1 c = search applied

pub returns-then-m-entries : goal.returns-then-m-entries
returns-then-m-entries c = search applied

pub returns : goal.returns
returns c = search applied
