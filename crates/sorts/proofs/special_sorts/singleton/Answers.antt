use Rattle.sorts.proofs.special_sorts.Laws.{singletons}
use Rattle.sorts.proofs.special_sorts.singleton.Goals as goal

pub returns-then-os-eq0 : goal.returns-then-os-eq0
returns-then-os-eq0 c = search singletons

pub returns : goal.returns
returns c = search singletons
