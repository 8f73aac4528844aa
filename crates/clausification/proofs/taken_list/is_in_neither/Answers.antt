use mathlib.Core.Path.{ap, ◌∙◌}
use mathlib.Core.Bool.{not}
use Rattle.clausification.proofs.taken_search.Laws.{unbound-left}
use Rattle.clausification.proofs.taken_list.Laws.{neither-taken}
use Rattle.clausification.proofs.taken_list.is_in_neither.Goals as goal

pub returns-then-not-has : goal.returns-then-not-has
returns-then-not-has c = neither-taken _ _ _ _ c.has.ensures c.if-not-has.true _ c.has-then-not-has.ensures

pub returns-else-not-has : goal.returns-else-not-has
returns-else-not-has c = ap not c.if-not-has.false ∙ unbound-left _ _ _ _ c.has.ensures c.if-not-has.false
