use mathlib.Core.Path.{ap, ◌∙◌}
use mathlib.Core.Bool.{not}
use Rattle.clausification.proofs.taken_search.Laws.{unbound-left, unbound-taken}
use Rattle.clausification.proofs.taken_search.is_unbound.Goals as goal

pub returns-then-not-has : goal.returns-then-not-has
returns-then-not-has c = unbound-taken _ _ _ _ c.has.ensures c.if-not-has.true _ _ _ _ _ c.first_taken.ensures _ c.is_none.ensures

pub returns-else-not-has : goal.returns-else-not-has
returns-else-not-has c = ap not c.if-not-has.false ∙ unbound-left _ _ _ _ c.has.ensures c.if-not-has.false
