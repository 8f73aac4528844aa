use Rattle.bindings.proofs.binding.Laws.{same-variables}
use Rattle.bindings.proofs.used_pairs.Laws.{mark-same, mark-other}
use Rattle.bindings.proofs.used_pairs.mark_of.Goals as goal

pub returns-then-eq : goal.returns-then-eq
returns-then-eq c = mark-same _ _ _ _ (same-variables _ _ _ c.eq.ensures) c.if-eq.true

pub returns-else-eq : goal.returns-else-eq
returns-else-eq c = mark-other _ _ _ _ (same-variables _ _ _ c.eq.ensures) c.if-eq.false
