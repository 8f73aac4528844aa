use Rattle.bindings.proofs.binding.Laws.{same-variables}
use Rattle.bindings.proofs.used_pairs.Laws.{pair-used, pair_left}
use Rattle.bindings.proofs.used_pairs.is_left_pair.Goals as goal

pub returns-then-mark-eq0 : goal.returns-then-mark-eq0
returns-then-mark-eq0 c = pair_left _ _ _ c.if-mark-eq0.true _ (same-variables _ _ _ c.eq.ensures)

pub returns-else-mark-eq0 : goal.returns-else-mark-eq0
returns-else-mark-eq0 c = pair-used _ _ _ c.if-mark-eq0.false
