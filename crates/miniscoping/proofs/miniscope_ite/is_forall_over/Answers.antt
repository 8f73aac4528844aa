use mathlib.Core.Path.{◌∙◌}
use Rattle.miniscoping.proofs.miniscope_ite.Laws.{over_none, over-is}
use Rattle.miniscoping.proofs.miniscope_ite.is_forall_over.Goals as goal

pub returns-in_default : goal.returns-in_default
returns-in_default c = over_none _ _ _ _ _ _ c.of_kind.ensures c.in_default.is

pub returns : goal.returns
returns c = c.eq.ensures ∙ over-is _ _ _ _ _ _ c.of_kind.ensures _ c.in-Some.is
