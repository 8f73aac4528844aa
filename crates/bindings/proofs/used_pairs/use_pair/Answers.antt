use Rattle.std.proofs.lemmas.List.{set-get_or}
use Rattle.std.proofs.Common.{arith}
use Rattle.bindings.proofs.used_pairs.Laws.{use-start, use-end, use-odd, use-next}
use Rattle.bindings.proofs.used_pairs.use_pair.Goals as goal

pub loop-mark-init : goal.loop-mark-init
loop-mark-init c = rw c.pairs_of-left.ensures (use-start _ _ _)

pub returns-in_default : goal.returns-in_default
returns-in_default c = rw set-get_or (use-odd _ _ _ _ _ _ _ c.loop-mark.invariant c.in_default.ensures.steps.0)

pub loop-mark-preserved : goal.loop-mark-preserved
loop-mark-preserved c = use-next _ _ _ _ _ _ _ c.loop-mark.invariant (omega arith) _ _ c.in-Some.ensures.steps _ c.is_left_pair-was_left.ensures _ c.mark_of.ensures

pub returns : goal.returns
returns c = use-end _ _ _ _ _ _ _ c.loop-mark.invariant (omega arith)
