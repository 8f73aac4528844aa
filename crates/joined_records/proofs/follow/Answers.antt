use Rattle.std.proofs.Common.{sym, ◌∙◌}
use Rattle.joined_records.proofs.Laws.{follow-end, follow-stop, follow-next}
use Rattle.joined_records.proofs.follow.Goals as goal

pub returns-in_err-s : goal.returns-in_err-s
returns-in_err-s c = c.from_residual.ensures ∙ sym (c.loop-pair.invariant ∙ follow-stop _ _ _ _ c.loop-pair-test.true _ c.next.ensures c.in_err-s.was)

pub loop-pair-preserved : goal.loop-pair-preserved
loop-pair-preserved c = c.loop-pair.invariant ∙ follow-next _ _ _ _ c.loop-pair-test.true _ c.next.ensures _ c.in_ok-s.was

pub returns : goal.returns
returns c = sym (c.loop-pair.invariant ∙ follow-end _ _ _ _ c.loop-pair-test.false)
