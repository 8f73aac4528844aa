use mathlib.Core.Path.{◌∙◌}
use Rattle.answers.proofs.Refusals.{asked-outcome}
use Rattle.miniscoping.proofs.miniscope_split.Laws.{operand-equal, operand-form, operand-body, operand-uses}
use Rattle.miniscoping.proofs.miniscope_split.split_one.Goals as goal

pub returns-then-eq : goal.returns-then-eq
returns-then-eq c = operand-equal _ _ _ _ c.args.t.0 c.args.u.0 _ c.eq.ensures c.if-eq.true

pub returns-in_err-right : goal.returns-in_err-right
returns-in_err-right c = operand-form _ _ _ _ c.args.t.0 c.args.u.0 _ c.eq.ensures c.if-eq.false _ c.of_kind.ensures c.in_err-right.ensures.ok_part ∙ asked-outcome _ _ _ _ c.in_err-right.ensures.value c.from_residual.ensures.1 _

pub returns-then-ne : goal.returns-then-ne
returns-then-ne c = operand-body _ _ _ _ c.args.t.0 c.args.u.0 _ c.eq.ensures c.if-eq.false _ c.of_kind.ensures _ c.in_ok-right.ensures.ok_part _ c.ne.ensures c.if-ne.true

pub returns : goal.returns
returns c = operand-uses _ _ _ _ c.args.t.0 c.args.u.0 _ c.eq.ensures c.if-eq.false _ c.of_kind.ensures _ c.in_ok-right.ensures.ok_part _ c.ne.ensures c.if-ne.false _ c.bindings.ensures _ c.use_all.ensures
