use mathlib.Core.Path.{◌∙◌, ap}
use mathlib.Core.Bool.{not}
use Rattle.answers.proofs.Refusals.{asked-outcome}
use Rattle.miniscoping.proofs.miniscope_distribute.Laws.{operand-form, operand-list, operand-body, operand-passes}
use Rattle.miniscoping.proofs.miniscope_distribute.distributed.Goals as goal

pub returns-in_err-right : goal.returns-in_err-right
returns-in_err-right c = operand-form _ _ c.args.s c.args.t.0 c.args.u.0 _ c.of_kind.ensures c.in_err-right.ensures.ok_part ∙ asked-outcome _ _ _ _ c.in_err-right.ensures.value c.from_residual.ensures.1 _

pub returns-then-not-same_lists : goal.returns-then-not-same_lists
returns-then-not-same_lists c = operand-list _ _ c.args.s c.args.t.0 c.args.u.0 _ c.of_kind.ensures _ c.in_ok-right.ensures.ok_part _ _ c.bindings.ensures c.bindings-2.ensures _ c.same_lists.ensures (ap not c.if-not-same_lists.true)

pub returns-then-ne : goal.returns-then-ne
returns-then-ne c = operand-body _ _ c.args.s c.args.t.0 c.args.u.0 _ c.of_kind.ensures _ c.in_ok-right.ensures.ok_part _ _ c.bindings.ensures c.bindings-2.ensures _ c.same_lists.ensures (ap not c.if-not-same_lists.false) _ c.ne.ensures c.if-ne.true

pub returns : goal.returns
returns c = operand-passes _ _ c.args.s c.args.t.0 c.args.u.0 _ c.of_kind.ensures _ c.in_ok-right.ensures.ok_part _ _ c.bindings.ensures c.bindings-2.ensures _ c.same_lists.ensures (ap not c.if-not-same_lists.false) _ c.ne.ensures c.if-ne.false
