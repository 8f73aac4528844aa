use mathlib.Core.Path.{◌∙◌, ap, sym}
use Rattle.answers.specs.Outcome.{answer_of}
use Rattle.answers.proofs.Refusals.{asked}
use Rattle.miniscoping.proofs.miniscope_distribute.Laws.{rule-form, rule-counts, rule-operands}
use Rattle.miniscoping.proofs.miniscope_distribute.miniscope_distribute.Goals as goal

pub returns-in_err-s : goal.returns-in_err-s
returns-in_err-s c = asked _ _ _ _ c.in_err-s.ensures.value c.from_residual.ensures.1 ∙ ap answer_of (rule-form _ _ _ _ c.either_sides.ensures c.in_err-s.ensures.ok_part)

pub returns-then-from_count-to_count : goal.returns-then-from_count-to_count
returns-then-from_count-to_count c = ap answer_of (rule-counts _ _ _ _ c.either_sides.ensures _ c.in_ok-s.ensures.ok_part _ _ c.operand_count-from_count.ensures c.operand_count-to_count.ensures c.if-from_count-to_count.true)

pub returns : goal.returns
returns c =
    c.distributed_all.ensures
    ∙ ap answer_of
    (sym
    (rule-operands _ _ _ _ c.either_sides.ensures _ c.in_ok-s.ensures.ok_part _ _ c.operand_count-from_count.ensures c.operand_count-to_count.ensures c.if-from_count-to_count.false
    _ _ c.operands-from.ensures c.operands-to.ensures))
