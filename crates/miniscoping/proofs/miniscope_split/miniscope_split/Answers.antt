use mathlib.Core.Path.{◌∙◌, ap}
use Rattle.answers.specs.Outcome.{answer_of}
use Rattle.answers.proofs.Refusals.{asked}
use Rattle.miniscoping.proofs.miniscope_split.Laws.{rule-form, rule-counts, rule-sides, outer-short}
use Rattle.miniscoping.proofs.miniscope_split.miniscope_split.Goals as goal

pub returns-in_err-s : goal.returns-in_err-s
returns-in_err-s c = asked _ _ _ _ c.in_err-s.ensures.value c.from_residual.ensures.1 ∙ ap answer_of (rule-form _ _ _ _ _ c.either_sides.ensures c.in_err-s.ensures.ok_part)

pub returns-then-from_count-to_count : goal.returns-then-from_count-to_count
returns-then-from_count-to_count c = ap answer_of (rule-counts _ _ _ _ _ c.either_sides.ensures _ c.in_ok-s.ensures.ok_part _ _ c.operand_count-from_count.ensures c.operand_count-to_count.ensures c.if-from_count-to_count.true)

pub split_sides-requires : goal.split_sides-requires
split_sides-requires c = outer-short _ _ _ c.requires _ c.either_sides.ensures _ c.in_ok-s.ensures.ok_part

pub returns : goal.returns
returns c = c.split_sides.ensures ∙ ap answer_of (rule-sides _ _ _ _ _ c.either_sides.ensures _ c.in_ok-s.ensures.ok_part _ _ c.operand_count-from_count.ensures c.operand_count-to_count.ensures c.if-from_count-to_count.false)
