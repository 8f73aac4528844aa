use mathlib.Core.Path.{◌∙◌, ap}
use Rattle.answers.specs.Outcome.{answer_of}
use Rattle.answers.proofs.Refusals.{asked}
use Rattle.quantifier_rules.proofs.qnt_rm_unused.Laws.{unused-form, unused-left, unused-rest}
use Rattle.quantifier_rules.proofs.qnt_rm_unused.qnt_rm_unused.Goals as goal

pub returns-in_err-l : goal.returns-in_err-l
returns-in_err-l c = asked _ _ _ _ c.in_err-l.ensures.value c.from_residual.ensures.1 ∙ ap answer_of (unused-form _ _ _ _ _ c.equality_at.ensures c.in_err-l.ensures.ok_part)

pub returns-in_err-left : goal.returns-in_err-left
returns-in_err-left c = asked _ _ _ _ c.in_err-left.ensures.value c.from_residual-in_err-left.ensures.1 ∙ ap answer_of (unused-left _ _ _ _ _ c.equality_at.ensures _ c.in_ok-l.ensures.ok_part _ c.quantified_at.ensures c.in_err-left.ensures.ok_part)

pub returns : goal.returns
returns c = unused-rest _ _ _ _ _ c.equality_at.ensures _ c.in_ok-l.ensures.ok_part _ c.quantified_at.ensures _ c.in_ok-left.ensures.ok_part _ c.bindings.ensures _ c.body_or.ensures
