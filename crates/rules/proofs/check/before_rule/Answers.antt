use mathlib.Core.Bool.{not}
use mathlib.Core.Path.{refl, ap}
use Rattle.answers.proofs.Refusals.{handed-on}
use Rattle.rules.proofs.check.Laws.{ready-pool, ready-unknown, before-length, before-place, before-passed}
use Rattle.rules.proofs.check.before_rule.Goals as goal

pub returns-in_err-checked : goal.returns-in_err-checked
returns-in_err-checked c = ready-pool _ _ _ _ _ _ (handed-on _ _ c.from_residual.ensures.1) _ c.in_err-checked.was

pub returns-in_err-rule : goal.returns-in_err-rule
returns-in_err-rule c =
    ready-unknown _ _ _ _ _ _ (handed-on _ _ c.from_residual-in_err-rule.ensures.1) _ _ c.in_ok-checked.was
    _ c.rule_of.ensures c.in_err-rule.ensures.ok_part c.in_err-rule.ensures.value

pub returns-then-conclusion-ne1 : goal.returns-then-conclusion-ne1
returns-then-conclusion-ne1 c =
    rw c.in_ok-checked.was
    (before-length _ _ _ _ _ (rw c.in_ok-rule.ensures.ok_part at c.rule_of.ensures) c.if-conclusion-ne1.true _ c.carried.ensures)

pub returns-then-not-is_term : goal.returns-then-not-is_term
returns-then-not-is_term c =
    rw c.in_ok-checked.was
    (before-place _ _ _ _ _ (rw c.in_ok-rule.ensures.ok_part at c.rule_of.ensures) c.if-conclusion-ne1.false _ c.is_term.ensures (ap not c.if-not-is_term.true))

pub returns : goal.returns
returns c =
    let named = rw c.in_ok-rule.ensures.ok_part at c.rule_of.ensures in
    (rw c.in_ok-checked.was (before-passed _ _ _ _ _ named c.if-conclusion-ne1.false _ c.is_term.ensures (ap not c.if-not-is_term.false)), named, refl)
