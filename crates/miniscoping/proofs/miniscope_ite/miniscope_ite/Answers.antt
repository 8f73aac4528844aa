use mathlib.Core.Path.{◌∙◌, ap}
use mathlib.Core.Bool.{not}
use Rattle.answers.specs.Outcome.{answer_of}
use Rattle.answers.proofs.Refusals.{asked}
use Rattle.miniscoping.proofs.miniscope_ite.Laws.{rule-form, rule-yes, rule-no, rule-free, rule-passes}
use Rattle.miniscoping.proofs.miniscope_ite.miniscope_ite.Goals as goal

pub returns-in_err-s : goal.returns-in_err-s
returns-in_err-s c = asked _ _ _ _ c.in_err-s.ensures.value c.from_residual.ensures.1 ∙ ap answer_of (rule-form _ _ _ _ _ c.ite_sides.ensures c.in_err-s.ensures.ok_part)

pub returns-then-not-same_lists : goal.returns-then-not-same_lists
returns-then-not-same_lists c = ap answer_of (rule-yes _ _ _ _ _ c.ite_sides.ensures _ c.in_ok-s.ensures.ok_part _ _ c.bindings-list.ensures c.bindings.ensures _ c.same_lists.ensures (ap not c.if-not-same_lists.true))

pub returns-then-not-same_lists-2 : goal.returns-then-not-same_lists-2
returns-then-not-same_lists-2 c = ap answer_of (rule-no _ _ _ _ _ c.ite_sides.ensures _ c.in_ok-s.ensures.ok_part _ _ c.bindings-list.ensures c.bindings.ensures _ c.same_lists.ensures (ap not c.if-not-same_lists.false) _ c.bindings-2.ensures _ c.same_lists-2.ensures (ap not c.if-not-same_lists-2.true))

pub returns-in-Some : goal.returns-in-Some
returns-in-Some c = ap answer_of (rule-free _ _ _ _ _ c.ite_sides.ensures _ c.in_ok-s.ensures.ok_part _ _ c.bindings-list.ensures c.bindings.ensures _ c.same_lists.ensures (ap not c.if-not-same_lists.false) _ c.bindings-2.ensures _ c.same_lists-2.ensures (ap not c.if-not-same_lists-2.false) _ c.first_free.ensures _ c.in-Some.is)

pub returns : goal.returns
returns c = ap answer_of (rule-passes _ _ _ _ _ c.ite_sides.ensures _ c.in_ok-s.ensures.ok_part _ _ c.bindings-list.ensures c.bindings.ensures _ c.same_lists.ensures (ap not c.if-not-same_lists.false) _ c.bindings-2.ensures _ c.same_lists-2.ensures (ap not c.if-not-same_lists-2.false) _ c.first_free.ensures c.in_default.is)
