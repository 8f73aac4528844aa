use mathlib.Core.Bool.{not}
use mathlib.Core.Path.{◌∙◌, ap}
use Rattle.answers.specs.Outcome.{answer_of}
use Rattle.answers.proofs.Refusals.{asked}
use Rattle.formulas.proofs.SameKind.{other-kind}
use Rattle.quantifier_rules.proofs.qnt_join.Laws.{join-form, join-left, join-inner, join-right, join-kinds, join-kinds-right, join-bodies, join-lists, join-passes}
use Rattle.quantifier_rules.proofs.qnt_join.qnt_join.Goals as goal

pub returns-in_err-l : goal.returns-in_err-l
returns-in_err-l c = asked _ _ _ _ c.in_err-l.ensures.value c.from_residual.ensures.1 ∙ ap answer_of (join-form _ _ _ _ c.equality_at.ensures c.in_err-l.ensures.ok_part)

pub returns-in_err-left : goal.returns-in_err-left
returns-in_err-left c = asked _ _ _ _ c.in_err-left.ensures.value c.from_residual-in_err-left.ensures.1 ∙ ap answer_of (join-left _ _ _ _ c.equality_at.ensures _ c.in_ok-l.ensures.ok_part _ c.quantified_at.ensures c.in_err-left.ensures.ok_part)

pub returns-in_err-inner : goal.returns-in_err-inner
returns-in_err-inner c = asked _ _ _ _ c.in_err-inner.ensures.value c.from_residual-in_err-inner.ensures.1 ∙ ap answer_of (join-inner _ _ _ _ c.equality_at.ensures _ c.in_ok-l.ensures.ok_part _ c.quantified_at.ensures _ c.in_ok-left.ensures.ok_part _ c.quantified_at-2.ensures c.in_err-inner.ensures.ok_part)

pub returns-in_err-right : goal.returns-in_err-right
returns-in_err-right c = asked _ _ _ _ c.in_err-right.ensures.value c.from_residual-in_err-right.ensures.1 ∙ ap answer_of (join-right _ _ _ _ c.equality_at.ensures _ c.in_ok-l.ensures.ok_part _ c.quantified_at.ensures _ c.in_ok-left.ensures.ok_part _ c.quantified_at-2.ensures _ c.in_ok-inner.ensures.ok_part _ c.quantified_at-3.ensures c.in_err-right.ensures.ok_part)

pub returns-then-ne : goal.returns-then-ne
returns-then-ne c = ap answer_of (join-kinds _ _ _ _ c.equality_at.ensures _ c.in_ok-l.ensures.ok_part _ c.quantified_at.ensures _ c.in_ok-left.ensures.ok_part _ c.quantified_at-2.ensures _ c.in_ok-inner.ensures.ok_part _ c.quantified_at-3.ensures _ c.in_ok-right.ensures.ok_part (other-kind _ _ _ c.ne.ensures _ c.if-ne.true) _ _ c.carried_tag-wanted.ensures c.carried_tag-found.ensures)

pub returns-then-ne-2 : goal.returns-then-ne-2
returns-then-ne-2 c = ap answer_of (join-kinds-right _ _ _ _ c.equality_at.ensures _ c.in_ok-l.ensures.ok_part _ c.quantified_at.ensures _ c.in_ok-left.ensures.ok_part _ c.quantified_at-2.ensures _ c.in_ok-inner.ensures.ok_part _ c.quantified_at-3.ensures _ c.in_ok-right.ensures.ok_part (other-kind _ _ _ c.ne.ensures _ c.if-ne.false) (other-kind _ _ _ c.ne-2.ensures _ c.if-ne-2.true) _ _ c.carried_tag-wanted-then-ne-2.ensures c.carried_tag-found-then-ne-2.ensures)

pub returns-then-ne-3 : goal.returns-then-ne-3
returns-then-ne-3 c = ap answer_of (join-bodies _ _ _ _ c.equality_at.ensures _ c.in_ok-l.ensures.ok_part _ c.quantified_at.ensures _ c.in_ok-left.ensures.ok_part _ c.quantified_at-2.ensures _ c.in_ok-inner.ensures.ok_part _ c.quantified_at-3.ensures _ c.in_ok-right.ensures.ok_part (other-kind _ _ _ c.ne.ensures _ c.if-ne.false) (other-kind _ _ _ c.ne-2.ensures _ c.if-ne-2.false) _ c.ne-3.ensures c.if-ne-3.true)

pub returns-then-not-same_joined : goal.returns-then-not-same_joined
returns-then-not-same_joined c = ap answer_of (join-lists _ _ _ _ c.equality_at.ensures _ c.in_ok-l.ensures.ok_part _ c.quantified_at.ensures _ c.in_ok-left.ensures.ok_part _ c.quantified_at-2.ensures _ c.in_ok-inner.ensures.ok_part _ c.quantified_at-3.ensures _ c.in_ok-right.ensures.ok_part (other-kind _ _ _ c.ne.ensures _ c.if-ne.false) (other-kind _ _ _ c.ne-2.ensures _ c.if-ne-2.false) _ c.ne-3.ensures c.if-ne-3.false _ _ _ _ c.same_joined.ensures c.bindings-outer_list.ensures c.bindings-inner_list.ensures c.bindings.ensures (ap not c.if-not-same_joined.true))

pub returns : goal.returns
returns c = ap answer_of (join-passes _ _ _ _ c.equality_at.ensures _ c.in_ok-l.ensures.ok_part _ c.quantified_at.ensures _ c.in_ok-left.ensures.ok_part _ c.quantified_at-2.ensures _ c.in_ok-inner.ensures.ok_part _ c.quantified_at-3.ensures _ c.in_ok-right.ensures.ok_part (other-kind _ _ _ c.ne.ensures _ c.if-ne.false) (other-kind _ _ _ c.ne-2.ensures _ c.if-ne-2.false) _ c.ne-3.ensures c.if-ne-3.false _ _ _ _ c.same_joined.ensures c.bindings-outer_list.ensures c.bindings-inner_list.ensures c.bindings.ensures (ap not c.if-not-same_joined.false))
