use mathlib.Core.Path.{◌∙◌, ap}
use Rattle.answers.specs.Outcome.{answer_of}
use Rattle.answers.proofs.Refusals.{asked}
use Rattle.formulas.specs.Formula.{is_forall}
use Rattle.formulas.proofs.SameKind.{other-kind}
use Rattle.quantifier_rules.proofs.qnt_rm_unused.Laws.{removes-none, removes-kinds, removes-bodies, removes-new, removes-missing, removes-passes}
use Rattle.quantifier_rules.proofs.qnt_rm_unused.removes.Goals as goal

pub returns-in_err-right : goal.returns-in_err-right
returns-in_err-right c = asked _ _ _ _ c.in_err-right.ensures.value c.from_residual.ensures.1 ∙ ap answer_of (removes-none _ _ _ (is_forall c.args.left.kind) _ c.args.left.body.0 _ _ c.quantified_at.ensures c.in_err-right.ensures.ok_part)

pub returns-then-ne : goal.returns-then-ne
returns-then-ne c = ap answer_of (removes-kinds _ _ _ (is_forall c.args.left.kind) _ c.args.left.body.0 _ _ c.quantified_at.ensures _ c.in_ok-right.ensures.ok_part (other-kind _ _ _ c.ne.ensures _ c.if-ne.true) _ _ c.carried_tag-wanted.ensures c.carried_tag-found.ensures)

pub returns-then-ne-2 : goal.returns-then-ne-2
returns-then-ne-2 c = ap answer_of (removes-bodies _ _ _ (is_forall c.args.left.kind) _ c.args.left.body.0 _ _ c.quantified_at.ensures _ c.in_ok-right.ensures.ok_part (other-kind _ _ _ c.ne.ensures _ c.if-ne.false) _ c.ne-2.ensures c.if-ne-2.true)

pub returns-in-Some : goal.returns-in-Some
returns-in-Some c = ap answer_of (removes-new _ _ _ (is_forall c.args.left.kind) _ c.args.left.body.0 _ _ c.quantified_at.ensures _ c.in_ok-right.ensures.ok_part (other-kind _ _ _ c.ne.ensures _ c.if-ne.false) _ c.ne-2.ensures c.if-ne-2.false _ _ c.first_new.ensures c.bindings-right_list.ensures _ c.in-Some.is)

pub returns-in-Some-first_missing : goal.returns-in-Some-first_missing
returns-in-Some-first_missing c = ap answer_of (removes-missing _ _ _ (is_forall c.args.left.kind) _ c.args.left.body.0 _ _ c.quantified_at.ensures _ c.in_ok-right.ensures.ok_part (other-kind _ _ _ c.ne.ensures _ c.if-ne.false) _ c.ne-2.ensures c.if-ne-2.false _ _ c.first_new.ensures c.bindings-right_list.ensures c.in_default.is _ c.first_missing.ensures _ c.in-Some-first_missing.is)

pub returns : goal.returns
returns c = ap answer_of (removes-passes _ _ _ (is_forall c.args.left.kind) _ c.args.left.body.0 _ _ c.quantified_at.ensures _ c.in_ok-right.ensures.ok_part (other-kind _ _ _ c.ne.ensures _ c.if-ne.false) _ c.ne-2.ensures c.if-ne-2.false _ _ c.first_new.ensures c.bindings-right_list.ensures c.in_default.is _ c.first_missing.ensures c.in_default-first_missing.is)
