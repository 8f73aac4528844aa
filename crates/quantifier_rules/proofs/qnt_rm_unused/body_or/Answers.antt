use mathlib.Core.Path.{ap, ◌∙◌, sym}
use Rattle.answers.specs.Outcome.{answer_of}
use Rattle.formulas.specs.Formula.{is_forall}
use Rattle.quantifier_rules.proofs.qnt_rm_unused.Laws.{body-other, body-used, body-alone}
use Rattle.quantifier_rules.proofs.qnt_rm_unused.body_or.Goals as goal

pub returns-then-ne : goal.returns-then-ne
returns-then-ne c = body-other _ _ _ (is_forall c.args.left.kind) _ _ _ _ c.ne.ensures _ c.removes.ensures c.if-ne.true

pub returns-then-is_some : goal.returns-then-is_some
returns-then-is_some c = body-used _ _ _ (is_forall c.args.left.kind) _ _ _ _ c.ne.ensures _ c.removes-then-is_some.ensures _ c.first_free.ensures (sym c.is_some.ensures ∙ c.if-is_some.true)

pub returns : goal.returns
returns c = ap answer_of (body-alone _ _ _ (is_forall c.args.left.kind) _ _ _ _ c.ne.ensures c.if-ne.false _ c.first_free.ensures (sym c.is_some.ensures ∙ c.if-is_some.false))
