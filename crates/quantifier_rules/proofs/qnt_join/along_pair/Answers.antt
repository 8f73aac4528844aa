use Rattle.bindings.specs.BindingAnswer.{binding}
use Rattle.bindings.proofs.binding.Laws.{same-variables}
use Rattle.quantifier_rules.proofs.qnt_join.Joining.{pair-repeats, pair-past, pair-short, pair-differs, pair-next, left_from}
use Rattle.quantifier_rules.proofs.qnt_join.along_pair.Goals as goal

pub returns-then-is_repeat : goal.returns-then-is_repeat
returns-then-is_repeat c = pair-repeats _ _ _ _ c.is_repeat.ensures c.if-is_repeat.true

pub returns-in_err-get : goal.returns-in_err-get
returns-in_err-get c = rw c.from_residual.ensures (pair-past _ _ (binding c.args.pair) _ c.is_repeat.ensures c.if-is_repeat.false c.in_err-get.ensures.lookup.0)

pub returns-in_err-next : goal.returns-in_err-next
returns-in_err-next c =
    rw c.from_residual-in_err-next.ensures
    (pair-short _ _ (binding c.args.pair) _ c.is_repeat.ensures c.if-is_repeat.false
    (left_from c.args.right.now c.args.j _ c.in_ok-get.ensures.lookup.0.2 _ c.pairs_of.ensures _ c.in_err-next.ensures.steps.0))

pub returns-then-eq : goal.returns-then-eq
returns-then-eq c =
    pair-next _ _ _ _ c.is_repeat.ensures c.if-is_repeat.false _ _
    (left_from c.args.right.now c.args.j _ c.in_ok-get.ensures.lookup.0.2 _ c.pairs_of.ensures _ c.in_ok-next.ensures.steps)
    _ (same-variables _ _ _ c.eq.ensures) c.if-eq.true

pub returns-else-eq : goal.returns-else-eq
returns-else-eq c =
    pair-differs _ _ _ _ c.is_repeat.ensures c.if-is_repeat.false _ _
    (left_from c.args.right.now c.args.j _ c.in_ok-get.ensures.lookup.0.2 _ c.pairs_of.ensures _ c.in_ok-next.ensures.steps)
    _ (same-variables _ _ _ c.eq.ensures) c.if-eq.false
