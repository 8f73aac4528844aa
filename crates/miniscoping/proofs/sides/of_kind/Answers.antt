use Rattle.formulas.specs.Formula.{is_forall}
use Rattle.formulas.proofs.SameKind.{same-kind}
use Rattle.miniscoping.proofs.sides.Laws.{kind-none, kind-is, kind-other}
use Rattle.miniscoping.proofs.sides.of_kind.Goals as goal

pub returns-in_err-q : goal.returns-in_err-q
returns-in_err-q c = rw c.from_residual.ensures (kind-none _ _ _ (is_forall c.args.kind) _ _ c.quantified_at.ensures c.in_err-q.was)

pub returns-then-eq : goal.returns-then-eq
returns-then-eq c = kind-is _ _ _ _ _ _ c.quantified_at.ensures _ c.in_ok-q.was (same-kind _ _ _ c.eq.ensures _ c.if-eq.true)

pub returns-else-eq : goal.returns-else-eq
returns-else-eq c = kind-other _ _ _ _ _ _ c.quantified_at.ensures _ c.in_ok-q.was (same-kind _ _ _ c.eq.ensures _ c.if-eq.false)
