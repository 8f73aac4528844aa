use mathlib.Core.Path.{refl, ap}
use mathlib.Core.Bool.{not}
use Rattle.answers.proofs.Refusals.{handed-on}
use Rattle.pool.proofs.checks.Laws.{term-refused, term-not, term_is, refused}
use Rattle.pool.proofs.checks.index_term.Goals as goal

pub returns-in_err-index_pool-clause-value : goal.returns-in_err-index_pool-clause-value
returns-in_err-index_pool-clause-value c =
    rw (handed-on c.from_residual.result _ c.from_residual.ensures.1)
    (term-refused _ _ _ _ _ _ c.in_err-index_pool.ensures.value (refused _))

pub returns-then-not-is_term-clause-value : goal.returns-then-not-is_term-clause-value
returns-then-not-is_term-clause-value c = term-not _ _ _ _ _ _ c.in_ok-index_pool.ensures.value refl _ c.is_term.ensures (ap not c.if-not-is_term.true) _ refl

pub returns-clause-value : goal.returns-clause-value
returns-clause-value c = term_is _ _ _ _ _ _ c.in_ok-index_pool.ensures.value refl _ c.is_term.ensures (ap not c.if-not-is_term.false) _ refl
