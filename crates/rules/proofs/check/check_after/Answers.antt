use mathlib.Core.Path.{refl, sym, ◌∙◌}
use borrow.Author.Tests.{eqb-true, eqb-false}
use Rattle.pool.proofs.checks.Laws.{refused}
use Rattle.rules.proofs.check.Laws.{step-rule, step_other, step-30, step-zeroed, place-ready, index-ready}
use Rattle.rules.proofs.check.check_after.Goals.{then-rule-eq-CNF+then-not-is_bad_arrays, else-rule-eq-CNF, else-rule-eq-CNF-via-then-rule-eq-CNF+else-not-is_bad_arrays, else-rule-eq-CNF-via-else-rule-eq-CNF}
use Rattle.rules.proofs.check.check_after.Goals as goal

pub apply-requires-clause-has_index : goal.apply-requires-clause-has_index
apply-requires-clause-has_index c = index-ready _ _ _ _ _ _ _ c.requires.checked_value _ (sym (rw c.pool.ensures.tags at c.in-Ok.ensures.0)) refl _ c.requires.indexed

pub apply-requires-clause-checked_term : goal.apply-requires-clause-checked_term
apply-requires-clause-checked_term c = rw c.in-Ok.ensures.2 (place-ready _ _ _ _ _ _ _ c.requires.checked_value _ (sym (rw c.pool.ensures.tags at c.in-Ok.ensures.0)) refl)

pub returns-in-Ok-clause-step : goal.returns-in-Ok-clause-step
returns-in-Ok-clause-step c =
    rw c.from.ensures
    (step-rule _ _ _ _ _ _ _ c.requires.checked_value _ (sym (rw c.pool.ensures.tags at c.in-Ok.ensures.0)) refl _ _ _
    (rw (sym c.in-Ok.ensures.1, c.in-Ok.ensures.2) at c.apply.ensures.judged))

pub returns-after-rule-eq-CNF-clause-step : goal.returns-after-rule-eq-CNF-clause-step
returns-after-rule-eq-CNF-clause-step c =
    rw c.from-in-Err.ensures
    (elim c.if-rule-eq-CNF.branch [
      | then-rule-eq-CNF+then-not-is_bad_arrays w ↦
          rw w.pool-is
          (step-zeroed _ _ _ _ _ _ _ c.requires.checked_value _ (rw c.pool.ensures.tags at c.in-Err.ensures) (refused _) w.if-rule-eq-CNF.true
          (eqb-false _ _ (sym w.is_bad_arrays.ensures ∙ w.if-not-is_bad_arrays.true)) _ _ w.cut_back.ensures)
      | else-rule-eq-CNF w ↦
          rw w.pool-is
          (elim w.else-rule-eq-CNF.branch [
            | else-rule-eq-CNF-via-then-rule-eq-CNF+else-not-is_bad_arrays v ↦
                step-30 _ _ _ _ _ _ _ c.requires.checked_value _ (rw c.pool.ensures.tags at c.in-Err.ensures) (refused _) (eqb-true _ _ (sym v.is_bad_arrays.ensures ∙ v.if-not-is_bad_arrays.false))
            | else-rule-eq-CNF-via-else-rule-eq-CNF v ↦
                step_other _ _ _ _ _ _ _ c.requires.checked_value _ (rw c.pool.ensures.tags at c.in-Err.ensures) (refused _) v.if-rule-eq-CNF.false
          ])
    ])
