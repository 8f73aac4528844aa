use mathlib.Core.Path.{refl, sym, ◌∙◌}
use borrow.Author.Tests.{eqb-true, eqb-false}
use Rattle.pool.proofs.checks.Laws.{refused}
use Rattle.building.proofs.build.Walks.{at_count, no_count}
use Rattle.normal_form.proofs.Promises.{normal-form-promise}
use Rattle.normal_form.proofs.call.Laws.{normal-arrays, normal-refused, normal-full, normal-made, checked-ready, count-fits}
use Rattle.normal_form.proofs.call.normal_form.Goals as goal

pub returns-then-is_bad_arrays : goal.returns-then-is_bad_arrays
returns-then-is_bad_arrays c =
    normal-form-promise
    (rw c.from.ensures (normal-arrays _ _ _ _ _ _ _ c.in-Err.ensures.value (eqb-true _ _ (sym c.is_bad_arrays.ensures ∙ c.if-is_bad_arrays.true))))

pub returns-in-Err : goal.returns-in-Err
returns-in-Err c =
    normal-form-promise
    (rw c.from-in-Err.ensures (normal-refused _ _ _ _ _ _ _ c.in-Err.ensures.value (eqb-false _ _ (sym c.is_bad_arrays.ensures ∙ c.if-is_bad_arrays.false)) (refused _) _ _ c.cut_back.ensures))

pub build_normal_form-built-requires-clause-pool_ready : goal.build_normal_form-built-requires-clause-pool_ready
build_normal_form-built-requires-clause-pool_ready c = record { state = (checked-ready _ _ _ _ _ _ c.in_default.ensures.value refl).0; has_index = c.in_default.ensures.indexed.passed refl }

pub build_normal_form-built-requires-clause-t_lt_count : goal.build_normal_form-built-requires-clause-t_lt_count
build_normal_form-built-requires-clause-t_lt_count c = (checked-ready _ _ _ _ _ _ c.in_default.ensures.value refl).1

pub returns-in_default-built : goal.returns-in_default-built
returns-in_default-built c =
    normal-form-promise
    (normal-full _ _ _ _ _ _ _ c.in_default.ensures.value refl _ _ _ c.build_normal_form-built.ensures.normal_built (no_count _ _ c.in_default-built.is) _ _
    (rw (c.tags-2-1.given.1.1 (sym c.build_normal_form-built.ensures.same_arrays.tags), c.values-2-1.given.1.1 (sym c.build_normal_form-built.ensures.same_arrays.values)) at c.cut_back-in_default-built.ensures) _ c.from-in_default-built.ensures)

pub overflow_cast-m : goal.overflow_cast-m
overflow_cast-m c = record { fits = count-fits _ _ _ _ _ _ _ c.build_normal_form-built.ensures.normal_built _ _ (at_count _ _ _ c.in-Some.is) }

pub returns : goal.returns
returns c =
    normal-form-promise
    (normal-made _ _ _ _ _ _ _ c.in_default.ensures.value refl _ _ _ c.build_normal_form-built.ensures.normal_built _ _ (at_count _ _ _ c.in-Some.is)
    c.build_normal_form-built.ensures.same_arrays.tags-size c.build_normal_form-built.ensures.same_arrays.values-size _ _ (rw (c.tags-2-1.given.1.1 (sym c.build_normal_form-built.ensures.same_arrays.tags), c.values-2-1.given.1.1 (sym c.build_normal_form-built.ensures.same_arrays.values)) at c.cut_back-2.ensures) _ c.accepted.ensures)
