use mathlib.Core.Path.{refl, sym}
use Rattle.answers.proofs.Refusals.{handed-on, named}
use Rattle.pool.proofs.checks.Laws.{refused}
use Rattle.normal_form.proofs.call.Clauses.{clausal-refused, clausal-full, clausal-made, clausal-state, clausal-below}
use Rattle.normal_form.proofs.call.clausal_of.Goals as goal

pub returns-in_err-index_term : goal.returns-in_err-index_term
returns-in_err-index_term c = rw (handed-on c.from_residual.result _ c.from_residual.ensures.1) (clausal-refused _ _ _ _ _ _ c.in_err-index_term.ensures.value (refused _))

pub build_forms-requires : goal.build_forms-requires
build_forms-requires c = record {
  pool_ready = record { state = clausal-state _ _ _ _ _ _ c.in_ok-index_term.ensures.value refl; has_index = c.in_ok-index_term.ensures.indexed.passed refl };
  t_lt_count = clausal-below _ _ _ _ _ _ c.in_ok-index_term.ensures.value refl;
}

pub returns-in_err-forms : goal.returns-in_err-forms
returns-in_err-forms c =
    rw (named _ _ _ _ c.in_err-forms.ensures.value c.from_residual-in_err-forms.ensures.1)
    (rw (c.tags-1.given.1.1 (sym c.build_forms.ensures.same_arrays.tags), c.values-1.given.1.1 (sym c.build_forms.ensures.same_arrays.values))
    (clausal-full _ _ _ _ _ _ c.in_ok-index_term.ensures.value refl _ _ _ c.build_forms.ensures.forms_built c.in_err-forms.ensures.ok_part))

pub returns : goal.returns
returns c =
    rw (c.tags-1.given.1.1 (sym c.build_forms.ensures.same_arrays.tags), c.values-1.given.1.1 (sym c.build_forms.ensures.same_arrays.values))
    (clausal-made _ _ _ _ _ _ c.in_ok-index_term.ensures.value refl _ _ _ c.build_forms.ensures.forms_built _ c.in_ok-forms.ensures.ok_part)
