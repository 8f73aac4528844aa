use mathlib.Core.Path.{refl}
use Rattle.answers.proofs.Refusals.{handed-on, named}
use Rattle.clausification.proofs.qnt_cnf.Clauses.{sides-state, sides-below, all-within, all-within-values, source-within, source-within-values, lent, clausified-full, clausified-refused, clausified-follows}
use Rattle.clausification.proofs.qnt_cnf.clausified.Goals as goal

pub build_forms-requires : goal.build_forms-requires
build_forms-requires c = record {
  pool_ready = record { state = search sides-state; has_index = c.requires.has_index };
  t_lt_count = search sides-below;
}

pub returns-in_err-forms-clause-leaves : goal.returns-in_err-forms-clause-leaves
returns-in_err-forms-clause-leaves c = clausified-full _ _ _ _ _ _ _ c.requires.forall_sides _ _ _ c.build_forms.ensures.forms_built c.in_err-forms.ensures.ok_part _ (named _ _ _ _ c.in_err-forms.ensures.value c.from_residual.ensures.1)

pub first-taken_out-requires : goal.first-taken_out-requires
first-taken_out-requires c = record { tags_len = all-within _ _ _ _ _ _ _ c.build_forms.ensures.forms_built _ c.in_ok-forms.ensures.ok_part; values_len = all-within-values _ _ _ _ _ _ _ c.build_forms.ensures.forms_built _ c.in_ok-forms.ensures.ok_part }

pub list_clauses-requires : goal.list_clauses-requires
list_clauses-requires c = rw c.first-taken_out.ensures.tags (lent _ _ _ _ _ _ _ c.build_forms.ensures.forms_built _ c.in_ok-forms.ensures.ok_part)

pub returns-in_err-totals-clause-leaves : goal.returns-in_err-totals-clause-leaves
returns-in_err-totals-clause-leaves c = clausified-refused _ _ _ _ _ _ _ c.requires.forall_sides _ _ _ c.build_forms.ensures.forms_built _ c.in_ok-forms.ensures.ok_part _ _ _ (rw (c.first-taken_out.ensures.tags, c.first-taken_out.ensures.values) at c.in_err-totals.ensures) _ refl _ (handed-on _ _ c.from_residual-in_err-totals.ensures.1)

pub first-normal-requires : goal.first-normal-requires
first-normal-requires c = record { tags_len = source-within _ _ _ _ _ _ _ c.build_forms.ensures.forms_built _ c.in_ok-forms.ensures.ok_part; values_len = source-within-values _ _ _ _ _ _ _ c.build_forms.ensures.forms_built _ c.in_ok-forms.ensures.ok_part }

pub returns-clause-leaves : goal.returns-clause-leaves
returns-clause-leaves c = clausified-follows _ _ _ _ _ _ _ c.requires.forall_sides _ _ _ c.build_forms.ensures.forms_built _ c.in_ok-forms.ensures.ok_part _ _ _ (rw (c.first-taken_out.ensures.tags, c.first-taken_out.ensures.values) at c.in_ok-totals.ensures) refl _ (rw (c.first-normal.ensures.tags, c.first-normal.ensures.values) at c.clause_follows.ensures)
