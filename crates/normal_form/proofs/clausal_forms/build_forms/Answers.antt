use mathlib.Core.Path.{refl, ◌∙◌}
use Rattle.building.proofs.build.Walks.{at_count, no_count}
use Rattle.normal_form.proofs.clausal_forms.Laws.{no-normal-forms, no-normal-ask, no-normal-index, no-taken-forms, no-taken-ask, no-taken-index, both-forms, both-ask, both-index}
use Rattle.normal_form.proofs.clausal_forms.build_forms.Goals as goal

pub index_headers-requires : goal.index_headers-requires
index_headers-requires c = no-normal-ask _ _ _ _ c.requires.pool_ready.state _ c.requires.pool_ready.has_index _ _ _ c.build_normal_form.ensures.normal_built (no_count _ _ c.in_default.is)

pub returns-in_default-clause-forms_built : goal.returns-in_default-clause-forms_built
returns-in_default-clause-forms_built c = no-normal-forms _ _ _ _ c.requires.pool_ready.state _ c.requires.pool_ready.has_index _ _ _ c.build_normal_form.ensures.normal_built (no_count _ _ c.in_default.is)

pub returns-in_default-clause-indexed_again : goal.returns-in_default-clause-indexed_again
returns-in_default-clause-indexed_again c = record { count = refl; index = no-normal-index _ _ _ _ c.requires.pool_ready.state _ c.requires.pool_ready.has_index _ _ _ c.build_normal_form.ensures.normal_built (no_count _ _ c.in_default.is) _ c.index_headers.ensures }

pub index_headers-requires-in_default-build_taken_out : goal.index_headers-requires-in_default-build_taken_out
index_headers-requires-in_default-build_taken_out c =
    no-taken-ask _ _ _ _ c.requires.pool_ready.state _ c.requires.pool_ready.has_index _ _ _ c.build_normal_form.ensures.normal_built _ _ (at_count _ _ _ c.in-Some.is)
    _ _ _ c.build_taken_out.ensures.normal_built c.build_normal_form.ensures.same_arrays.tags-size c.build_normal_form.ensures.same_arrays.values-size (no_count _ _ c.in_default-build_taken_out.is)

pub returns-in_default-build_taken_out-clause-forms_built : goal.returns-in_default-build_taken_out-clause-forms_built
returns-in_default-build_taken_out-clause-forms_built c =
    no-taken-forms _ _ _ _ c.requires.pool_ready.state _ c.requires.pool_ready.has_index _ _ _ c.build_normal_form.ensures.normal_built _ _ (at_count _ _ _ c.in-Some.is)
    _ _ _ c.build_taken_out.ensures.normal_built c.build_normal_form.ensures.same_arrays.tags-size c.build_normal_form.ensures.same_arrays.values-size (no_count _ _ c.in_default-build_taken_out.is)

pub returns-in_default-build_taken_out-clause-indexed_again : goal.returns-in_default-build_taken_out-clause-indexed_again
returns-in_default-build_taken_out-clause-indexed_again c =
    record {
      count = refl;
      index = no-taken-index _ _ _ _ c.requires.pool_ready.state _ c.requires.pool_ready.has_index _ _ _ c.build_normal_form.ensures.normal_built _ _ (at_count _ _ _ c.in-Some.is)
          _ _ _ c.build_taken_out.ensures.normal_built c.build_normal_form.ensures.same_arrays.tags-size c.build_normal_form.ensures.same_arrays.values-size (no_count _ _ c.in_default-build_taken_out.is) _ c.index_headers-in_default-build_taken_out.ensures;
    }

pub forget-requires-clause-earlier : goal.forget-requires-clause-earlier
forget-requires-clause-earlier c =
    both-ask _ _ _ _ c.requires.pool_ready.state _ c.requires.pool_ready.has_index _ _ _ c.build_normal_form.ensures.normal_built _ _ (at_count _ _ _ c.in-Some.is)
    _ _ _ c.build_taken_out.ensures.normal_built c.build_normal_form.ensures.same_arrays.tags-size c.build_normal_form.ensures.same_arrays.values-size _ _ (at_count _ _ _ c.in-Some-build_taken_out.is) (c.build_taken_out.ensures.same_arrays.tags-size ∙ c.build_normal_form.ensures.same_arrays.tags-size) (c.build_taken_out.ensures.same_arrays.values-size ∙ c.build_normal_form.ensures.same_arrays.values-size)

pub returns-clause-forms_built : goal.returns-clause-forms_built
returns-clause-forms_built c =
    both-forms _ _ _ _ c.requires.pool_ready.state _ c.requires.pool_ready.has_index _ _ _ c.build_normal_form.ensures.normal_built _ _ (at_count _ _ _ c.in-Some.is)
    _ _ _ c.build_taken_out.ensures.normal_built c.build_normal_form.ensures.same_arrays.tags-size c.build_normal_form.ensures.same_arrays.values-size _ _ (at_count _ _ _ c.in-Some-build_taken_out.is) (c.build_taken_out.ensures.same_arrays.tags-size ∙ c.build_normal_form.ensures.same_arrays.tags-size) (c.build_taken_out.ensures.same_arrays.values-size ∙ c.build_normal_form.ensures.same_arrays.values-size)

pub returns-clause-indexed_again : goal.returns-clause-indexed_again
returns-clause-indexed_again c =
    record {
      count = refl;
      index = both-index _ _ _ _ c.requires.pool_ready.state _ c.requires.pool_ready.has_index _ _ _ c.build_normal_form.ensures.normal_built _ _ (at_count _ _ _ c.in-Some.is)
          _ _ _ c.build_taken_out.ensures.normal_built c.build_normal_form.ensures.same_arrays.tags-size c.build_normal_form.ensures.same_arrays.values-size _ _ (at_count _ _ _ c.in-Some-build_taken_out.is) (c.build_taken_out.ensures.same_arrays.tags-size ∙ c.build_normal_form.ensures.same_arrays.tags-size) (c.build_taken_out.ensures.same_arrays.values-size ∙ c.build_normal_form.ensures.same_arrays.values-size) _ c.forget.ensures;
    }
