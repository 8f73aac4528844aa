use mathlib.Core.Path.{sym, ◌∙◌}
use borrow.Author.Tests.{eqb-true, eqb-false}
use Rattle.normal_form.proofs.Promises.{clause-list-promise}
use Rattle.normal_form.proofs.call.Clauses.{short-literals, short-ends, list-arrays, list-stopped, list-kept, list-parts, list-lent, list-small}
use Rattle.normal_form.proofs.call.clause_list.Goals.{then-literals-lt-LITERALS-via-then-literals-lt-LITERALS, then-literals-lt-LITERALS-via-else-literals-lt-LITERALS+then-ends-lt-CLAUSE_ENDS}
use Rattle.normal_form.proofs.call.clause_list.Goals as goal

pub returns-then-literals-lt-LITERALS : goal.returns-then-literals-lt-LITERALS
returns-then-literals-lt-LITERALS c =
    clause-list-promise
    (elim c.then-literals-lt-LITERALS.branch [
      | then-literals-lt-LITERALS-via-then-literals-lt-LITERALS w ↦
          short-literals _ _ _ _ _ _ _ w.if-literals-lt-LITERALS.true _ c.refused.ensures
      | then-literals-lt-LITERALS-via-else-literals-lt-LITERALS+then-ends-lt-CLAUSE_ENDS w ↦
          short-ends _ _ _ _ _ _ _ w.if-literals-lt-LITERALS.false w.if-ends-lt-CLAUSE_ENDS.true _ c.refused.ensures
    ])

pub returns-then-is_bad_arrays : goal.returns-then-is_bad_arrays
returns-then-is_bad_arrays c =
    clause-list-promise
    (list-arrays _ _ _ _ _ _ _ c.if-literals-lt-LITERALS.false c.if-ends-lt-CLAUSE_ENDS.false _ _ _ c.clausal_of.ensures _ c.in-Err.is
    (eqb-true _ _ (sym c.is_bad_arrays.ensures ∙ c.if-is_bad_arrays.true)) _ c.refused-then-is_bad_arrays.ensures)

pub slice_bounds-list_clauses-end : goal.slice_bounds-list_clauses-end
slice_bounds-list_clauses-end c = search list-parts

pub slice_bounds-list_clauses-end-in-Ok : goal.slice_bounds-list_clauses-end-in-Ok
slice_bounds-list_clauses-end-in-Ok c = search list-parts

pub slice_bounds-list_clauses-end-in-Ok-2 : goal.slice_bounds-list_clauses-end-in-Ok-2
slice_bounds-list_clauses-end-in-Ok-2 c = search list-parts

pub slice_bounds-list_clauses-end-in-Ok-3 : goal.slice_bounds-list_clauses-end-in-Ok-3
slice_bounds-list_clauses-end-in-Ok-3 c = search list-parts

pub list_clauses-listed-requires : goal.list_clauses-listed-requires
list_clauses-listed-requires c = search list-lent

pub keep_listed-requires : goal.keep_listed-requires
keep_listed-requires c = search list-small

pub returns-else-is_bad_arrays : goal.returns-else-is_bad_arrays
returns-else-is_bad_arrays c =
    clause-list-promise
    (list-stopped _ _ _ _ _ _ _ c.if-literals-lt-LITERALS.false c.if-ends-lt-CLAUSE_ENDS.false _ _ _ c.clausal_of.ensures _ c.in-Err.is
    (eqb-false _ _ (sym c.is_bad_arrays.ensures ∙ c.if-is_bad_arrays.false)) _ _ _ _ c.cut_back.ensures c.clear_list.ensures _ c.refused-in-Err.ensures)

pub returns-in-Ok : goal.returns-in-Ok
returns-in-Ok c = clause-list-promise (list-kept _ _ _ _ _ _ _ c.if-literals-lt-LITERALS.false c.if-ends-lt-CLAUSE_ENDS.false _ _ _ c.clausal_of.ensures _ _ c.in-Ok.is
    _ _ _ c.list_clauses-listed.ensures c.tags-1.given c.values-1.given _ _ _ c.keep_listed.ensures)
