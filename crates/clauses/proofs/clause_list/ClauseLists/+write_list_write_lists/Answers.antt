use borrow.Author.Rules.{rules}
use native.Mathlib.Omega.{arith}
use mathlib.Core.Path.{refl, ◌∙◌}
use Rattle.formulas.proofs.Reading.{before_at}
use Rattle.clauses.proofs.clause_list.Lists.{one-literal, one-forall, or-counted, none_here, and-ask, and-added, list-ask, lists-next, lists-added}
use Rattle.clauses.proofs.clause_list.ClauseLists.+write_list_write_lists.Goals as goal

pub write_list-write_clauses-requires-clause-total : goal.write_list-write_clauses-requires-clause-total
write_list-write_clauses-requires-clause-total t c = one-literal _ _ _ _ _ _ _ _ c.requires _ c.normal_view-view.ensures c.in-Literal.is

pub write_list-write_clauses-requires-in-Forall-clause-total : goal.write_list-write_clauses-requires-in-Forall-clause-total
write_list-write_clauses-requires-in-Forall-clause-total t c = one-forall _ _ _ _ _ _ _ _ c.requires _ c.normal_view-view.ensures _ c.in-Forall.is

pub write_list-returns-then-total-eq0-clause-added : goal.write_list-returns-then-total-eq0-clause-added
write_list-returns-then-total-eq0-clause-added t c = none_here _ _ _ _ _ _ _ _ c.requires _ c.normal_view-view.ensures _ c.in-Connective.is _ c.count_at-total.ensures c.if-total-eq0.true _

pub write_list-write_lists-requires : goal.write_list-write_lists-requires
write_list-write_lists-requires t c = (search rules, and-ask _ _ _ _ _ _ _ _ c.requires _ c.normal_view-view.ensures _ c.in-Connective.is c.in-And.is)

pub write_list-returns-in-And-clause-added : goal.write_list-returns-in-And-clause-added
write_list-returns-in-And-clause-added t c = and-added _ _ _ _ _ _ _ _ c.requires _ c.normal_view-view.ensures _ c.in-Connective.is c.in-And.is _ _ _ c.write_lists.ensures.added

pub write_list-write_clauses-requires-in-Or-clause-total : goal.write_list-write_clauses-requires-in-Or-clause-total
write_list-write_clauses-requires-in-Or-clause-total t c = or-counted _ _ _ _ _ _ _ _ c.requires _ c.normal_view-view.ensures _ c.in-Connective.is _ c.count_at-total.ensures

pub write_lists-loop-u-init : goal.write_lists-loop-u-init
write_lists-loop-u-init t c = record { left = record { ask = rw c.operands-run.ensures c.requires; then = λ l e g a. a }; same = (refl, refl) }

pub write_lists-write_list-requires : goal.write_lists-write_list-requires
write_lists-write_list-requires t c =
    let b = rw (← c.operands-run.ensures) at c.requires.before in
    let h = before_at _ _ b _ c.loop-u-test.true in
    (omega arith, list-ask _ _ _ _ _ _ _ _ _ _ _ _ c.loop-u.invariant.left c.loop-u-test.true)

pub write_lists-loop-u-preserved : goal.write_lists-loop-u-preserved
write_lists-loop-u-preserved t c =
    let same = c.loop-u.invariant.same in
    record {
      left = lists-next _ _ _ _ _ _ _ _ _ _ _ _ c.loop-u.invariant.left c.loop-u-test.true _ _ _ c.write_list.ensures.added;
      same = (c.write_list.ensures.same_arrays.0 ∙ same.0, c.write_list.ensures.same_arrays.1 ∙ same.1);
    }

pub write_lists-returns-clause-added : goal.write_lists-returns-clause-added
write_lists-returns-clause-added t c = rw (← c.operands-run.ensures) (lists-added _ _ _ _ _ _ _ _ _ _ _ _ c.loop-u.invariant.left c.loop-u-test.false)
