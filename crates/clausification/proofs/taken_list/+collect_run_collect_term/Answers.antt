use borrow.Author.Rules.{rules}
use Rattle.clausification.proofs.taken_list.Laws.{walks, walk-forall, collect-next, collect-end, put-from, right-joined}
use Rattle.clausification.proofs.taken_search.Laws.{look-below}
use native.Mathlib.Omega.{arith}
use Rattle.formulas.proofs.Reading.{before_at, run-before}
use Rattle.clausification.proofs.taken_list.+collect_run_collect_term.Goals as goal

pub collect_run-collect_term-requires : goal.collect_run-collect_term-requires
collect_run-collect_term-requires t c =
    let b = rw (← c.operands-run.ensures) at c.requires.before in
    let h = before_at _ _ b _ c.loop-u-test.true in
    let w = c.loop-u.invariant in
    (omega arith, (w.right, omega (arith, w.within, w.size)))

pub collect_run-loop-u-preserved : goal.collect_run-loop-u-preserved
collect_run-loop-u-preserved t c = collect-next _ _ _ _ _ _ _ _ _ c.loop-u.invariant c.loop-u-test.true _ _ (omega arith) _ c.collect_term.ensures _ c.in_ok-j.was

pub collect_run-returns : goal.collect_run-returns
collect_run-returns t c = rw (← c.operands-run.ensures) (collect-end _ _ _ _ _ _ _ _ _ c.loop-u.invariant c.loop-u-test.false)

pub collect_term-collect_run-r-requires : goal.collect_term-collect_run-r-requires
collect_term-collect_run-r-requires t c = (search rules, (c.requires.memo, (c.requires.room, run-before _ _ _ _ c.normal_view-view.ensures _ c.in-Connective.is)))

pub collect_term-collect_term-r-requires : goal.collect_term-collect_term-r-requires
collect_term-collect_term-r-requires t c = let h = look-below _ _ _ _ c.normal_view-view.ensures _ c.in-Forall.is in
    let p = put-from _ _ _ _ _ c.put_pairs.ensures _ c.in_ok-j-in-Forall.was in
    (omega arith, (right-joined _ _ _ _ _ _ _ p _ c.requires.memo, omega (arith, p.within)))

pub collect_term-returns-in-Literal : goal.collect_term-returns-in-Literal
collect_term-returns-in-Literal t c = search walks

pub collect_term-returns-in-Connective : goal.collect_term-returns-in-Connective
collect_term-returns-in-Connective t c = search walks

pub collect_term-returns-in_ok-j-in-Forall : goal.collect_term-returns-in_ok-j-in-Forall
collect_term-returns-in_ok-j-in-Forall t c =
    walk-forall _ _ _ _ _ _ c.normal_view-view.ensures _ c.in-Forall.is _ c.bindings.ensures _ _ c.put_pairs.ensures _ c.in_ok-j-in-Forall.was
    _ _ _ c.collect_term-r.ensures _ c.set_mark-in-Forall.ensures
