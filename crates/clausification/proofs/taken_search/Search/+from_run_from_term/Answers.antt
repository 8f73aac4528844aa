use Rattle.clausification.proofs.taken_search.Laws.{walk-literal, walk-run, walk-own, walk-body, look-below, noted, left-found, left-next, left-end}
use native.Mathlib.Omega.{arith}
use Rattle.formulas.proofs.Reading.{before_at, run-before}
use borrow.Author.Rules.{rules}
use Rattle.clausification.proofs.taken_search.Search.+from_run_from_term.Goals as goal

pub from_run-from_term-requires : goal.from_run-from_term-requires
from_run-from_term-requires t c =
    let b = rw (← c.operands-run.ensures) at c.requires.before in
    let h = before_at _ _ b _ c.loop-u-test.true in
    (omega arith, c.loop-u.invariant.right)

pub from_run-returns-in-Some : goal.from_run-returns-in-Some
from_run-returns-in-Some t c = rw (← c.operands-run.ensures) (left-found _ _ _ _ _ _ c.loop-u.invariant c.loop-u-test.true _ _ c.from_term.ensures _ c.in-Some.is)

pub from_run-loop-u-preserved : goal.from_run-loop-u-preserved
from_run-loop-u-preserved t c = left-next _ _ _ _ _ _ c.loop-u.invariant c.loop-u-test.true _ _ c.from_term.ensures c.in_default.is

pub from_run-returns : goal.from_run-returns
from_run-returns t c = rw (← c.operands-run.ensures) (left-end _ _ _ _ _ _ c.loop-u.invariant c.loop-u-test.false)

pub from_term-from_run-found-requires : goal.from_term-from_run-found-requires
from_term-from_run-found-requires t c = (search rules, (c.requires, run-before _ _ _ _ c.normal_view-view.ensures _ c.in-Connective.is))

pub from_term-returns-then-is_some : goal.from_term-returns-then-is_some
from_term-returns-then-is_some t c =
    walk-own _ _ _ _ _ c.normal_view-view.ensures _ c.in-Forall.is _ c.bindings.ensures _ c.first_sought-own.ensures _ c.is_some.ensures c.if-is_some.true _ c.requires

pub from_term-from_term-found-requires : goal.from_term-from_term-found-requires
from_term-from_term-found-requires t c = let h = look-below _ _ _ _ c.normal_view-view.ensures _ c.in-Forall.is in
    (omega arith, c.requires)

pub from_term-returns-in-Literal : goal.from_term-returns-in-Literal
from_term-returns-in-Literal t c =
    noted _ _ _ _ _ _ (walk-literal _ _ _ _ _ c.normal_view-view.ensures c.in-Literal.is _ c.requires) _ _ c.note.ensures

pub from_term-returns-in-Connective : goal.from_term-returns-in-Connective
from_term-returns-in-Connective t c =
    noted _ _ _ _ _ _ (walk-run _ _ _ _ _ c.normal_view-view.ensures _ c.in-Connective.is _ _ c.from_run-found.ensures) _ _ c.note-in-Connective.ensures

pub from_term-returns-else-is_some : goal.from_term-returns-else-is_some
from_term-returns-else-is_some t c =
    noted _ _ _ _ _ _
    (walk-body _ _ _ _ _ c.normal_view-view.ensures _ c.in-Forall.is _ c.bindings.ensures _ c.first_sought-own.ensures _ c.is_some.ensures c.if-is_some.false _ _ c.from_term-found.ensures)
    _ _ c.note-in-Forall.ensures
