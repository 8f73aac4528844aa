use borrow.Author.Rules.{rules}
use native.Mathlib.Omega.{arith}
use Rattle.formulas.proofs.Reading.{before_at, run-before}
use Rattle.clauses.proofs.empty_or.Laws.{walks, term-and, term-or, term-run, noted}
use Rattle.clauses.proofs.empty_or.+from_run_from_term.Goals as goal

pub from_run-from_term-requires : goal.from_run-from_term-requires
from_run-from_term-requires t c =
    let b = rw (← c.operands-run.ensures) at c.requires.before in
    let h = before_at _ _ b _ c.loop-u-test.true in
    (omega arith, c.loop-u.invariant.right)

pub from_term-from_run-s-requires : goal.from_term-from_run-s-requires
from_term-from_run-s-requires t c = (search rules, (c.requires, run-before _ _ _ _ c.normal_view-view.ensures _ c.in-Connective.is))

pub from_term-returns-in-Literal : goal.from_term-returns-in-Literal
from_term-returns-in-Literal t c = search walks

pub from_term-returns-in-Forall : goal.from_term-returns-in-Forall
from_term-returns-in-Forall t c = search walks

pub from_term-returns-in-Or : goal.from_term-returns-in-Or
from_term-returns-in-Or t c = term-or _ _ _ _ _ c.normal_view-view.ensures _ c.in-Connective.is _ c.operands.ensures _ c.is_empty.ensures c.requires c.if-is_empty.true c.in-Or.is

pub from_term-returns-in_default : goal.from_term-returns-in_default
from_term-returns-in_default t c = term-and _ _ _ _ _ c.normal_view-view.ensures _ c.in-Connective.is _ c.operands.ensures _ c.is_empty.ensures c.requires c.if-is_empty.true c.in_default.is

pub from_term-returns-else-is_empty : goal.from_term-returns-else-is_empty
from_term-returns-else-is_empty t c =
    noted _ _ _ _ _ (term-run _ _ _ _ _ c.normal_view-view.ensures _ c.in-Connective.is _ c.operands.ensures _ c.is_empty.ensures c.if-is_empty.false _ c.from_run-s.ensures)
    _ _ c.note_no-in-Connective.ensures
