use borrow.Author.Rules.{rules}
use native.Mathlib.Omega.{arith}
use mathlib.Core.Path.{refl}
use Rattle.formulas.proofs.Reading.{before_at}
use Rattle.clauses.proofs.conjunctive_normal_form.Laws.{rooms, asks, and-some, and-falls, or-ask, or-written, run-first, run-next, run-all, run-here-some, run-rest-some, writes}
use Rattle.clauses.proofs.conjunctive_normal_form.CountedPool.+write_clause_write_run.Goals as goal

pub write_clause-put-requires : goal.write_clause-put-requires
write_clause-put-requires t c = search rooms

pub write_clause-put-requires-in-Forall : goal.write_clause-put-requires-in-Forall
write_clause-put-requires-in-Forall t c = search rooms

pub write_clause-unwrap-chosen-requires : goal.write_clause-unwrap-chosen-requires
write_clause-unwrap-chosen-requires t c = and-some _ _ _ _ _ _ _ c.requires _ c.normal_view-view.ensures _ c.in-Connective.is _ c.operands-run.ensures c.in-And.is _ c.choose.ensures

pub write_clause-write_clause-requires : goal.write_clause-write_clause-requires
write_clause-write_clause-requires t c = (search and-falls, search asks)

pub write_clause-returns-in-And : goal.write_clause-returns-in-And
write_clause-returns-in-And t c = search writes

pub write_clause-write_run-requires : goal.write_clause-write_run-requires
write_clause-write_run-requires t c = (search rules, or-ask _ _ _ _ _ _ _ c.requires _ c.normal_view-view.ensures _ c.in-Connective.is _ refl c.in-Or.is)

pub write_clause-returns-in-Literal : goal.write_clause-returns-in-Literal
write_clause-returns-in-Literal t c = search writes

pub write_clause-returns-in-Forall : goal.write_clause-returns-in-Forall
write_clause-returns-in-Forall t c = search writes

pub write_clause-returns-in-Or : goal.write_clause-returns-in-Or
write_clause-returns-in-Or t c = or-written _ _ _ _ _ _ _ c.requires _ c.normal_view-view.ensures _ c.in-Connective.is _ refl c.in-Or.is _ _ c.write_run.ensures

pub write_run-loop-u-init : goal.write_run-loop-u-init
write_run-loop-u-init t c =
    record { ask = rw (c.count_at-clauses.ensures, c.operands-run.ensures) c.requires; then = λ after r w. w }

pub write_run-take_apart-digits-requires : goal.write_run-take_apart-digits-requires
write_run-take_apart-digits-requires t c = (
  run-here-some _ _ _ _ _ _ _ _ _ _ _ _ _ c.loop-u.invariant c.loop-u-test.true _ c.count_at-here.ensures,
  run-rest-some _ _ _ _ _ _ _ _ _ _ _ _ _ c.loop-u.invariant c.loop-u-test.true _ c.count_at-here.ensures,
)

pub write_run-write_clause-next-requires : goal.write_run-write_clause-next-requires
write_run-write_clause-next-requires t c =
    let b = rw (← c.operands-run.ensures) at c.requires.before in
    let h = before_at _ _ b _ c.loop-u-test.true in (
      omega arith,
      run-first _ _ _ _ _ _ _ _ _ _ _ _ _ c.loop-u.invariant c.loop-u-test.true _ c.count_at-here.ensures _ c.take_apart-digits.ensures.first,
    )

pub write_run-loop-u-preserved : goal.write_run-loop-u-preserved
write_run-loop-u-preserved t c =
    let apart = c.take_apart-digits.ensures in
    run-next _ _ _ _ _ _ _ _ _ _ _ _ _ c.loop-u.invariant c.loop-u-test.true _ c.count_at-here.ensures _ apart.first _ _ c.write_clause-next.ensures _ apart.rest _ apart.count

pub write_run-returns : goal.write_run-returns
write_run-returns t c = rw (← c.operands-run.ensures) (run-all _ _ _ _ _ _ _ _ _ _ _ _ _ c.loop-u.invariant c.loop-u-test.false)
