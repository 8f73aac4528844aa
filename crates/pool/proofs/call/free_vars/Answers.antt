use mathlib.Core.Path.{refl, sym, ◌∙◌}
use native.Mathlib.Omega.{arith}
use borrow.Author.Tests.{eqb-true, eqb-false}
use Rattle.answers.specs.Answer.{accepted}
use Rattle.pool.proofs.checks.Laws.{refused}
use Rattle.pool.proofs.call.Laws.{marks-short, marks-kept, marks-cleared, marks-made}
use Rattle.pool.proofs.call.free_vars.Goals as goal

pub returns-then-marks-n : goal.returns-then-marks-n
returns-then-marks-n c = marks-short _ _ _ _ _ _ c.if-marks-n.true _ c.from.ensures

pub returns-in-Ok : goal.returns-in-Ok
returns-in-Ok c = rw c.accepted.ensures (marks-made _ _ _ _ _ _ c.if-marks-n.false (accepted 0 0) c.in-Ok.ensures (λ e. absurd (omega arith)) _ refl c.mark_free_vars.ensures)

pub returns-then-is_bad_arrays : goal.returns-then-is_bad_arrays
returns-then-is_bad_arrays c = rw c.from-then-is_bad_arrays.ensures (marks-kept _ _ _ _ _ _ c.if-marks-n.false _ c.in-Err.ensures (eqb-true _ _ (sym c.is_bad_arrays.ensures ∙ c.if-is_bad_arrays.true)))

pub returns-else-is_bad_arrays : goal.returns-else-is_bad_arrays
returns-else-is_bad_arrays c =
    rw c.from-in-Err.ensures
    (marks-cleared _ _ _ _ _ _ c.if-marks-n.false _ c.in-Err.ensures (eqb-false _ _ (sym c.is_bad_arrays.ensures ∙ c.if-is_bad_arrays.false)) _ (refused _) c.clear_marks.ensures)
