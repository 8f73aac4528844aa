use mathlib.Core.Path.{ap, ◌∙◌}
use Rattle.answers.specs.Outcome.{answer_of}
use Rattle.answers.proofs.Refusals.{asked}
use Rattle.formulas.proofs.SameKind.{not-forall}
use Rattle.clausification.proofs.qnt_cnf.Laws.{leaves_all, leaves_after, sides-form, sides-left, sides-right, sides-kind, sides-right-kind, sides-rest, sides-are}
use Rattle.clausification.proofs.qnt_cnf.checks.Goals.{then-ne-via-then-ne, then-ne-via-else-ne+then-ne-2}
use Rattle.clausification.proofs.qnt_cnf.checks.Goals as goal

pub returns-in_err-l-clause-leaves : goal.returns-in_err-l-clause-leaves
returns-in_err-l-clause-leaves c =
    leaves_all _ _ _ _ _
    (asked _ _ _ _ c.in_err-l.ensures.value c.from_residual.ensures.1 ∙ ap answer_of (sides-form _ _ _ _ _ (rw (c.pool-source.ensures.tags, c.pool-source.ensures.values) at c.implication_at.ensures) c.in_err-l.ensures.ok_part))

pub returns-in_err-left-clause-leaves : goal.returns-in_err-left-clause-leaves
returns-in_err-left-clause-leaves c =
    leaves_all _ _ _ _ _
    (asked _ _ _ _ c.in_err-left.ensures.value c.from_residual-in_err-left.ensures.1
    ∙ ap answer_of (sides-left _ _ _ _ _ (rw (c.pool-source.ensures.tags, c.pool-source.ensures.values) at c.implication_at.ensures) _ c.in_ok-l.ensures.ok_part _ (rw (c.pool-source.ensures.tags, c.pool-source.ensures.values) at c.quantified_at.ensures) c.in_err-left.ensures.ok_part))

pub returns-in_err-right-clause-leaves : goal.returns-in_err-right-clause-leaves
returns-in_err-right-clause-leaves c =
    leaves_all _ _ _ _ _
    (asked _ _ _ _ c.in_err-right.ensures.value c.from_residual-in_err-right.ensures.1
    ∙ ap answer_of (sides-right _ _ _ _ _ (rw (c.pool-source.ensures.tags, c.pool-source.ensures.values) at c.implication_at.ensures) _ c.in_ok-l.ensures.ok_part _ (rw (c.pool-source.ensures.tags, c.pool-source.ensures.values) at c.quantified_at.ensures) _ c.in_ok-left.ensures.ok_part
    _ (rw (c.pool-source.ensures.tags, c.pool-source.ensures.values) at c.quantified_at-2.ensures) c.in_err-right.ensures.ok_part))

pub returns-then-ne-clause-leaves : goal.returns-then-ne-clause-leaves
returns-then-ne-clause-leaves c =
    leaves_all _ _ _ _ _
    (elim c.then-ne.branch [
      | then-ne-via-then-ne w ↦ ap answer_of (
          sides-kind _ _ _ _ _ (rw (c.pool-source.ensures.tags, c.pool-source.ensures.values) at c.implication_at.ensures) _ c.in_ok-l.ensures.ok_part _ (rw (c.pool-source.ensures.tags, c.pool-source.ensures.values) at c.quantified_at.ensures) _ c.in_ok-left.ensures.ok_part
          _ (rw (c.pool-source.ensures.tags, c.pool-source.ensures.values) at c.quantified_at-2.ensures) _ c.in_ok-right.ensures.ok_part (not-forall _ _ c.ne.ensures _ w.if-ne.true) _ _ c.carried_tag-wanted.ensures c.carried_tag-found.ensures)
      | then-ne-via-else-ne+then-ne-2 w ↦ ap answer_of (
          sides-right-kind _ _ _ _ _ (rw (c.pool-source.ensures.tags, c.pool-source.ensures.values) at c.implication_at.ensures) _ c.in_ok-l.ensures.ok_part _ (rw (c.pool-source.ensures.tags, c.pool-source.ensures.values) at c.quantified_at.ensures) _ c.in_ok-left.ensures.ok_part
          _ (rw (c.pool-source.ensures.tags, c.pool-source.ensures.values) at c.quantified_at-2.ensures) _ c.in_ok-right.ensures.ok_part (not-forall _ _ c.ne.ensures _ w.if-ne.false) (not-forall _ _ w.ne-else-ne.ensures _ w.if-ne-2.true) _ _ c.carried_tag-wanted.ensures c.carried_tag-found.ensures)
    ])

pub clausified-requires-clause-forall_sides : goal.clausified-requires-clause-forall_sides
clausified-requires-clause-forall_sides c =
    sides-are _ _ _ _ _ (rw (c.pool-source.ensures.tags, c.pool-source.ensures.values) at c.implication_at.ensures) _ c.in_ok-l.ensures.ok_part _ (rw (c.pool-source.ensures.tags, c.pool-source.ensures.values) at c.quantified_at.ensures) _ c.in_ok-left.ensures.ok_part
    _ (rw (c.pool-source.ensures.tags, c.pool-source.ensures.values) at c.quantified_at-2.ensures) _ c.in_ok-right.ensures.ok_part c.requires.checked_term

pub returns-clause-leaves : goal.returns-clause-leaves
returns-clause-leaves c =
    leaves_after _ _ _ _ _ _ _ _ c.clausified.ensures.leaves
    (sides-rest _ _ _ _ _ (rw (c.pool-source.ensures.tags, c.pool-source.ensures.values) at c.implication_at.ensures) _ c.in_ok-l.ensures.ok_part _ (rw (c.pool-source.ensures.tags, c.pool-source.ensures.values) at c.quantified_at.ensures) _ c.in_ok-left.ensures.ok_part
    _ (rw (c.pool-source.ensures.tags, c.pool-source.ensures.values) at c.quantified_at-2.ensures) _ c.in_ok-right.ensures.ok_part (not-forall _ _ c.ne.ensures _ c.if-ne.false) (not-forall _ _ c.ne-else-ne.ensures _ c.if-ne-2.false))
