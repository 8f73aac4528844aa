use borrow.Author.Rules.{rules}
use native.Mathlib.Omega.{arith}
use Rattle.appearance.proofs.rows.Tables.{makings, making-more}
use Rattle.appearance.proofs.rows.make_all.Goals as goal

pub loop-at-init : goal.loop-at-init
loop-at-init c = search (makings, rules)

pub loop-at-preserved-then-table-next : goal.loop-at-preserved-then-table-next
loop-at-preserved-then-table-next c = search (makings, rules)

pub loop-at-preserved : goal.loop-at-preserved
loop-at-preserved c = making-more _ _ _ _ c.requires.indexed_variables _ _ _ _ c.loop-at.invariant c.loop-at-test.true _ c.tag_at.ensures c.if-tag_at-lt-APPLICATION.false
    (omega (arith, c.if-table-next.false, c.loop-at.invariant.long, c.loop-at.invariant.high))
    _ c.make_row.ensures
