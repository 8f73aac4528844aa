use Rattle.cells.proofs.Cells.{same-pointwise}
use Rattle.sorts.proofs.list_sorts.Laws.{joined-short, joined-not, joined-rest}
use Rattle.sorts.proofs.list_sorts.same_joined.Goals as goal

pub returns-then-a-n : goal.returns-then-a-n
returns-then-a-n c = joined-short _ _ _ c.if-a-n.true

pub returns-else-eq : goal.returns-else-eq
returns-else-eq c = joined-not _ _ _ _ (same-pointwise _ _ _ c.eq.ensures) c.if-eq.false

pub returns-then-eq : goal.returns-then-eq
returns-then-eq c =
    joined-rest _ _ _ _ (same-pointwise _ _ _ c.eq.ensures) c.if-eq.true _ (same-pointwise _ _ _ c.eq-then-eq.ensures)
