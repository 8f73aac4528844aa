use mathlib.Core.Path.{◌≡◌, refl}
use borrow.Author.Tests.{ne_eqb}
use Rattle.std.proofs.lemmas.Iterator.{YieldsList-from_slice}
use Rattle.cells.proofs.Cells.{same_from_eq, same-lengths}
use Rattle.cells.proofs.cell_comparison.same_cells.Goals as goal

pub returns-then-a-b : goal.returns-then-a-b
returns-then-a-b c = same_from_eq (λ x y. y ≡ x) _ _ c.eq.ensures.ran (YieldsList-from_slice c.args.a.now (cc)) (λ it h. rw h (YieldsList-from_slice c.args.b.now (cc))) (λ x y. refl)

pub returns-else-a-b : goal.returns-else-a-b
returns-else-a-b c = rw (ne_eqb _ _ c.if-a-b.false) (same-lengths _ _ c.if-a-b.false)
