use Rattle.bindings.proofs.binding.Laws.{same-variables}
use Rattle.bindings.proofs.outer_pairs.Laws.{tests, test-left}
use Rattle.bindings.proofs.outer_pairs.is_pair.Goals as goal

pub returns-then-cell-eq0 : goal.returns-then-cell-eq0
returns-then-cell-eq0 c = search tests

pub returns : goal.returns
returns c = test-left _ _ _ _ c.cell.ensures c.if-cell-eq0.false _ _ c.cell-2.ensures c.cell-3.ensures _ (same-variables (record { name = c.cell-2.result; sort = record { 0 = c.cell-3.result } }) _ _ c.eq.ensures)
