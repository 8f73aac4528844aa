use mathlib.Core.Path.{refl, ap}
use mathlib.Core.Bool.{not}
use Rattle.answers.proofs.Refusals.{handed-on}
use Rattle.pool.proofs.checks.Laws.{pool-arrays, pool-table, pool-cells, fit-size, refused}
use Rattle.pool.proofs.checks.index_pool.Goals as goal

pub returns-then-not-arrays_fit-clause-value : goal.returns-then-not-arrays_fit-clause-value
returns-then-not-arrays_fit-clause-value c = pool-arrays _ _ _ _ c.arrays_fit.ensures _ (ap not c.if-not-arrays_fit.true) _ refl

pub returns-in_err-check_table-clause-value : goal.returns-in_err-check_table-clause-value
returns-in_err-check_table-clause-value c =
    rw (handed-on c.from_residual.result _ c.from_residual.ensures.1)
    (pool-table _ _ _ _ c.arrays_fit.ensures _ (ap not c.if-not-arrays_fit.false) _ c.in_err-check_table.ensures (refused _))

pub check_cells-requires : goal.check_cells-requires
check_cells-requires c = fit-size _ _ _ _ c.arrays_fit.ensures (ap not c.if-not-arrays_fit.false)

pub returns-clause-value : goal.returns-clause-value
returns-clause-value c = pool-cells _ _ _ _ c.arrays_fit.ensures _ (ap not c.if-not-arrays_fit.false) _ c.in_ok-check_table.ensures refl _ c.check_cells.ensures.value
