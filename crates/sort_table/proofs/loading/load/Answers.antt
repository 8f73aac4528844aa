use Rattle.std.proofs.Common.{arith, sym, ◌∙◌}
use Rattle.sort_table.proofs.loading.Laws.{load-length, loaded, not-loaded}
use Rattle.sort_table.proofs.loading.load.Goals.{then-is_ok, else-is_ok}
use Rattle.sort_table.proofs.loading.load.Goals as goal

pub copy_cells-requires : goal.copy_cells-requires
copy_cells-requires c = omega (arith, load-length _ _ c.check_table-checked.ensures (sym c.is_ok.ensures.value ∙ c.if-is_ok.true))

pub returns : goal.returns
returns c = elim c.if-is_ok.branch [
  | then-is_ok w ↦ rw (w.table-is, w.copy_cells.ensures) (loaded c.args.entries.now c.check_table-checked.result c.check_table-checked.ensures (sym c.is_ok.ensures.value ∙ w.if-is_ok.true) c.args.table.now c.from.result c.from.ensures)
  | else-is_ok w ↦ rw w.table-is (not-loaded c.args.entries.now c.check_table-checked.result c.check_table-checked.ensures (sym c.is_ok.ensures.value ∙ w.if-is_ok.false) c.args.table.now c.from.result c.from.ensures)
]
