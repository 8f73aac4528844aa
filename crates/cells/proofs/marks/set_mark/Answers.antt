use Rattle.cells.proofs.marks.Laws.{set_past}
use Rattle.cells.proofs.marks.set_mark.Goals as goal

pub returns-else-i-marks : goal.returns-else-i-marks
returns-else-i-marks c = search set_past
