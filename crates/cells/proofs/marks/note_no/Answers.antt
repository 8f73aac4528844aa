use Rattle.cells.proofs.marks.Laws.{notes}
use Rattle.cells.proofs.marks.note_no.Goals as goal

pub returns : goal.returns
returns c = search notes
