use Rattle.building.proofs.terms.Cells.{slots}
use Rattle.building.proofs.terms.slot.Goals as goal

pub returns-then-polarity : goal.returns-then-polarity
returns-then-polarity c = search slots

pub returns : goal.returns
returns c = search slots
