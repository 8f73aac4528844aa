use Rattle.headers.proofs.well_formed.Laws.{bool-first}
use Rattle.headers.proofs.well_formed.bool_first.Goals as goal

pub returns-then-p-ne0 : goal.returns-then-p-ne0
returns-then-p-ne0 c = search bool-first

pub returns-else-p-ne0 : goal.returns-else-p-ne0
returns-else-p-ne0 c = search bool-first
