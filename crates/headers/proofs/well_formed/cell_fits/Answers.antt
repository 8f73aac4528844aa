use Rattle.headers.proofs.well_formed.Laws.{cell}
use Rattle.headers.proofs.well_formed.cell_fits.Goals as goal

pub returns-then-tag_at-ne0 : goal.returns-then-tag_at-ne0
returns-then-tag_at-ne0 c = search cell

pub returns : goal.returns
returns c = search cell
