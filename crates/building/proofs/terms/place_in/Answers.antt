use Rattle.building.proofs.terms.Cells.{memo-part, places}
use Rattle.building.proofs.terms.place_in.Goals as goal

pub slice_bounds-cell-end : goal.slice_bounds-cell-end
slice_bounds-cell-end c = search memo-part

pub returns-then-known-eq0 : goal.returns-then-known-eq0
returns-then-known-eq0 c = search places

pub returns : goal.returns
returns c = search places
