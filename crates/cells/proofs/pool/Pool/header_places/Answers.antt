use Rattle.cells.proofs.HeaderLists.{all_below}
use Rattle.cells.proofs.pool.Pool.header_places.Goals as goal

pub returns-clause-below : goal.returns-clause-below
returns-clause-below c = all_below _ _ 0
