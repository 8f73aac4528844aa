use Rattle.cells.proofs.Cells.{descriptions}
use Rattle.cells.proofs.pool.Pool.is_at.Goals as goal

pub returns-then-tag_at-tag : goal.returns-then-tag_at-tag
returns-then-tag_at-tag c = search descriptions

pub returns : goal.returns
returns c = search descriptions
