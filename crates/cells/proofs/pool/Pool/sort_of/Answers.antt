use Rattle.cells.specs.Cell.{sort_of}
use borrow.Author.Rules.{rules}
use Rattle.cells.proofs.pool.Pool.sort_of.Goals as goal

pub returns : goal.returns
unfolding sort_of
returns c = search rules
