use Rattle.cells.specs.TermTag.{is_term_tag, is_term}
use Rattle.cells.proofs.tags.Laws.{below, not-below}
use Rattle.cells.proofs.pool.Pool.is_term.Goals as goal

pub returns-then-at-n : goal.returns-then-at-n
unfolding is_term
returns-then-at-n c = search (below is_term_tag)

pub returns-else-at-n : goal.returns-else-at-n
unfolding is_term
returns-else-at-n c = search (not-below is_term_tag)
