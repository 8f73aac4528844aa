use Rattle.headers.specs.WellFormed.{is_sort_tag, is_term_tag, value_fits}
use Rattle.cells.proofs.tags.Laws.{below, not-below}
use Rattle.headers.proofs.well_formed.Laws.{value_of}
use Rattle.headers.proofs.well_formed.value_fits.Goals as goal

pub returns-in-Number : goal.returns-in-Number
unfolding value_fits
returns-in-Number c = search value_of

pub returns-then-at-p : goal.returns-then-at-p
unfolding value_fits
returns-then-at-p c = search (value_of, below is_sort_tag)

pub returns-else-at-p : goal.returns-else-at-p
unfolding value_fits
returns-else-at-p c = search (value_of, not-below is_sort_tag)

pub returns-then-at-p-2 : goal.returns-then-at-p-2
unfolding value_fits
returns-then-at-p-2 c = search (value_of, below is_term_tag)

pub returns-else-at-p-2 : goal.returns-else-at-p-2
unfolding value_fits
returns-else-at-p-2 c = search (value_of, not-below is_term_tag)
