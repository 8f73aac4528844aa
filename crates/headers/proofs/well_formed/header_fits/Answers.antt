use Rattle.headers.proofs.well_formed.Laws.{header}
use Rattle.headers.proofs.well_formed.header_fits.Goals as goal

pub returns-then-not-bool_first : goal.returns-then-not-bool_first
returns-then-not-bool_first c = search header

pub returns-then-n-p : goal.returns-then-n-p
returns-then-n-p c = search header

pub returns-then-not-count_fits : goal.returns-then-not-count_fits
returns-then-not-count_fits c = search header

pub returns : goal.returns
returns c = search header
