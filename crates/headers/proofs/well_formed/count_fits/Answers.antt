use Rattle.headers.proofs.well_formed.Laws.{count_of}
use borrow.Author.Tests.{le-leb, lt-leb}
use Rattle.headers.specs.WellFormed.{count_fits}
use Rattle.headers.proofs.well_formed.count_fits.Goals as goal

pub returns-in-Unknown : goal.returns-in-Unknown
unfolding count_fits
returns-in-Unknown c = search count_of

pub returns-in-Nullary : goal.returns-in-Nullary
unfolding count_fits
returns-in-Nullary c = search count_of

pub returns-in-Numbered : goal.returns-in-Numbered
unfolding count_fits
returns-in-Numbered c = search count_of

pub returns-in-Named : goal.returns-in-Named
unfolding count_fits
returns-in-Named c = search count_of

pub returns-in-Sorts : goal.returns-in-Sorts
unfolding count_fits
returns-in-Sorts c = search count_of

pub returns-in-TwoSorts : goal.returns-in-TwoSorts
unfolding count_fits
returns-in-TwoSorts c = search count_of

pub returns-in-OneSort : goal.returns-in-OneSort
unfolding count_fits
returns-in-OneSort c = search count_of

pub returns-in-Constant : goal.returns-in-Constant
unfolding count_fits
returns-in-Constant c = search count_of

pub returns-in-BitVector : goal.returns-in-BitVector
unfolding count_fits
returns-in-BitVector c = search count_of

pub returns-in-Application : goal.returns-in-Application
unfolding count_fits
returns-in-Application c = search count_of

pub returns-then-k-ge2 : goal.returns-then-k-ge2
unfolding count_fits
returns-then-k-ge2 c = rw (c.in-Binder.is, le-leb _ _ c.if-k-ge2.true)

pub returns-else-k-ge2 : goal.returns-else-k-ge2
unfolding count_fits
returns-else-k-ge2 c = rw (c.in-Binder.is, lt-leb _ _ c.if-k-ge2.false)

pub returns-then-k-ge2-2 : goal.returns-then-k-ge2-2
unfolding count_fits
returns-then-k-ge2-2 c = rw (c.in-Let.is, le-leb _ _ c.if-k-ge2-2.true)

pub returns-else-k-ge2-2 : goal.returns-else-k-ge2-2
unfolding count_fits
returns-else-k-ge2-2 c = rw (c.in-Let.is, lt-leb _ _ c.if-k-ge2-2.false)

pub returns-in-Operator : goal.returns-in-Operator
unfolding count_fits
returns-in-Operator c = search count_of
