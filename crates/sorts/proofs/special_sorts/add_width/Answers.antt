use Rattle.sorts.proofs.special_sorts.Laws.{sums}
use Rattle.sorts.proofs.special_sorts.add_width.Goals as goal

pub returns-then-width-ge4294967296 : goal.returns-then-width-ge4294967296
returns-then-width-ge4294967296 c = search sums

pub returns : goal.returns
returns c = search sums
