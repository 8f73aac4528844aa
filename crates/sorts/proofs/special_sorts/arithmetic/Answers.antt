use Rattle.sorts.proofs.special_sorts.Laws.{arithmetic-is}
use Rattle.sorts.proofs.special_sorts.arithmetic.Goals as goal

pub returns-then-any_real : goal.returns-then-any_real
returns-then-any_real c = search arithmetic-is

pub returns : goal.returns
returns c = search arithmetic-is
