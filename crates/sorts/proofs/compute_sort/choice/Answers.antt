use Rattle.sorts.proofs.compute_sort.Laws.{choices}
use Rattle.sorts.proofs.compute_sort.choice.Goals as goal

pub returns-then-os-lt3 : goal.returns-then-os-lt3
returns-then-os-lt3 c = search choices

pub returns : goal.returns
returns c = search choices
