use Rattle.std.proofs.Common.{◌∙◌}
use Rattle.sorts.proofs.compute_sort.Laws.{firsts}
use Rattle.sorts.proofs.compute_sort.first_sort.Goals as goal

pub returns-then-os-eq0 : goal.returns-then-os-eq0
returns-then-os-eq0 c = search firsts

pub returns : goal.returns
returns c = c.eq.ensures ∙ search firsts
