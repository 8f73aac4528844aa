use Rattle.std.proofs.Common.{◌∙◌}
use Rattle.sorts.proofs.special_sorts.Laws.{ends}
use Rattle.sorts.proofs.special_sorts.last_sort.Goals as goal

pub returns-in_default : goal.returns-in_default
returns-in_default c = search ends

pub returns : goal.returns
returns c = c.eq.ensures ∙ search ends
