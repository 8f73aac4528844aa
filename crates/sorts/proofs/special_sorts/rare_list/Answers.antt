use Rattle.std.proofs.Common.{◌∙◌}
use Rattle.sorts.proofs.special_sorts.Laws.{rare-lists}
use Rattle.sorts.proofs.special_sorts.rare_list.Goals as goal

pub returns-then-os-eq0 : goal.returns-then-os-eq0
returns-then-os-eq0 c = search rare-lists

pub returns : goal.returns
returns c = c.eq.ensures ∙ search rare-lists
