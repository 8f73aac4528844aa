use Rattle.sorts.proofs.special_sorts.Laws.{selects}
use Rattle.sorts.proofs.special_sorts.selected.Goals as goal

pub returns-then-os-eq0 : goal.returns-then-os-eq0
returns-then-os-eq0 c = search selects

pub returns-then-sort_tag-ne-ARRAY : goal.returns-then-sort_tag-ne-ARRAY
returns-then-sort_tag-ne-ARRAY c = search selects

pub returns : goal.returns
returns c = search selects
