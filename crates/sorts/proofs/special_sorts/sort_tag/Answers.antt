use Rattle.sorts.proofs.special_sorts.Laws.{tag_is}
use Rattle.sorts.proofs.special_sorts.sort_tag.Goals as goal

pub returns : goal.returns
returns c = search tag_is
