use Rattle.sorts.proofs.special_sorts.Laws.{widths}
use Rattle.sorts.proofs.special_sorts.bit_count.Goals as goal

pub returns-then-tag_at-ne-BIT_VEC : goal.returns-then-tag_at-ne-BIT_VEC
returns-then-tag_at-ne-BIT_VEC c = search widths

pub returns-then-parts-ne1 : goal.returns-then-parts-ne1
returns-then-parts-ne1 c = search widths

pub returns : goal.returns
returns c = search widths
