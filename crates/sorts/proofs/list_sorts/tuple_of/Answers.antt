use Rattle.cells.proofs.Cells.{descriptions}
use Rattle.sorts.specs.SortRule.{is_sort}
use Rattle.sorts.proofs.list_sorts.tuple_of.Goals as goal

pub returns-then-tag_at-ne-TUPLE : goal.returns-then-tag_at-ne-TUPLE
unfolding is_sort
returns-then-tag_at-ne-TUPLE c = search descriptions

pub returns : goal.returns
unfolding is_sort
returns c = search descriptions
