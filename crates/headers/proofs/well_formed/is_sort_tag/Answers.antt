use borrow.Author.Tests.{le-leb, lt-leb}
use Rattle.headers.specs.WellFormed.{is_sort_tag}
use Rattle.headers.proofs.well_formed.is_sort_tag.Goals as goal

pub returns-then-tag-ge-BOOL : goal.returns-then-tag-ge-BOOL
unfolding is_sort_tag
returns-then-tag-ge-BOOL c = rw (le-leb _ _ c.if-tag-ge-BOOL.true)

pub returns-else-tag-ge-BOOL : goal.returns-else-tag-ge-BOOL
unfolding is_sort_tag
returns-else-tag-ge-BOOL c = rw (lt-leb _ _ c.if-tag-ge-BOOL.false)
