use borrow.Author.Rules.{rules}
use Rattle.building.proofs.terms.Cells.{memo-part, memo-zeroed}
use Rattle.building.proofs.terms.zero_memo.Goals as goal

pub slice_bounds-fill-end-2 : goal.slice_bounds-fill-end-2
slice_bounds-fill-end-2 c = memo-part _ c.requires

pub returns : goal.returns
returns c = memo-zeroed _ _ c.requires _ (memo-part _ c.requires) (search (rules, c.fill.ensures.after))
