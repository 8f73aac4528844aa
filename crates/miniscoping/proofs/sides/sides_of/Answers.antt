use mathlib.Core.Path.{refl}
use Rattle.miniscoping.proofs.sides.Laws.{sides-form, sides-kind, sides-left, sides-right, sides-are}
use Rattle.miniscoping.proofs.sides.sides_of.Goals as goal

pub returns-in_err-left : goal.returns-in_err-left
returns-in_err-left c = rw c.from_residual.ensures (sides-form _ _ _ _ _ _ c.equality_at.ensures c.in_err-left.was)

pub returns-in_err-body : goal.returns-in_err-body
returns-in_err-body c = rw c.from_residual-in_err-body.ensures (sides-kind _ _ _ _ _ _ c.equality_at.ensures _ c.in_ok-left.was _ c.of_kind.ensures c.in_err-body.was)

pub returns-then-tag_at-tag : goal.returns-then-tag_at-tag
returns-then-tag_at-tag c = sides-left _ _ _ _ _ _ c.equality_at.ensures _ c.in_ok-left.was _ c.of_kind.ensures _ c.in_ok-body.was _ c.tag_at.ensures c.if-tag_at-tag.true

pub returns-then-tag_at-tag-2 : goal.returns-then-tag_at-tag-2
returns-then-tag_at-tag-2 c = sides-right _ _ _ _ _ _ c.equality_at.ensures _ c.in_ok-left.was _ c.of_kind.ensures _ c.in_ok-body.was _ c.tag_at.ensures c.if-tag_at-tag.false _ c.tag_at-2.ensures c.if-tag_at-tag-2.true

pub returns : goal.returns
returns c = sides-are _ _ _ _ _ _ c.equality_at.ensures _ c.in_ok-left.was _ c.of_kind.ensures _ c.in_ok-body.was _ c.tag_at.ensures c.if-tag_at-tag.false _ c.tag_at-2.ensures c.args.kind refl c.if-tag_at-tag-2.false
