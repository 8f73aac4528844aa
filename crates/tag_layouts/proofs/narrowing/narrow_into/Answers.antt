use Rattle.std.proofs.Common.{arith, length-take-le}
use Rattle.tag_layouts.proofs.narrowing.Laws.{narrow_start, narrow-more, narrow-end}
use Rattle.tag_layouts.proofs.narrowing.narrow_into.Goals as goal

pub loop-i-init : goal.loop-i-init
loop-i-init c = narrow_start _ _ _ c.min-k.ensures c.requires

pub loop-i-preserved : goal.loop-i-preserved
loop-i-preserved c =
    narrow-more _ _ _ _ _ c.loop-i.invariant (omega (arith, length-take-le c.min-k.result c.args.tags.now (omega arith))) _ c.byte_of.ensures

pub returns : goal.returns
returns c = narrow-end _ _ _ _ _ c.loop-i.invariant (omega (arith, length-take-le c.min-k.result c.args.tags.now (omega arith)))
