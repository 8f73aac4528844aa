use Rattle.bindings.proofs.outer_pairs.Laws.{seek-start, seek-end, seek-here, seek-next, link-less}
use Rattle.bindings.proofs.outer_pairs.find.Goals as goal

pub loop-next-init : goal.loop-next-init
loop-next-init c = seek-start _ _ c.requires _ c.bucket.ensures _ c.named-next.ensures

pub returns-then-is_pair : goal.returns-then-is_pair
returns-then-is_pair c = seek-here _ _ _ c.loop-next.invariant _ c.in-Some.is _ c.is_pair.ensures c.requires c.if-is_pair.true

pub loop-next-smaller : goal.loop-next-smaller
loop-next-smaller c = link-less _ _ _ _ c.requires c.in-Some.is c.link-next.ensures

pub loop-next-preserved : goal.loop-next-preserved
loop-next-preserved c = seek-next _ _ _ c.loop-next.invariant _ c.in-Some.is _ c.is_pair.ensures c.if-is_pair.false _ c.link-next.ensures

pub returns : goal.returns
returns c = seek-end _ _ _ c.loop-next.invariant c.in_default.is
