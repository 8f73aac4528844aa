use Rattle.bindings.proofs.outer_pairs.Laws.{prepare-start, prepare-room, prepare-next, prepare-end}
use Rattle.bindings.proofs.outer_pairs.prepare.Goals as goal

pub loop-pair-init : goal.loop-pair-init
loop-pair-init c = rw (c.into_iter-pair-iterator.ensures.into_iter_gives, c.pairs_of-pair-items.ensures) (prepare-start _ _ c.requires)

pub put-k-requires : goal.put-k-requires
put-k-requires c = record { filled = c.loop-pair.invariant.filled; room = prepare-room _ _ _ _ c.loop-pair.invariant _ _ c.in-Some.ensures.steps }

pub loop-pair-preserved : goal.loop-pair-preserved
loop-pair-preserved c = prepare-next _ _ _ _ c.loop-pair.invariant _ _ c.in-Some.ensures.steps _ _ c.put-k.auto.prepared c.put-k.ensures

pub returns : goal.returns
returns c = prepare-end _ _ _ _ c.loop-pair.invariant c.in-None.ensures.steps.0
