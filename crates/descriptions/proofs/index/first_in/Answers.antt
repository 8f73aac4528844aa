use Rattle.descriptions.proofs.index.Laws.{chain-end, chain_next, link-less}
use Rattle.descriptions.proofs.index.first_in.Goals as goal

pub loop-q-smaller : goal.loop-q-smaller
loop-q-smaller c = link-less _ c.requires.points_back _ _ c.in-Some.ensures _ c.cell-c.ensures

pub loop-q-preserved : goal.loop-q-preserved
loop-q-preserved c = chain_next _ _ c.requires.points_back _ _ _ c.loop-q.invariant _ c.in-Some.ensures _ c.is_at.ensures _ _ c.latest-last.ensures c.cell-c.ensures

pub returns : goal.returns
returns c = chain-end _ _ c.requires.points_back _ _ _ c.loop-q.invariant c.in_default.ensures
