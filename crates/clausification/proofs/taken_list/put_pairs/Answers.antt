use Rattle.clausification.proofs.taken_list.Laws.{put-end, put_next}
use native.Mathlib.Omega.{arith}
use Rattle.clausification.proofs.taken_list.put_pairs.Goals as goal

pub loop-pair-preserved : goal.loop-pair-preserved
loop-pair-preserved c =
    put_next _ _ _ _ _ _ c.loop-pair.invariant c.in_ok-j.j (omega (arith, c.in_ok-j.ensures.0, c.in_ok-j.ensures.1)) c.requires
    c.in-Some.pair _ c.in-Some.ensures.steps

pub returns : goal.returns
returns c = put-end _ _ _ _ _ _ c.loop-pair.invariant c.in-None.ensures.steps.0
