use Rattle.sorts.proofs.special_sorts.Laws.{concats}
use Rattle.sorts.proofs.special_sorts.concat.Goals as goal
use Rattle.sorts.proofs.special_sorts.concat.Goals.{in-7, in-6}

pub returns-in_default : goal.returns-in_default
returns-in_default c = search concats

pub loop-o-preserved : goal.loop-o-preserved
loop-o-preserved c = elim c.match-sort_tag.branch [ in-7 w ↦ rw (w.width-is, w.param-is) (search concats) | in-6 w ↦ rw (w.width-is, w.param-is) (search concats) ]

pub returns-then-param : goal.returns-then-param
returns-then-param c = search concats

pub returns-then-width-lt4294967296 : goal.returns-then-width-lt4294967296
returns-then-width-lt4294967296 c = search concats

pub returns : goal.returns
returns c = search concats
