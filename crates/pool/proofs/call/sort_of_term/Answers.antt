use mathlib.Core.Path.{refl}
use Rattle.pool.proofs.checks.Laws.{refused}
use Rattle.pool.proofs.call.Laws.{sort-refused, sort-is}
use Rattle.pool.proofs.call.sort_of_term.Goals as goal

pub returns-in-Ok : goal.returns-in-Ok
returns-in-Ok c = sort-is _ _ _ _ _ _ c.in-Ok.ensures refl _ c.sort_of.ensures _ c.accepted.ensures

pub returns-in-Err : goal.returns-in-Err
returns-in-Err c = rw c.from.ensures (sort-refused _ _ _ _ _ _ c.in-Err.ensures (refused _))
