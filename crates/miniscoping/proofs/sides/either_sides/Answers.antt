use Rattle.miniscoping.proofs.sides.Laws.{either-forall, either-exists}
use Rattle.miniscoping.proofs.sides.either_sides.Goals as goal

pub returns-in-Some : goal.returns-in-Some
returns-in-Some c = either-forall _ _ _ _ _ _ c.sides_of.ensures _ c.in-Some.is

pub returns : goal.returns
returns c = either-exists _ _ _ _ _ _ c.sides_of.ensures c.in_default.is _ c.sides_of-2.ensures
