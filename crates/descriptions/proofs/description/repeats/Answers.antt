use Rattle.descriptions.proofs.description.Laws.{repeats-is}
use Rattle.descriptions.proofs.description.repeats.Goals as goal

pub returns : goal.returns
returns c = repeats-is _ _ _ _ _ c.tag_at.ensures c.cells.ensures _ c.find.ensures _ c.is_some.ensures
