use Rattle.joined_records.proofs.Laws.{repeats}
use Rattle.joined_records.proofs.is_repeat.Goals as goal

pub returns-then-s-ne0 : goal.returns-then-s-ne0
returns-then-s-ne0 c = search repeats

pub returns-else-s-ne0 : goal.returns-else-s-ne0
returns-else-s-ne0 c = search repeats
