use Rattle.appearance.proofs.bits.Laws.{sets}
use Rattle.appearance.proofs.bits.set_bit.Goals as goal

pub returns-then-i-a : goal.returns-then-i-a
returns-then-i-a c = search sets

pub returns-else-i-a : goal.returns-else-i-a
returns-else-i-a c = search sets
