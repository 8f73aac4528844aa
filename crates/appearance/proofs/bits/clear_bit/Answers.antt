use Rattle.appearance.proofs.bits.Laws.{clears}
use Rattle.appearance.proofs.bits.clear_bit.Goals as goal

pub returns-then-cell-bit-eq0 : goal.returns-then-cell-bit-eq0
returns-then-cell-bit-eq0 c = search clears

pub returns-then-i-a : goal.returns-then-i-a
returns-then-i-a c = search clears

pub returns-else-i-a : goal.returns-else-i-a
returns-else-i-a c = search clears
