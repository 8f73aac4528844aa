use Rattle.std.proofs.Math.Nat.{min-eq_left}
use Rattle.miniscoping.proofs.sides.Laws.{count_most}
use Rattle.miniscoping.proofs.sides.operand_count.Goals as goal

pub returns : goal.returns
returns c = rw (c.min.ensures, c.operands.ensures, c.cell-count.ensures) (min-eq_left (count_most _ _ c.args.x.0))
