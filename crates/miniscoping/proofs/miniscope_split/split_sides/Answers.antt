use mathlib.Core.Path.{ap}
use Rattle.answers.specs.Outcome.{answer_of}
use Rattle.miniscoping.proofs.miniscope_split.Laws.{sides-operand, sides-free, sides-pass}
use Rattle.miniscoping.proofs.miniscope_split.split_sides.Goals as goal

pub returns-in_err-split : goal.returns-in_err-split
returns-in_err-split c = sides-operand _ _ _ c.args.s _ _ _ c.bindings-outer.ensures c.operands-from.ensures c.operands-to.ensures _ c.in_err-split.ensures _ c.from_residual.ensures.1

pub returns-in-Some : goal.returns-in-Some
returns-in-Some c = ap answer_of (sides-free _ _ _ c.args.s _ _ _ c.bindings-outer.ensures c.operands-from.ensures c.operands-to.ensures c.in_ok-split.ensures _ c.first_free.ensures _ c.in-Some.is)

pub returns : goal.returns
returns c = ap answer_of (sides-pass _ _ _ c.args.s _ _ _ c.bindings-outer.ensures c.operands-from.ensures c.operands-to.ensures c.in_ok-split.ensures _ c.first_free.ensures c.in_default.is)
