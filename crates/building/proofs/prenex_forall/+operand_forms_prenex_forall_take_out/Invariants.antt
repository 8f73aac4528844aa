use mathlib.Core.Bool.{true}
use Rattle.building.specs.Walk.{taken_out}
use Rattle.building.proofs.build.Walks.{OperandsWalked}
use Prim.Native.Nat.{◌+◌, ◌*◌}
use Rattle.building.proofs.prenex_forall.+operand_forms_prenex_forall_take_out.Given as goal

abbrev pub decreases-operand_forms : goal.decreases-operand_forms
decreases-operand_forms l = l.x.0 * 32768 + 1

abbrev pub decreases-prenex_forall : goal.decreases-prenex_forall
decreases-prenex_forall l = l.x.0 * 32768 + 24576

abbrev pub decreases-take_out : goal.decreases-take_out
decreases-take_out l = l.x.0 * 32768 + 16384

abbrev pub invariant-operand_forms-loop-i : goal.invariant-operand_forms-loop-i
invariant-operand_forms-loop-i l = OperandsWalked taken_out l.end l.initial.pool l.initial.work l.x.0 true l.pool l.work l.i
