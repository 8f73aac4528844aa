use mathlib.Core.Path.{ap}
use mathlib.Core.Bool.{not}
use Rattle.miniscoping.proofs.miniscope_ite.Laws.{ite-form, ite-quantifier, ite_left, ite_right, ite-test, ite-yes, ite-no, ite-are}
use Rattle.miniscoping.proofs.miniscope_ite.ite_sides.Goals as goal

pub returns-in_err-left : goal.returns-in_err-left
returns-in_err-left c = rw c.from_residual.ensures (ite-form _ _ _ _ c.equality_at.ensures c.in_err-left.was)

pub returns-in_err-body : goal.returns-in_err-body
returns-in_err-body c = rw c.from_residual-in_err-body.ensures (ite-quantifier _ _ _ _ c.equality_at.ensures _ c.in_ok-left.was _ c.of_kind.ensures c.in_err-body.was)

pub returns-in_err-test : goal.returns-in_err-test
returns-in_err-test c = rw c.from_residual-in_err-test.ensures (ite_left _ _ _ _ c.equality_at.ensures _ c.in_ok-left.was _ c.of_kind.ensures _ c.in_ok-body.was c.in_err-test.ensures)

pub returns-in_err-same_test : goal.returns-in_err-same_test
returns-in_err-same_test c = rw c.from_residual-in_err-same_test.ensures (ite_right _ _ _ _ c.equality_at.ensures _ c.in_ok-left.was _ c.of_kind.ensures _ c.in_ok-body.was c.in_ok-test.field-0 c.in_ok-test.ensures c.in_err-same_test.ensures)

pub returns-then-test-same_test : goal.returns-then-test-same_test
returns-then-test-same_test c = ite-test _ _ _ _ c.equality_at.ensures _ c.in_ok-left.was _ c.of_kind.ensures _ c.in_ok-body.was c.in_ok-test.field-0 c.in_ok-test.ensures c.in_ok-same_test.field-0 c.in_ok-same_test.ensures c.if-test-same_test.true

pub returns-then-not-is_forall_over : goal.returns-then-not-is_forall_over
returns-then-not-is_forall_over c = ite-yes _ _ _ _ c.equality_at.ensures _ c.in_ok-left.was _ c.of_kind.ensures _ c.in_ok-body.was c.in_ok-test.field-0 c.in_ok-test.ensures c.in_ok-same_test.field-0 c.in_ok-same_test.ensures c.if-test-same_test.false _ c.is_forall_over.ensures (ap not c.if-not-is_forall_over.true)

pub returns-then-not-is_forall_over-2 : goal.returns-then-not-is_forall_over-2
returns-then-not-is_forall_over-2 c = ite-no _ _ _ _ c.equality_at.ensures _ c.in_ok-left.was _ c.of_kind.ensures _ c.in_ok-body.was c.in_ok-test.field-0 c.in_ok-test.ensures c.in_ok-same_test.field-0 c.in_ok-same_test.ensures c.if-test-same_test.false _ c.is_forall_over.ensures (ap not c.if-not-is_forall_over.false) _ c.is_forall_over-2.ensures (ap not c.if-not-is_forall_over-2.true)

pub returns : goal.returns
returns c = ite-are _ _ _ _ c.equality_at.ensures _ c.in_ok-left.was _ c.of_kind.ensures _ c.in_ok-body.was c.in_ok-test.field-0 c.in_ok-test.ensures c.in_ok-same_test.field-0 c.in_ok-same_test.ensures c.if-test-same_test.false _ c.is_forall_over.ensures (ap not c.if-not-is_forall_over.false) _ c.is_forall_over-2.ensures (ap not c.if-not-is_forall_over-2.false)
