use borrow.Author.Rules.{rules}
use native.Mathlib.Omega.{arith}
use mathlib.Core.Path.{refl, ◌∙◌}
use Rattle.building.specs.Walk.{taken_out}
use Rattle.building.proofs.build.Walks.{at_count, done_count, undone_count, slot-within, form-known, form-kept, walked_end, walked-full, walked_next}
use Rattle.building.proofs.prenex_forall.Laws.{take-forall, take-literal, take-full, take_put, forall_below, connective-before}
use Rattle.building.proofs.prenex_forall.+operand_forms_prenex_forall_take_out.Goals as goal

pub prenex_forall-offset_bounds-work-i : goal.prenex_forall-offset_bounds-work-i
prenex_forall-offset_bounds-work-i t c = let h = slot-within taken_out _ _ _ _ _ c.requires.ready.walk_ready _ _ c.requires.x_lt_end _ c.slot-i.ensures in
    search rules

pub prenex_forall-bounds-work-i : goal.prenex_forall-bounds-work-i
prenex_forall-bounds-work-i t c = let h = slot-within taken_out _ _ _ _ _ c.requires.ready.walk_ready _ _ c.requires.x_lt_end _ c.slot-i.ensures in
    search rules

pub prenex_forall-offset_bounds-work-i-2 : goal.prenex_forall-offset_bounds-work-i-2
prenex_forall-offset_bounds-work-i-2 t c = let h = slot-within taken_out _ _ _ _ _ c.requires.ready.walk_ready _ _ c.requires.x_lt_end _ c.slot-i.ensures in
    search rules

pub prenex_forall-bounds-work-i-2 : goal.prenex_forall-bounds-work-i-2
prenex_forall-bounds-work-i-2 t c = let h = slot-within taken_out _ _ _ _ _ c.requires.ready.walk_ready _ _ c.requires.x_lt_end _ c.slot-i.ensures in
    search rules

pub prenex_forall-returns-then-known-ne0-clause-known : goal.prenex_forall-returns-then-known-ne0-clause-known
prenex_forall-returns-then-known-ne0-clause-known t c = search form-known

pub prenex_forall-returns-clause-known : goal.prenex_forall-returns-clause-known
prenex_forall-returns-clause-known t c = form-kept taken_out _ _ _ _ _ c.requires.ready.walk_ready _ _ c.requires.x_lt_end _ c.slot-i.ensures _ refl _ _ _ _ c.take_out.ensures.formed c.if-known-ne0.false _ _ (at_count _ _ _ c.in_ok-p.was)

pub operand_forms-returns-in_err-prenex_forall-clause-operands : goal.operand_forms-returns-in_err-prenex_forall-clause-operands
operand_forms-returns-in_err-prenex_forall-clause-operands t c = rw c.from_residual.ensures (walked-full taken_out _ _ _ _ _ _ _ _ c.loop-i.invariant _ (c.operands-count.ensures ∙ rw (c.first-source.ensures.tags, c.first-source.ensures.values)) _ (c.operands.ensures ∙ rw (c.first-source-in-loop-i.ensures.tags, c.first-source-in-loop-i.ensures.values)) c.loop-i-test.true _ c.prenex_forall.new.pool _ c.prenex_forall.ensures.known c.in_err-prenex_forall.was)

pub operand_forms-loop-i-preserved : goal.operand_forms-loop-i-preserved
operand_forms-loop-i-preserved t c = walked_next taken_out _ _ _ _ _ _ _ _ c.loop-i.invariant _ (c.operands-count.ensures ∙ rw (c.first-source.ensures.tags, c.first-source.ensures.values)) _ (c.operands.ensures ∙ rw (c.first-source-in-loop-i.ensures.tags, c.first-source-in-loop-i.ensures.values)) c.loop-i-test.true _ c.prenex_forall.new.pool _ c.prenex_forall.ensures.known _ c.in_ok-prenex_forall.was c.prenex_forall.ensures.has_index c.prenex_forall.ensures.same_arrays

pub operand_forms-returns-clause-operands : goal.operand_forms-returns-clause-operands
operand_forms-returns-clause-operands t c = walked_end taken_out _ _ _ _ _ _ _ _ c.loop-i.invariant _ (c.operands-count.ensures ∙ rw (c.first-source.ensures.tags, c.first-source.ensures.values)) c.requires.x_lt_end c.loop-i-test.false

pub take_out-prenex_forall-requires : goal.take_out-prenex_forall-requires
take_out-prenex_forall-requires t c = let h = forall_below _ _ _ _ _ c.requires.ready.walk_ready _ c.requires.x_lt_end _ (c.normal_view-view.ensures ∙ rw (c.first-source.ensures.tags, c.first-source.ensures.values)) _ c.in-Forall.is in
    (omega (arith), (c.requires.ready, omega (arith, c.requires.x_lt_end)))

pub take_out-operand_forms-requires : goal.take_out-operand_forms-requires
take_out-operand_forms-requires t c = (omega (arith), (c.requires.ready, (c.requires.x_lt_end, connective-before _ _ _ _ _ c.requires.ready.walk_ready _ c.requires.x_lt_end _ (c.normal_view-view.ensures ∙ rw (c.first-source.ensures.tags, c.first-source.ensures.values)) _ c.in-Connective.is)))

pub take_out-returns-in_err-operand_forms-in-Connective-clause-formed : goal.take_out-returns-in_err-operand_forms-in-Connective-clause-formed
take_out-returns-in_err-operand_forms-in-Connective-clause-formed t c = rw c.from_residual.ensures (take-full _ _ _ _ _ c.requires.ready.walk_ready _ c.requires.x_lt_end _ (c.normal_view-view.ensures ∙ rw (c.first-source.ensures.tags, c.first-source.ensures.values)) _ c.in-Connective.is _ _ _ _ c.operand_forms.ensures.operands (undone_count _ _ c.in_err-operand_forms-in-Connective.was))

pub take_out-returns-in-Literal-clause-formed : goal.take_out-returns-in-Literal-clause-formed
take_out-returns-in-Literal-clause-formed t c = take-literal _ _ _ _ _ c.requires.ready.walk_ready _ c.requires.x_lt_end _ (c.normal_view-view.ensures ∙ rw (c.first-source.ensures.tags, c.first-source.ensures.values)) c.in-Literal.is

pub take_out-returns-in-Forall-clause-formed : goal.take_out-returns-in-Forall-clause-formed
take_out-returns-in-Forall-clause-formed t c = take-forall _ _ _ _ _ c.requires.ready.walk_ready _ c.requires.x_lt_end _ (c.normal_view-view.ensures ∙ rw (c.first-source.ensures.tags, c.first-source.ensures.values)) _ c.in-Forall.is _ _ _ _ c.prenex_forall.ensures.known

pub take_out-returns-in_ok-operand_forms-in-Connective-clause-formed : goal.take_out-returns-in_ok-operand_forms-in-Connective-clause-formed
take_out-returns-in_ok-operand_forms-in-Connective-clause-formed t c = take_put _ _ _ _ _ c.requires.ready.walk_ready _ c.requires.x_lt_end _ (c.normal_view-view.ensures ∙ rw (c.first-source.ensures.tags, c.first-source.ensures.values)) _ c.in-Connective.is _ _ _ _ c.operand_forms.ensures.operands _ _ (done_count _ _ _ c.in_ok-operand_forms-in-Connective.was) _ _ _ _ c.put_connective.ensures.puts c.put_connective.ensures.memo_kept
