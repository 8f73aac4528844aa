use borrow.Author.Rules.{rules}
use native.Mathlib.Omega.{arith}
use mathlib.Core.Path.{refl, ◌∙◌}
use Rattle.building.specs.Walk.{normal}
use Rattle.building.proofs.build.Walks.{at_count, no_count, done_count, undone_count, slot-within, ready-next, form-known, form-kept, walked_end, walked-full, walked_next}
use Rattle.building.proofs.negation_normal_form.Forms.{not-below, implies-below, ite-below, iff-below, quantifier-body}
use Rattle.building.proofs.negation_normal_form.Steps.{or-at, and-at, pair-left-full, pair-right-full, pair_put, two-left-full, two-right-full, two-put}
use Rattle.building.proofs.negation_normal_form.Laws.{expand-opaque, expand-not, expand-implies, expand-ite, expand-iff, max_of, max-left, max-right, max-below, many-before, expand-many-full, expand-many, expand-quantifier-full, expand-quantifier}
use Rattle.building.proofs.negation_normal_form.+connective_form_expand_negation_normal_form_operand_forms_pair_of_quantifier_form_two_pairs.Goals as goal

pub connective_form-operand_forms-requires : goal.connective_form-operand_forms-requires
connective_form-operand_forms-requires t c = (omega (arith), (c.requires.ready, (c.requires.t_lt_end, many-before _ _ _ _ _ c.requires.ready.walk_ready _ c.args.polarity _ refl _ c.requires.t_value)))

pub connective_form-returns-in_err-operand_forms-clause-formed : goal.connective_form-returns-in_err-operand_forms-clause-formed
connective_form-returns-in_err-operand_forms-clause-formed t c = rw c.from_residual.ensures (expand-many-full _ _ _ _ _ c.requires.ready.walk_ready _ _ _ refl _ c.requires.t_value _ _ _ _ c.operand_forms.ensures.operands (undone_count _ _ c.in_err-operand_forms.was))

pub connective_form-returns-clause-formed : goal.connective_form-returns-clause-formed
connective_form-returns-clause-formed t c = expand-many _ _ _ _ _ c.requires.ready.walk_ready _ _ _ refl _ c.requires.t_value _ _ _ _ c.operand_forms.ensures.operands _ _ (done_count _ _ _ c.in_ok-operand_forms.was) _ _ _ _ c.put_connective.ensures.puts c.put_connective.ensures.memo_kept

pub expand-negation_normal_form-requires : goal.expand-negation_normal_form-requires
expand-negation_normal_form-requires t c = let h = not-below _ _ _ _ c.view_of-view.ensures _ c.in-Not.is in
    (omega (arith), (c.requires.ready, omega (arith, c.requires.t_lt_end)))

pub expand-pair_of-requires : goal.expand-pair_of-requires
expand-pair_of-requires t c = let (h, l) = implies-below _ _ _ _ c.view_of-view.ensures _ _ c.in-Implies.is in
    (omega (arith, max-below _ _ _ h l), (c.requires.ready, (omega (arith, c.requires.t_lt_end), omega (arith, c.requires.t_lt_end))))

pub expand-two_pairs-requires : goal.expand-two_pairs-requires
expand-two_pairs-requires t c = let (h, l, k) = ite-below _ _ _ _ c.view_of-view.ensures _ _ _ c.in-Ite.is in
    (omega (arith, max-below _ _ _ (max-below _ _ _ h l) (max-below _ _ _ h k)), (c.requires.ready, record { first = omega (arith, c.requires.t_lt_end); second = omega (arith, c.requires.t_lt_end); third = omega (arith, c.requires.t_lt_end); fourth = omega (arith, c.requires.t_lt_end) }))

pub expand-two_pairs-requires-in-Iff : goal.expand-two_pairs-requires-in-Iff
expand-two_pairs-requires-in-Iff t c = let (h, l) = iff-below _ _ _ _ c.view_of-view.ensures _ _ c.in-Iff.is in
    (omega (arith, max-below _ _ _ (max-below _ _ _ h l) (max-below _ _ _ l h)), (c.requires.ready, record { first = omega (arith, c.requires.t_lt_end); second = omega (arith, c.requires.t_lt_end); third = omega (arith, c.requires.t_lt_end); fourth = omega (arith, c.requires.t_lt_end) }))

pub expand-returns-in-Opaque-clause-formed : goal.expand-returns-in-Opaque-clause-formed
expand-returns-in-Opaque-clause-formed t c = expand-opaque _ _ _ _ _ c.requires.ready.walk_ready _ _ _ (c.view_of-view.ensures ∙ rw (c.first-source.ensures.tags, c.first-source.ensures.values)) c.in-Opaque.is _ _ _ c.literal.ensures.puts

pub expand-returns-in-Not-clause-formed : goal.expand-returns-in-Not-clause-formed
expand-returns-in-Not-clause-formed t c = expand-not _ _ _ _ _ c.requires.ready.walk_ready _ _ _ (c.view_of-view.ensures ∙ rw (c.first-source.ensures.tags, c.first-source.ensures.values)) _ c.in-Not.is _ _ _ _ c.negation_normal_form.ensures.known

pub expand-returns-in-Implies-clause-formed : goal.expand-returns-in-Implies-clause-formed
expand-returns-in-Implies-clause-formed t c = expand-implies _ _ _ _ _ c.requires.ready.walk_ready _ _ _ (c.view_of-view.ensures ∙ rw (c.first-source.ensures.tags, c.first-source.ensures.values)) _ _ c.in-Implies.is _ _ _ _ c.pair_of.ensures.formed

pub expand-returns-in-Ite-clause-formed : goal.expand-returns-in-Ite-clause-formed
expand-returns-in-Ite-clause-formed t c = expand-ite _ _ _ _ _ c.requires.ready.walk_ready _ _ _ (c.view_of-view.ensures ∙ rw (c.first-source.ensures.tags, c.first-source.ensures.values)) _ _ _ c.in-Ite.is _ _ _ _ c.two_pairs.ensures.formed

pub expand-returns-in-Iff-clause-formed : goal.expand-returns-in-Iff-clause-formed
expand-returns-in-Iff-clause-formed t c = expand-iff _ _ _ _ _ c.requires.ready.walk_ready _ _ _ (c.view_of-view.ensures ∙ rw (c.first-source.ensures.tags, c.first-source.ensures.values)) _ _ c.in-Iff.is _ _ _ _ c.two_pairs-in-Iff.ensures.formed

pub negation_normal_form-offset_bounds-work-i : goal.negation_normal_form-offset_bounds-work-i
negation_normal_form-offset_bounds-work-i t c = let h = slot-within normal _ _ _ _ _ c.requires.ready.walk_ready _ _ c.requires.t_lt_end _ c.slot-i.ensures in
    search rules

pub negation_normal_form-bounds-work-i : goal.negation_normal_form-bounds-work-i
negation_normal_form-bounds-work-i t c = let h = slot-within normal _ _ _ _ _ c.requires.ready.walk_ready _ _ c.requires.t_lt_end _ c.slot-i.ensures in
    search rules

pub negation_normal_form-offset_bounds-work-i-2 : goal.negation_normal_form-offset_bounds-work-i-2
negation_normal_form-offset_bounds-work-i-2 t c = let h = slot-within normal _ _ _ _ _ c.requires.ready.walk_ready _ _ c.requires.t_lt_end _ c.slot-i.ensures in
    search rules

pub negation_normal_form-bounds-work-i-2 : goal.negation_normal_form-bounds-work-i-2
negation_normal_form-bounds-work-i-2 t c = let h = slot-within normal _ _ _ _ _ c.requires.ready.walk_ready _ _ c.requires.t_lt_end _ c.slot-i.ensures in
    search rules

pub negation_normal_form-returns-then-known-ne0-clause-known : goal.negation_normal_form-returns-then-known-ne0-clause-known
negation_normal_form-returns-then-known-ne0-clause-known t c = search form-known

pub negation_normal_form-returns-clause-known : goal.negation_normal_form-returns-clause-known
negation_normal_form-returns-clause-known t c = form-kept normal _ _ _ _ _ c.requires.ready.walk_ready _ _ c.requires.t_lt_end _ c.slot-i.ensures _ refl _ _ _ _ c.expand.ensures.formed c.if-known-ne0.false _ _ (at_count _ _ _ c.in_ok-p.was)

pub operand_forms-returns-in_err-negation_normal_form-clause-operands : goal.operand_forms-returns-in_err-negation_normal_form-clause-operands
operand_forms-returns-in_err-negation_normal_form-clause-operands t c = rw c.from_residual.ensures (walked-full normal _ _ _ _ _ _ _ _ c.loop-i.invariant _ (c.operands-count.ensures ∙ rw (c.first-source.ensures.tags, c.first-source.ensures.values)) _ (c.operands.ensures ∙ rw (c.first-source-in-loop-i.ensures.tags, c.first-source-in-loop-i.ensures.values)) c.loop-i-test.true _ c.negation_normal_form.new.pool _ c.negation_normal_form.ensures.known c.in_err-negation_normal_form.was)

pub operand_forms-loop-i-preserved : goal.operand_forms-loop-i-preserved
operand_forms-loop-i-preserved t c = walked_next normal _ _ _ _ _ _ _ _ c.loop-i.invariant _ (c.operands-count.ensures ∙ rw (c.first-source.ensures.tags, c.first-source.ensures.values)) _ (c.operands.ensures ∙ rw (c.first-source-in-loop-i.ensures.tags, c.first-source-in-loop-i.ensures.values)) c.loop-i-test.true _ c.negation_normal_form.new.pool _ c.negation_normal_form.ensures.known _ c.in_ok-negation_normal_form.was c.negation_normal_form.ensures.has_index c.negation_normal_form.ensures.same_arrays

pub operand_forms-returns-clause-operands : goal.operand_forms-returns-clause-operands
operand_forms-returns-clause-operands t c = walked_end normal _ _ _ _ _ _ _ _ c.loop-i.invariant _ (c.operands-count.ensures ∙ rw (c.first-source.ensures.tags, c.first-source.ensures.values)) c.requires.t_lt_end c.loop-i-test.false

pub pair_of-negation_normal_form-requires : goal.pair_of-negation_normal_form-requires
pair_of-negation_normal_form-requires t c = (omega (arith, max-left c.args.a.0.0 c.args.b.0), (c.requires.ready, c.requires.a_lt_end))

pub pair_of-returns-in_err-p-clause-formed : goal.pair_of-returns-in_err-p-clause-formed
pair_of-returns-in_err-p-clause-formed t c = rw c.from_residual.ensures (pair-left-full _ _ _ _ _ _ _ _ _ _ _ _ _ _ c.negation_normal_form.ensures.known (no_count _ _ c.in_err-p.was))

pub pair_of-negation_normal_form-requires-2 : goal.pair_of-negation_normal_form-requires-2
pair_of-negation_normal_form-requires-2 t c = let k = c.negation_normal_form.ensures in
    (omega (arith, max-right c.args.a.0.0 c.args.b.0), (ready-next normal _ c.args.pool.now _ _ _ _ _ k.known.formed k.has_index _ c.in_ok-p.was, c.requires.b_lt_end))

pub pair_of-returns-in_err-q-clause-formed : goal.pair_of-returns-in_err-q-clause-formed
pair_of-returns-in_err-q-clause-formed t c = rw c.from_residual-in_err-q.ensures (pair-right-full _ _ _ _ _ _ _ _ _ _ _ _ _ _ c.negation_normal_form.ensures.known _ _ (at_count _ _ _ c.in_ok-p.was) _ _ _ _ c.negation_normal_form-2.ensures.known (no_count _ _ c.in_err-q.was))

pub pair_of-returns-clause-formed : goal.pair_of-returns-clause-formed
pair_of-returns-clause-formed t c = pair_put _ _ _ _ _ _ _ _ _ _ _ _ _ _ c.negation_normal_form.ensures.known _ _ (at_count _ _ _ c.in_ok-p.was) _ _ _ _ c.negation_normal_form-2.ensures.known _ _ (at_count _ _ _ c.in_ok-q.was) _ _ _ (rw (c.at.ensures ∙ or-at c.args.polarity) at c.put_pair.ensures.puts)

pub quantifier_form-negation_normal_form-requires : goal.quantifier_form-negation_normal_form-requires
quantifier_form-negation_normal_form-requires t c = let h = quantifier-body _ _ _ _ refl _ _ c.requires.t_value in
    (omega (arith), (c.requires.ready, omega (arith, c.requires.t_lt_end)))

pub quantifier_form-returns-in_err-p-clause-formed : goal.quantifier_form-returns-in_err-p-clause-formed
quantifier_form-returns-in_err-p-clause-formed t c = rw c.from_residual.ensures (expand-quantifier-full _ _ _ _ _ c.requires.ready.walk_ready _ _ _ refl _ _ c.requires.t_value _ _ _ _ c.negation_normal_form.ensures.known (no_count _ _ c.in_err-p.was))

pub quantifier_form-returns-clause-formed : goal.quantifier_form-returns-clause-formed
quantifier_form-returns-clause-formed t c = expand-quantifier _ _ _ _ _ c.requires.ready.walk_ready _ _ _ refl _ _ c.requires.t_value _ _ _ _ c.negation_normal_form.ensures.known _ _ (at_count _ _ _ c.in_ok-p.was) _ _ _ _ c.put_quantifier.ensures.puts c.put_quantifier.ensures.memo_kept

pub two_pairs-pair_of-requires : goal.two_pairs-pair_of-requires
two_pairs-pair_of-requires t c = (omega (arith, max-left (max_of c.args.a.0 c.args.b.0) (max_of c.args.c.0.0 c.args.d.0)), (c.requires.ready, (c.requires.all_below.first, c.requires.all_below.second)))

pub two_pairs-returns-in_err-p-clause-formed : goal.two_pairs-returns-in_err-p-clause-formed
two_pairs-returns-in_err-p-clause-formed t c = rw c.from_residual.ensures (two-left-full _ _ _ _ _ _ _ _ _ _ _ _ _ _ _ c.pair_of.ensures.formed (no_count _ _ c.in_err-p.was))

pub two_pairs-pair_of-requires-2 : goal.two_pairs-pair_of-requires-2
two_pairs-pair_of-requires-2 t c = let k = c.pair_of.ensures in
    (omega (arith, max-right (max_of c.args.a.0 c.args.b.0) (max_of c.args.c.0.0 c.args.d.0)), (ready-next normal _ c.args.pool.now _ _ _ _ _ k.formed k.has_index _ c.in_ok-p.was, (c.requires.all_below.third, c.requires.all_below.fourth)))

pub two_pairs-returns-in_err-q-clause-formed : goal.two_pairs-returns-in_err-q-clause-formed
two_pairs-returns-in_err-q-clause-formed t c = rw c.from_residual-in_err-q.ensures (two-right-full _ _ _ _ _ _ _ _ _ _ _ _ _ _ _ c.pair_of.ensures.formed _ _ (at_count _ _ _ c.in_ok-p.was) _ _ _ _ c.pair_of-2.ensures.formed (no_count _ _ c.in_err-q.was))

pub two_pairs-returns-clause-formed : goal.two_pairs-returns-clause-formed
two_pairs-returns-clause-formed t c = two-put _ _ _ _ _ _ _ _ _ _ _ _ _ _ _ c.pair_of.ensures.formed _ _ (at_count _ _ _ c.in_ok-p.was) _ _ _ _ c.pair_of-2.ensures.formed _ _ (at_count _ _ _ c.in_ok-q.was) _ _ _ (rw (c.at.ensures ∙ and-at c.args.polarity) at c.put_pair.ensures.puts)
