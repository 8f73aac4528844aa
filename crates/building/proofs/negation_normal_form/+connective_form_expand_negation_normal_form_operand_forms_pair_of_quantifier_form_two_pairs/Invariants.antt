use Rattle.building.specs.Walk.{normal}
use Rattle.building.proofs.build.Walks.{OperandsWalked}
use Rattle.building.proofs.negation_normal_form.Laws.{max_of}
use Prim.Native.Nat.{◌+◌, ◌*◌}
use Rattle.building.proofs.negation_normal_form.+connective_form_expand_negation_normal_form_operand_forms_pair_of_quantifier_form_two_pairs.Given as goal

abbrev pub decreases-connective_form : goal.decreases-connective_form
decreases-connective_form l = l.t.0 * 32768 + 12288

abbrev pub decreases-expand : goal.decreases-expand
decreases-expand l = l.t.0 * 32768 + 16384

abbrev pub decreases-negation_normal_form : goal.decreases-negation_normal_form
decreases-negation_normal_form l = l.t.0 * 32768 + 24576

abbrev pub decreases-operand_forms : goal.decreases-operand_forms
decreases-operand_forms l = l.t.0 * 32768 + 1

abbrev pub decreases-pair_of : goal.decreases-pair_of
decreases-pair_of l = max_of l.a.0.0 l.b.0 * 32768 + 24577

abbrev pub decreases-quantifier_form : goal.decreases-quantifier_form
decreases-quantifier_form l = l.t.0 * 32768 + 12288

abbrev pub decreases-two_pairs : goal.decreases-two_pairs
decreases-two_pairs l = max_of (max_of l.a.0 l.b.0) (max_of l.c.0.0 l.d.0) * 32768 + 24578

abbrev pub invariant-operand_forms-loop-i : goal.invariant-operand_forms-loop-i
invariant-operand_forms-loop-i l = OperandsWalked normal l.end l.initial.pool l.initial.work l.t.0 l.polarity l.pool l.work l.i
