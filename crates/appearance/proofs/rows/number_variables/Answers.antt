use borrow.Author.Rules.{rules}
use native.Mathlib.Omega.{arith}
use Rattle.appearance.proofs.rows.Numbers.{numbers, number_fits}
use Rattle.appearance.proofs.rows.number_variables.Goals as goal

pub loop-p-init : goal.loop-p-init
loop-p-init c = search (numbers, rules)

pub loop-p-preserved-then-tag_at-ne-VARIABLE : goal.loop-p-preserved-then-tag_at-ne-VARIABLE
loop-p-preserved-then-tag_at-ne-VARIABLE c = search (numbers, rules)

pub overflow_add-count : goal.overflow_add-count
overflow_add-count c = omega (arith, number_fits _ _ _ _ _ _ c.loop-p.invariant c.requires.n_le_cell_limit)

pub loop-p-preserved : goal.loop-p-preserved
loop-p-preserved c = search (numbers, rules)
