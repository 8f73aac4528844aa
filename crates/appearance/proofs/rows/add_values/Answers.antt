use borrow.Author.Rules.{rules}
use native.Mathlib.Omega.{arith}
use Prim.Native.Nat.{◌+◌}
use Rattle.appearance.proofs.rows.Adding.{value-additions, values-end}
use Rattle.appearance.proofs.rows.add_values.Goals as goal

pub loop-i-preserved-then-t-u : goal.loop-i-preserved-then-t-u
loop-i-preserved-then-t-u c = search (value-additions, rules)

pub loop-i-preserved : goal.loop-i-preserved
loop-i-preserved c = search (value-additions, rules)

pub returns : goal.returns
returns c = values-end _ _ _ _ _ _ _ _ c.loop-i.invariant (omega arith)

pub returns-then-t-u : goal.returns-then-t-u
returns-then-t-u c = values-end _ _ _ _ _ _ _ (c.loop-i.i + 2) (search (value-additions, rules)) (omega arith)

pub returns-else-t-u : goal.returns-else-t-u
returns-else-t-u c = values-end _ _ _ _ _ _ _ (c.loop-i.i + 2) (search (value-additions, rules)) (omega arith)
