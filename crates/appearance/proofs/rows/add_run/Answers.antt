use borrow.Author.Rules.{rules}
use native.Mathlib.Omega.{arith}
use Rattle.appearance.proofs.rows.Adding.{run-additions, run_end}
use Rattle.appearance.proofs.rows.add_run.Goals as goal

pub loop-u-preserved-then-t-u : goal.loop-u-preserved-then-t-u
loop-u-preserved-then-t-u c = search (run-additions, rules)

pub loop-u-preserved : goal.loop-u-preserved
loop-u-preserved c = search (run-additions, rules)

pub returns : goal.returns
returns c = run_end _ _ _ _ _ _ _ _ c.loop-u.invariant (omega arith)
