use Rattle.appearance.proofs.compute_free_vars.PairLoops.{hides, hiding-end, hiding-within, hiding-small}
use borrow.Author.Rules.{rules}
use native.Mathlib.Omega.{arith}
use Prim.Native.Nat.{◌+◌}
use Rattle.appearance.proofs.compute_free_vars.hide_pairs.Goals as goal
use Rattle.appearance.proofs.compute_free_vars.hide_pairs.Goals.{in-Some, in_default}

pub hide-requires-clause-v_in_bounds : goal.hide-requires-clause-v_in_bounds
hide-requires-clause-v_in_bounds c = search (hiding-within, rules)

pub hide-requires-clause-v_bound : goal.hide-requires-clause-v_bound
hide-requires-clause-v_bound c = search (hiding-small, rules)

pub loop-i-preserved : goal.loop-i-preserved
loop-i-preserved c = elim c.match-variable_of.branch [ in-Some w ↦ rw w.state-is (search (hides, rules)) | in_default w ↦ rw w.state-is (search (hides, rules)) ]

pub returns : goal.returns
returns c = search (hides, rules)

pub returns-after-variable_of : goal.returns-after-variable_of
returns-after-variable_of c = hiding-end _ _ _ _ c.args.run.now _ _ (c.loop-i.i + 2) (elim c.match-variable_of.branch [ in-Some w ↦ rw w.state-is (search (hides, rules)) | in_default w ↦ rw w.state-is (search (hides, rules)) ]) (omega arith)
