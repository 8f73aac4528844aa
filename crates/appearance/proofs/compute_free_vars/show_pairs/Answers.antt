use Rattle.appearance.proofs.compute_free_vars.PairLoops.{shows, showing-end, showing-within, showing-some}
use borrow.Author.Rules.{rules}
use native.Mathlib.Omega.{arith}
use Prim.Native.Nat.{◌+◌}
use Rattle.appearance.proofs.compute_free_vars.show_pairs.Goals as goal
use Rattle.appearance.proofs.compute_free_vars.show_pairs.Goals.{in-Some, in_default}

pub show-requires-clause-v_in_bounds : goal.show-requires-clause-v_in_bounds
show-requires-clause-v_in_bounds c = search (showing-within, rules)

pub show-requires-clause-nonzero : goal.show-requires-clause-nonzero
show-requires-clause-nonzero c = search (showing-some, rules)

pub loop-i-preserved : goal.loop-i-preserved
loop-i-preserved c = elim c.match-variable_of.branch [ in-Some w ↦ rw w.state-is (search (shows, rules)) | in_default w ↦ rw w.state-is (search (shows, rules)) ]

pub returns : goal.returns
returns c = search (shows, rules)

pub returns-after-variable_of : goal.returns-after-variable_of
returns-after-variable_of c = showing-end _ _ _ _ c.args.run.now _ _ (c.loop-i.i + 2) (elim c.match-variable_of.branch [ in-Some w ↦ rw w.state-is (search (shows, rules)) | in_default w ↦ rw w.state-is (search (shows, rules)) ]) (omega arith)
