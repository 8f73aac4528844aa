use Rattle.appearance.proofs.compute_free_vars.Laws.{walk-skip, body-ask, body-walked, from_nothing, from-variable, from-let, let-below, let-ask}
use Rattle.appearance.proofs.compute_free_vars.Runs.{same-then, along, along-values, values-at-end}
use mathlib.Core.Path.{ap, ◌∙◌}
use Rattle.free_variables.specs.FreeMemo.{pair_kind_of}
use borrow.Author.Rules.{rules}
use native.Mathlib.Omega.{arith}
use Prim.Native.Nat.{◌+◌}
use Rattle.appearance.proofs.compute_free_vars.+body_free_vars_compute_free_vars_run_free_vars_values_free_vars.Goals as goal
use Rattle.appearance.proofs.compute_free_vars.+body_free_vars_compute_free_vars_run_free_vars_values_free_vars.Goals.{run_free_vars-then-u-t, run_free_vars-else-u-t, values_free_vars-then-u-t, values_free_vars-else-u-t}

pub body_free_vars-compute_free_vars-requires : goal.body_free_vars-compute_free_vars-requires
body_free_vars-compute_free_vars-requires t c = (omega (arith, c.requires.u_lt_t), body-ask _ _ _ _ _ _ _ _ _ c.requires.ask _ c.requires.u_lt_t _ c.operands-run.ensures _ _ c.hide_pairs.ensures)

pub body_free_vars-returns-clause-walked : goal.body_free_vars-returns-clause-walked
body_free_vars-returns-clause-walked t c = body-walked _ _ _ _ _ _ _ _ _ c.requires.ask _ c.requires.u_lt_t _ c.operands-run.ensures _ _ c.hide_pairs.ensures
    _ _ _ c.compute_free_vars.ensures.walked (c.pair_kind_of-kind.ensures ∙ ap pair_kind_of c.tag_at.ensures) _ c.show_pairs.ensures

pub compute_free_vars-body_free_vars-requires-in-Let : goal.compute_free_vars-body_free_vars-requires-in-Let
compute_free_vars-body_free_vars-requires-in-Let t c = (omega arith, (search (let-ask, rules), search (let-below, rules)))

pub compute_free_vars-returns-then-has_none-clause-walked : goal.compute_free_vars-returns-then-has_none-clause-walked
compute_free_vars-returns-then-has_none-clause-walked t c = search (walk-skip, rules)

pub compute_free_vars-returns-in-Nothing-clause-walked : goal.compute_free_vars-returns-in-Nothing-clause-walked
compute_free_vars-returns-in-Nothing-clause-walked t c = search (from_nothing, rules)

pub compute_free_vars-returns-in-Variable-clause-walked : goal.compute_free_vars-returns-in-Variable-clause-walked
compute_free_vars-returns-in-Variable-clause-walked t c = search (from-variable, rules)

pub compute_free_vars-returns-in-Let-clause-walked : goal.compute_free_vars-returns-in-Let-clause-walked
compute_free_vars-returns-in-Let-clause-walked t c = let from = c.free_from.ensures in
    from-let _ _ _ _ _ _ _ _ _ c.requires _ from.means from.occurs _ c.in-Let.is _ _ _ c.values_free_vars-in-Let.ensures.walked
    (search rules) _ _ _ c.body_free_vars-in-Let.ensures.walked

pub run_free_vars-loop-u-init : goal.run_free_vars-loop-u-init
run_free_vars-loop-u-init t c = record { same = search rules; at = search (along, rules) }

pub run_free_vars-loop-u-preserved : goal.run_free_vars-loop-u-preserved
run_free_vars-loop-u-preserved t c = elim c.if-u-t.branch [
  | run_free_vars-then-u-t w ↦ rw w.found-is (record { same = same-then _ _ _ c.loop-u.invariant.same w.compute_free_vars.ensures.same; at = search (along, rules) })
  | run_free_vars-else-u-t w ↦ rw w.found-is (record { same = c.loop-u.invariant.same; at = search (along, rules) })
]

pub run_free_vars-returns-clause-walked : goal.run_free_vars-returns-clause-walked
run_free_vars-returns-clause-walked t c = search (along, rules)

pub values_free_vars-loop-i-init : goal.values_free_vars-loop-i-init
values_free_vars-loop-i-init t c = record { same = search rules; at = search (along-values, rules) }

pub values_free_vars-loop-i-preserved : goal.values_free_vars-loop-i-preserved
values_free_vars-loop-i-preserved t c = elim c.if-u-t.branch [
  | values_free_vars-then-u-t w ↦ rw w.found-is (record { same = same-then _ _ _ c.loop-i.invariant.same w.compute_free_vars.ensures.same; at = search (along-values, rules) })
  | values_free_vars-else-u-t w ↦ rw w.found-is (record { same = c.loop-i.invariant.same; at = search (along-values, rules) })
]

pub values_free_vars-returns-clause-walked : goal.values_free_vars-returns-clause-walked
values_free_vars-returns-clause-walked t c = search (along-values, rules)

pub values_free_vars-returns-after-u-t-clause-walked : goal.values_free_vars-returns-after-u-t-clause-walked
values_free_vars-returns-after-u-t-clause-walked t c =
    values-at-end _ _ _ c.args.rows.now.table.now c.args.rows.now.words _ _ _ _ c.operands-run.result.now c.if-u-t.found.state.now c.if-u-t.found.places.now c.if-u-t.found.len (c.loop-i.i + 2)
    (elim c.if-u-t.branch [
      | values_free_vars-then-u-t w ↦ rw w.found-is (search (along-values, rules))
      | values_free_vars-else-u-t w ↦ rw w.found-is (search (along-values, rules))
    ]) (omega arith)
