use borrow.Author.Rules.{rules}
use Rattle.free_variables.proofs.term_names.Laws.{walk-seen, walks, noted, run_end, run-skip, run_on, values-end, values-skip, values-on}
use Rattle.free_variables.proofs.term_names.+names_of_run_names_of_term_names_of_values.Goals as goal
use Rattle.free_variables.specs.Names.{free_in}
use Rattle.free_variables.specs.NamesWalk.{NamesWalked}
use Rattle.free_variables.proofs.term_names.+names_of_run_names_of_term_names_of_values.Goals.{names_of_term-in-Nothing, names_of_term-in-Variable, names_of_term-in-Body, names_of_term-in-Run, names_of_term-in-Values, names_of_term-in-Let}

pub names_of_run-returns-then-run-eq0 : goal.names_of_run-returns-then-run-eq0
names_of_run-returns-then-run-eq0 t c = search run_end

pub names_of_run-returns-then-t-u : goal.names_of_run-returns-then-t-u
names_of_run-returns-then-t-u t c = search run-skip

pub names_of_run-returns : goal.names_of_run-returns
names_of_run-returns t c = search run_on

pub names_of_values-returns-then-run-lt3 : goal.names_of_values-returns-then-run-lt3
names_of_values-returns-then-run-lt3 t c = search values-end

pub names_of_values-returns-then-t-u : goal.names_of_values-returns-then-t-u
names_of_values-returns-then-t-u t c = search values-skip

pub names_of_values-returns : goal.names_of_values-returns
names_of_values-returns t c = search values-on

pub names_of_term-returns-then-mark_at-eq1 : goal.names_of_term-returns-then-mark_at-eq1
names_of_term-returns-then-mark_at-eq1 t c = search walk-seen

pub names_of_term-returns : goal.names_of_term-returns
names_of_term-returns t c =
    let w : NamesWalked c.args.pool.now.tags.now c.args.pool.now.values.now c.args.names.now c.match-free_from.seen c.match-free_from.names (free_in c.args.pool.now.tags.now c.args.pool.now.values.now c.args.t.0) =
    elim c.match-free_from.branch [
      | names_of_term-in-Nothing w ↦ rw (w.seen-is, w.names-is) (search (walks, rules))
      | names_of_term-in-Variable w ↦ rw (w.seen-is, w.names-is) (search (walks, rules))
      | names_of_term-in-Body w ↦ rw (w.seen-is, w.names-is) (search (walks, rules))
      | names_of_term-in-Run w ↦ rw (w.seen-is, w.names-is) (search (walks, rules))
      | names_of_term-in-Values w ↦ rw (w.seen-is, w.names-is) (search (walks, rules))
      | names_of_term-in-Let w ↦ rw (w.seen-is, w.names-is) (search (walks, rules))
    ] in
    noted _ _ _ _ _ _ w _ c.set_mark.ensures
