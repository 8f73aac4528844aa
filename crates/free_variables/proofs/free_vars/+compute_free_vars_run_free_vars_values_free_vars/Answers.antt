use Rattle.free_variables.proofs.free_vars.Laws.{run_end, run-skip, run-found, run_on, values-end, values-skip, values-found, values-on}
use Rattle.free_variables.proofs.free_vars.+compute_free_vars_run_free_vars_values_free_vars.Goals as goal

pub run_free_vars-returns-then-run-eq0 : goal.run_free_vars-returns-then-run-eq0
run_free_vars-returns-then-run-eq0 t c = search run_end

pub run_free_vars-returns-then-t-u : goal.run_free_vars-returns-then-t-u
run_free_vars-returns-then-t-u t c = search run-skip

pub run_free_vars-returns-then-compute_free_vars : goal.run_free_vars-returns-then-compute_free_vars
run_free_vars-returns-then-compute_free_vars t c = search run-found

pub run_free_vars-returns : goal.run_free_vars-returns
run_free_vars-returns t c = search run_on

pub values_free_vars-returns-then-run-lt3 : goal.values_free_vars-returns-then-run-lt3
values_free_vars-returns-then-run-lt3 t c = search values-end

pub values_free_vars-returns-then-t-u : goal.values_free_vars-returns-then-t-u
values_free_vars-returns-then-t-u t c = search values-skip

pub values_free_vars-returns-then-compute_free_vars : goal.values_free_vars-returns-then-compute_free_vars
values_free_vars-returns-then-compute_free_vars t c = search values-found

pub values_free_vars-returns : goal.values_free_vars-returns
values_free_vars-returns t c = search values-on
