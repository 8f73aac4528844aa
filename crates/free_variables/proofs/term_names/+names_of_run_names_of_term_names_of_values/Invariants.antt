use lib.ListN.{length}
use Prim.Native.Nat.{◌*◌, ◌+◌, ◌^◌}
use Rattle.free_variables.proofs.term_names.+names_of_run_names_of_term_names_of_values.Given as goal

abbrev pub decreases-names_of_run : goal.decreases-names_of_run
decreases-names_of_run l = l.t.0 * 2 ^ 65 + length l.run.now

abbrev pub decreases-names_of_term : goal.decreases-names_of_term
decreases-names_of_term l = l.t.0 * 2 ^ 65 + 2 ^ 64

abbrev pub decreases-names_of_values : goal.decreases-names_of_values
decreases-names_of_values l = l.t.0 * 2 ^ 65 + length l.run.now
