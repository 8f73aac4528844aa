use Rattle.appearance.proofs.compute_free_vars.Listing.{fresh}
use lib.ListN.{length-replicate}
use Prim.Native.Nat.{ℕ}
use borrow.Author.Rules.{rules}
use Rattle.appearance.proofs.compute_free_vars.list_free_vars.Goals as goal

pub list_with-requires : goal.list_with-requires
list_with-requires c = (record { indexed_variables = search rules; t_lt_n = search rules; n_in_bounds = search rules; table_len = length-replicate {A = ℕ} 73728 0; fresh = fresh })
