use lib.ListN.{length}
use Rattle.free_pairs.proofs.free_masks.+unbound_pairs.Given as goal

abbrev pub decreases-unbound_pairs : goal.decreases-unbound_pairs
decreases-unbound_pairs l = length l.list.now
