use lib.ListN.{length}
use Rattle.free_pairs.proofs.free_masks.+equal_pairs.Given as goal

abbrev pub decreases-equal_pairs : goal.decreases-equal_pairs
decreases-equal_pairs l = length l.list.now
