use mathlib.Core.Bool.{false}
use mathlib.Core.Path.{◌≡◌}
use lib.ListN.{drop}
use Rattle.sorts.specs.SortRule.{concat_from}
use Rattle.sorts.proofs.special_sorts.concat.Given as goal

abbrev pub invariant-loop-o : goal.invariant-loop-o
invariant-loop-o l = concat_from l.pool.tags.now l.pool.values.now 0 false l.os ≡ concat_from l.pool.tags.now l.pool.values.now l.width l.param (drop l.o-index l.os)
