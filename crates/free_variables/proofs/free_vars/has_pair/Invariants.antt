use mathlib.Core.Path.{◌≡◌}
use lib.ListN.{length, drop}
use Rattle.free_variables.specs.Free.{pair_in}
use Rattle.free_variables.specs.FreeMemo.{pair_sort}
use Rattle.free_variables.proofs.free_vars.has_pair.Given as goal

abbrev pub invariant-loop-pairs : goal.invariant-loop-pairs
invariant-loop-pairs l =
    pair_in (pair_sort l.pool.values.now l.kind) l.v.name l.v.sort.0 (drop 1 l.run) ≡ pair_in (pair_sort l.pool.values.now l.kind) l.v.name l.v.sort.0 l.pairs

abbrev pub decreases-loop-pairs : goal.decreases-loop-pairs
decreases-loop-pairs l = length l.pairs
