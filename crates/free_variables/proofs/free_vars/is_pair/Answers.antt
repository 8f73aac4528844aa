use borrow.Author.Tests.{eq-eqb, ne_eqb}
use Rattle.free_variables.specs.FreeMemo.{is_pair}
use Rattle.free_variables.proofs.free_vars.is_pair.Goals as goal

pub returns-then-a-v : goal.returns-then-a-v
unfolding is_pair
returns-then-a-v c = rw (eq-eqb _ _ c.if-a-v.true, ← c.pair_sort.ensures) c.eq.ensures

pub returns-else-a-v : goal.returns-else-a-v
unfolding is_pair
returns-else-a-v c = rw (ne_eqb _ _ c.if-a-v.false)
