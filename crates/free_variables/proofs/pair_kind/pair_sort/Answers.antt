use Rattle.free_variables.specs.FreeMemo.{pair_sort}
use Rattle.free_variables.proofs.pair_kind.pair_sort.Goals as goal

pub returns-in-SortedVar : goal.returns-in-SortedVar
unfolding pair_sort
returns-in-SortedVar c = rw c.in-SortedVar.is

pub returns-in-VarBinding : goal.returns-in-VarBinding
unfolding pair_sort
returns-in-VarBinding c = rw c.in-VarBinding.is c.sort_of.ensures
