use Rattle.sorts.proofs.list_sorts.Laws.{list-is}
use Rattle.sorts.specs.ListRule.{by_list}
use Rattle.sorts.proofs.list_sorts.by_list.Goals as goal

pub returns-in-Tuple : goal.returns-in-Tuple
unfolding by_list
returns-in-Tuple c = search list-is

pub returns-in-Lambda : goal.returns-in-Lambda
unfolding by_list
returns-in-Lambda c = search list-is

pub returns-in-Application : goal.returns-in-Application
unfolding by_list
returns-in-Application c = search list-is

pub returns-in-Transpose : goal.returns-in-Transpose
unfolding by_list
returns-in-Transpose c = search list-is

pub returns-in-Join : goal.returns-in-Join
unfolding by_list
returns-in-Join c = search list-is

pub returns-in-Product : goal.returns-in-Product
unfolding by_list
returns-in-Product c = search list-is
