use Rattle.sorts.proofs.special_sorts.Laws.{special-is}
use Rattle.sorts.specs.SortRule.{is_sort, by_special}
use Rattle.sorts.specs.ListRule.{by_list}
use Rattle.sorts.proofs.special_sorts.by_special.Goals as goal

pub returns-in-Arithmetic : goal.returns-in-Arithmetic
unfolding is_sort by_special
returns-in-Arithmetic c = search special-is

pub returns-in-Select : goal.returns-in-Select
unfolding is_sort by_special
returns-in-Select c = search special-is

pub returns-in-BitVectors : goal.returns-in-BitVectors
unfolding is_sort by_special
returns-in-BitVectors c = search special-is

pub returns-in-Concat : goal.returns-in-Concat
unfolding is_sort by_special
returns-in-Concat c = search special-is

pub returns-in-OneBit : goal.returns-in-OneBit
unfolding is_sort by_special
returns-in-OneBit c = search special-is

pub returns-in-BitCount : goal.returns-in-BitCount
unfolding is_sort by_special
returns-in-BitCount c = search special-is

pub returns-in-BvConst : goal.returns-in-BvConst
unfolding is_sort by_special
returns-in-BvConst c = search special-is

pub returns-in-RareList : goal.returns-in-RareList
unfolding is_sort by_special
returns-in-RareList c = search special-is

pub returns-in-Singleton : goal.returns-in-Singleton
unfolding is_sort by_special
returns-in-Singleton c = search special-is

pub returns-in-Insert : goal.returns-in-Insert
unfolding is_sort by_special
returns-in-Insert c = search special-is

pub returns-in-TupleOf : goal.returns-in-TupleOf
unfolding is_sort by_special by_list
returns-in-TupleOf c = search special-is

pub returns-in-TupleUnit : goal.returns-in-TupleUnit
unfolding is_sort by_special
returns-in-TupleUnit c = search special-is

pub returns-in-Transpose : goal.returns-in-Transpose
unfolding is_sort by_special by_list
returns-in-Transpose c = search special-is

pub returns-in-Join : goal.returns-in-Join
unfolding is_sort by_special by_list
returns-in-Join c = search special-is

pub returns-in-Product : goal.returns-in-Product
unfolding is_sort by_special by_list
returns-in-Product c = search special-is

pub returns-in-NoRule : goal.returns-in-NoRule
unfolding is_sort by_special
returns-in-NoRule c = search special-is
