use Rattle.sorts.proofs.compute_sort.Laws.{term-sorts}
use Rattle.sorts.specs.ListRule.{by_list}
use Rattle.sorts.proofs.compute_sort.states_sort.Goals as goal

pub returns-then-tag-lt-BIT_VECTOR : goal.returns-then-tag-lt-BIT_VECTOR
returns-then-tag-lt-BIT_VECTOR c = search term-sorts

pub returns-then-tag-lt-VARIABLE : goal.returns-then-tag-lt-VARIABLE
returns-then-tag-lt-VARIABLE c = search term-sorts

pub returns-then-tag-lt-APPLICATION : goal.returns-then-tag-lt-APPLICATION
returns-then-tag-lt-APPLICATION c = search term-sorts

pub returns-then-tag-lt-FORALL : goal.returns-then-tag-lt-FORALL
unfolding by_list
returns-then-tag-lt-FORALL c = search term-sorts

pub returns-then-tag-lt-CHOICE : goal.returns-then-tag-lt-CHOICE
returns-then-tag-lt-CHOICE c = search term-sorts

pub returns-then-tag-lt-LAMBDA : goal.returns-then-tag-lt-LAMBDA
returns-then-tag-lt-LAMBDA c = search term-sorts

pub returns-then-tag-lt-LET : goal.returns-then-tag-lt-LET
unfolding by_list
returns-then-tag-lt-LET c = search term-sorts

pub returns-then-tag-lt-BINDERS_END : goal.returns-then-tag-lt-BINDERS_END
returns-then-tag-lt-BINDERS_END c = search term-sorts

pub returns : goal.returns
returns c = search term-sorts
