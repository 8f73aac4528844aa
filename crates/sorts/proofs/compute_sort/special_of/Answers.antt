use Rattle.sorts.specs.SortRule.{special_of}
use Rattle.sorts.proofs.compute_sort.Laws.{codes}
use Rattle.sorts.proofs.compute_sort.special_of.Goals as goal

pub returns-in-42 : goal.returns-in-42
unfolding special_of
returns-in-42 c = search codes

pub returns-in-90 : goal.returns-in-90
unfolding special_of
returns-in-90 c = search codes

pub returns-in-95 : goal.returns-in-95
unfolding special_of
returns-in-95 c = search codes

pub returns-in-112 : goal.returns-in-112
unfolding special_of
returns-in-112 c = search codes

pub returns-in-115 : goal.returns-in-115
unfolding special_of
returns-in-115 c = search codes

pub returns-in-123 : goal.returns-in-123
unfolding special_of
returns-in-123 c = search codes

pub returns-in-127 : goal.returns-in-127
unfolding special_of
returns-in-127 c = search codes

pub returns-in-129 : goal.returns-in-129
unfolding special_of
returns-in-129 c = search codes

pub returns-in-130 : goal.returns-in-130
unfolding special_of
returns-in-130 c = search codes

pub returns-in-131 : goal.returns-in-131
unfolding special_of
returns-in-131 c = search codes

pub returns-in-133 : goal.returns-in-133
unfolding special_of
returns-in-133 c = search codes

pub returns-in-134 : goal.returns-in-134
unfolding special_of
returns-in-134 c = search codes

pub returns-in-10-to-12 : goal.returns-in-10-to-12
returns-in-10-to-12 c = search codes

pub returns-in-110-to-111 : goal.returns-in-110-to-111
returns-in-110-to-111 c = search codes

pub returns-in-79-to-88 : goal.returns-in-79-to-88
returns-in-79-to-88 c = search codes

pub returns-in-79-to-88-2 : goal.returns-in-79-to-88-2
returns-in-79-to-88-2 c = search codes

pub returns-in_default : goal.returns-in_default
returns-in_default c = search codes

pub returns-in_default-2 : goal.returns-in_default-2
returns-in_default-2 c = search codes

pub returns-in_default-3 : goal.returns-in_default-3
returns-in_default-3 c = search codes

pub returns-in_default-4 : goal.returns-in_default-4
returns-in_default-4 c = search codes

pub returns-in_default-5 : goal.returns-in_default-5
returns-in_default-5 c = search codes
