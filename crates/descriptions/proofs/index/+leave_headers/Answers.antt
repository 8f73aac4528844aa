use borrow.Author.Rules.{rules}
use Rattle.descriptions.proofs.index.Forgetting.{forgets}
use Rattle.descriptions.proofs.index.+leave_headers.Goals as goal

pub returns-then-m-p : goal.returns-then-m-p
returns-then-m-p t c = search (forgets, rules)

pub tag_at-requires : goal.tag_at-requires
tag_at-requires t c = search (forgets, rules)

pub cells-requires : goal.cells-requires
cells-requires t c = search (forgets, rules)

pub bucket-b-requires : goal.bucket-b-requires
bucket-b-requires t c = search (forgets, rules)

pub cell-k-requires : goal.cell-k-requires
cell-k-requires t c = search (forgets, rules)

pub overflow_cast-k : goal.overflow_cast-k
overflow_cast-k t c = search (forgets, rules)

pub overflow_add-p : goal.overflow_add-p
overflow_add-p t c = search (forgets, rules)

pub overflow_add-p-2 : goal.overflow_add-p-2
overflow_add-p-2 t c = search (forgets, rules)

pub leave_headers-requires : goal.leave_headers-requires
leave_headers-requires t c = search (forgets, rules)

pub leave-requires : goal.leave-requires
leave-requires t c = search (forgets, rules)

pub returns : goal.returns
returns t c = search (forgets, rules)
