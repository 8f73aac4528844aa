use Rattle.clausification.proofs.taken_search.Laws.{fresh, whole}
use Rattle.clausification.proofs.taken_search.first_taken.Goals as goal

pub from_term-requires : goal.from_term-requires
from_term-requires c = fresh _ _ _ 8192

pub returns : goal.returns
returns c = search whole
