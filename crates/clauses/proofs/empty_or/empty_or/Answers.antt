use Rattle.clauses.proofs.empty_or.Laws.{fresh}
use Rattle.clauses.proofs.empty_or.empty_or.Goals as goal

pub from_term-requires : goal.from_term-requires
from_term-requires c = fresh _ _ 8192
