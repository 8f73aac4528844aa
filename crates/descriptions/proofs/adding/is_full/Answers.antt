use Rattle.descriptions.proofs.description.Laws.{fullness}
use Rattle.descriptions.proofs.adding.is_full.Goals as goal

pub returns-then-k-gt4294967295 : goal.returns-then-k-gt4294967295
returns-then-k-gt4294967295 c = search fullness

pub returns-then-pool-n : goal.returns-then-pool-n
returns-then-pool-n c = search fullness

pub returns-then-pool-n-2 : goal.returns-then-pool-n-2
returns-then-pool-n-2 c = search fullness

pub returns-then-pool-n-3 : goal.returns-then-pool-n-3
returns-then-pool-n-3 c = search fullness

pub returns : goal.returns
returns c = search fullness
