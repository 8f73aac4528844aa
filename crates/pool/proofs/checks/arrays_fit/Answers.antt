use Rattle.pool.proofs.checks.Laws.{fits}
use Rattle.pool.proofs.checks.arrays_fit.Goals as goal

pub returns-then-pool : goal.returns-then-pool
returns-then-pool c = search fits

pub returns-then-pool-n : goal.returns-then-pool-n
returns-then-pool-n c = search fits

pub returns : goal.returns
returns c = search fits
