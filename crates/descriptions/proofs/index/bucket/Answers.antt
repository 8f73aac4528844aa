use Rattle.descriptions.proofs.index.Laws.{hashes}
use Rattle.descriptions.proofs.index.bucket.Goals as goal

pub loop-x-init : goal.loop-x-init
loop-x-init c = search hashes

pub loop-x-preserved : goal.loop-x-preserved
loop-x-preserved c = search hashes

pub returns : goal.returns
returns c = search hashes
