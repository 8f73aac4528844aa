use Rattle.bindings.proofs.outer_pairs.Laws.{buckets}
use Rattle.bindings.proofs.outer_pairs.bucket.Goals as goal

pub returns : goal.returns
returns c = search buckets
