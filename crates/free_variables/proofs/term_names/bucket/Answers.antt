use Rattle.free_variables.proofs.term_names.Laws.{bucket-is}
use Rattle.free_variables.proofs.term_names.bucket.Goals as goal

pub returns : goal.returns
returns c = search bucket-is
