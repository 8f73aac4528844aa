use Rattle.descriptions.proofs.description.Laws.{headers}
use Rattle.descriptions.proofs.adding.put.Goals as goal

pub returns : goal.returns
returns c = search headers
