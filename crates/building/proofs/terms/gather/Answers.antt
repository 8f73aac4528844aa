use Rattle.building.proofs.terms.Cells.{gatherings}
use Rattle.building.proofs.terms.gather.Goals as goal

pub loop-u-init : goal.loop-u-init
loop-u-init c = search gatherings

pub loop-u-preserved : goal.loop-u-preserved
loop-u-preserved c = search gatherings

pub returns : goal.returns
returns c = search gatherings
