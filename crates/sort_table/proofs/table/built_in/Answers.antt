use mathlib.Core.Path.{refl}
use Rattle.sort_table.specs.Table.{built_in}
use Rattle.sort_table.proofs.table.built_in.Goals as goal

pub returns : goal.returns
unfolding built_in
returns c = refl
