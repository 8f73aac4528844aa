use Rattle.free_pairs.proofs.free_masks.Laws.{variable}
use Rattle.free_pairs.proofs.free_masks.variable_mask.Goals as goal

pub returns-then-mask-eq0 : goal.returns-then-mask-eq0
returns-then-mask-eq0 c = search variable

pub returns-in_default : goal.returns-in_default
returns-in_default c = search variable

pub returns-then-v-t : goal.returns-then-v-t
returns-then-v-t c = search variable

pub returns : goal.returns
returns c = search variable
