use mathlib.Core.Path.{refl}
use Rattle.bindings.proofs.outer_pairs.Laws.{use-not, use-inside, use-left}
use Rattle.bindings.proofs.outer_pairs.use_pair.Goals as goal

pub returns-in_default : goal.returns-in_default
returns-in_default c = use-not _ c.requires _ _ c.find.ensures c.in_default.is

pub bounds-prepared-k : goal.bounds-prepared-k
bounds-prepared-k c = use-inside _ c.requires _ _ c.find.ensures _ c.in-Some.is

pub returns : goal.returns
returns c = use-left _ c.requires _ _ c.find.ensures _ c.in-Some.is _ refl
