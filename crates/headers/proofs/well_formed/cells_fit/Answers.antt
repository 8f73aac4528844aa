use mathlib.Core.Path.{refl}
use borrow.Author.Tests.{tests}
use Rattle.std.proofs.Common.{rules}
use Rattle.std.proofs.lemmas.Iterator.{YieldsList-from_range}
use Rattle.std.proofs.lemmas.Iterator.Search.{all_from_yields_List}
use Rattle.cells.specs.Bounded.{every}
use Rattle.headers.proofs.well_formed.Laws.{every_in-all}
use Rattle.headers.proofs.well_formed.cells_fit.Goals as goal

pub returns : goal.returns
unfolding every
returns c = rw every_in-all
    (all_from_yields_List _ _ _ _ c.all.ensures.ran (YieldsList-from_range 0 c.args.k _ (cc) refl) (λ x b q h. search (rules, tests)))
