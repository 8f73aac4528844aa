use borrow.Author.Tests.{tests}
use Rattle.std.proofs.Common.{rules}
use Rattle.std.proofs.lemmas.Iterator.{YieldsList-from_slice}
use Rattle.std.proofs.lemmas.Iterator.Search.{any_from_yields_List}
use Rattle.sorts.proofs.special_sorts.Laws.{any_real-any}
use Rattle.sorts.proofs.special_sorts.any_real.Goals as goal

pub returns : goal.returns
returns c =
    rw any_real-any
    (any_from_yields_List _ _ _ _ c.any.ensures.ran (YieldsList-from_slice c.args.os.now (cc)) (λ x b q h. search (rules, tests)))
