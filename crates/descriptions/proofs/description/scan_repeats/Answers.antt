use borrow.Author.Tests.{tests}
use Rattle.std.proofs.Common.{rules}
use Rattle.std.proofs.lemmas.Iterator.Consumers.{YieldsList-from_first}
use Rattle.std.proofs.lemmas.Iterator.Search.{find_from_yields_List}
use Rattle.cells.specs.HeadersLeft.{headers_left}
use Rattle.cells.proofs.HeaderLists.{header-found}
use Rattle.descriptions.specs.Description.{repeats, first_repeat}
use Rattle.descriptions.proofs.description.scan_repeats.Goals as goal

pub returns : goal.returns
unfolding first_repeat
returns c =
    header-found _ _ (repeats c.args.pool.now.tags.now c.args.pool.now.values.now) _
    (find_from_yields_List _ c.find.new.self _ _ c.find.ensures.ran (YieldsList-from_first (λ p. p) headers_left _ c.header_places.ensures.left) (λ p b q h. search (rules, tests)))
