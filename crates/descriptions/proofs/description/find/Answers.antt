use borrow.Author.Tests.{tests}
use Rattle.std.proofs.Common.{rules}
use Rattle.std.proofs.lemmas.Iterator.Consumers.{YieldsList-from_first}
use Rattle.std.proofs.lemmas.Iterator.Search.{find_from_yields_List}
use Rattle.cells.specs.Cell.{is_at}
use Rattle.cells.specs.HeadersLeft.{headers_left}
use Rattle.cells.proofs.HeaderLists.{header-found}
use Rattle.descriptions.specs.Description.{find}
use Rattle.descriptions.proofs.description.find.Goals as goal

pub returns : goal.returns
unfolding find
returns c =
    header-found _ _ (λ q. is_at c.args.pool.now.tags.now c.args.pool.now.values.now q c.args.tag c.args.cells.now) _
    (find_from_yields_List _ c.find.new.self _ _ c.find.ensures.ran (YieldsList-from_first (λ p. p) headers_left _ c.header_places.ensures.left) (λ p b q h. search (rules, tests)))
