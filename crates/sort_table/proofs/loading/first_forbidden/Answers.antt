use mathlib.Core.Path.{refl}
use borrow.Author.Tests.{tests}
use Rattle.std.proofs.Common.{rules}
use Rattle.std.proofs.lemmas.Iterator.{YieldsList-from_range}
use Rattle.std.proofs.lemmas.Iterator.Search.{find_from_yields_List}
use Rattle.sort_table.specs.TableAnswer.{entry_count, forbids}
use Rattle.sort_table.proofs.loading.Laws.{first-is, forbids-is}
use Rattle.sort_table.proofs.loading.first_forbidden.Goals as goal

pub returns : goal.returns
returns c =
    first-is _ _ _
    (find_from_yields_List (forbids c.args.entries.now) c.find.new.self _ _ c.find.ensures.ran (YieldsList-from_range 0 entry_count _ (cc) refl) (λ x b q h. search (rules, tests, forbids-is)))
