use borrow.Author.Tests.{tests}
use Rattle.std.proofs.Common.{rules}
use Rattle.std.proofs.lemmas.Iterator.{YieldsList-from_slice}
use Rattle.std.proofs.lemmas.Iterator.Search.{all_from_yields_List}
use Rattle.formulas.proofs.view.Laws.{all_before-all}
use Rattle.formulas.proofs.view.all_before.Goals as goal

pub returns : goal.returns
returns c = rw all_before-all (all_from_yields_List _ _ _ _ c.all.ensures.ran (YieldsList-from_slice c.args.os.now (cc)) (λ x b q h. search (rules, tests)))
