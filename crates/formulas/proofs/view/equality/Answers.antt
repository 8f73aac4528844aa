use Rattle.formulas.proofs.view.Laws.{equalities}
use Rattle.formulas.proofs.view.equality.Goals as goal

pub returns-then-os-ne2 : goal.returns-then-os-ne2
returns-then-os-ne2 c = search equalities

pub returns-then-sort-ne0 : goal.returns-then-sort-ne0
returns-then-sort-ne0 c = search equalities

pub returns : goal.returns
returns c = search equalities
