use Rattle.formulas.proofs.view.Laws.{quantifiers}
use Rattle.formulas.proofs.view.quantifier.Goals as goal

pub returns-in-23 : goal.returns-in-23
returns-in-23 c = search quantifiers

pub returns-in-24 : goal.returns-in-24
returns-in-24 c = search quantifiers

pub returns-in_default : goal.returns-in_default
returns-in_default c = search quantifiers
