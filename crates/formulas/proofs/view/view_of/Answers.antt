use Rattle.formulas.proofs.view.Laws.{views}
use Rattle.formulas.proofs.view.view_of.Goals as goal

pub returns-then-t-body : goal.returns-then-t-body
returns-then-t-body c = search views

pub returns-then-tag-lt-TRUE : goal.returns-then-tag-lt-TRUE
returns-then-tag-lt-TRUE c = search views

pub returns-then-not-all_before : goal.returns-then-not-all_before
returns-then-not-all_before c = search views

pub returns : goal.returns
returns c = search views
