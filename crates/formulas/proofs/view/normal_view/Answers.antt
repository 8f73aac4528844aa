use Rattle.formulas.proofs.view.Laws.{normal-views}
use Rattle.formulas.proofs.view.normal_view.Goals as goal

pub returns-then-x-body : goal.returns-then-x-body
returns-then-x-body c = search normal-views

pub returns-then-tag-eq-FORALL : goal.returns-then-tag-eq-FORALL
returns-then-tag-eq-FORALL c = search normal-views

pub returns-then-not-all_before : goal.returns-then-not-all_before
returns-then-not-all_before c = search normal-views

pub returns-then-tag-eq-AND : goal.returns-then-tag-eq-AND
returns-then-tag-eq-AND c = search normal-views

pub returns-then-tag-eq-OR : goal.returns-then-tag-eq-OR
returns-then-tag-eq-OR c = search normal-views

pub returns : goal.returns
returns c = search normal-views
