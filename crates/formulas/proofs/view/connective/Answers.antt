use Rattle.formulas.proofs.view.Laws.{connectives}
use Rattle.formulas.proofs.view.connective.Goals as goal

pub returns-then-tag-eq-AND : goal.returns-then-tag-eq-AND
returns-then-tag-eq-AND c = search connectives

pub returns-then-tag-eq-OR : goal.returns-then-tag-eq-OR
returns-then-tag-eq-OR c = search connectives

pub returns-then-tag-eq-EQUALS : goal.returns-then-tag-eq-EQUALS
returns-then-tag-eq-EQUALS c = search connectives

pub returns-then-os-ne1 : goal.returns-then-os-ne1
returns-then-os-ne1 c = search connectives

pub returns-then-tag-eq-NOT : goal.returns-then-tag-eq-NOT
returns-then-tag-eq-NOT c = search connectives

pub returns-then-os-ne2 : goal.returns-then-os-ne2
returns-then-os-ne2 c = search connectives

pub returns-then-tag-eq-IMPLIES : goal.returns-then-tag-eq-IMPLIES
returns-then-tag-eq-IMPLIES c = search connectives

pub returns-then-os-ne3 : goal.returns-then-os-ne3
returns-then-os-ne3 c = search connectives

pub returns-then-tag-eq-ITE : goal.returns-then-tag-eq-ITE
returns-then-tag-eq-ITE c = search connectives

pub returns : goal.returns
returns c = search connectives
