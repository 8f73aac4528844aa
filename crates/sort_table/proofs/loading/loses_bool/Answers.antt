use Rattle.sort_table.proofs.loading.Laws.{connectives}
use Rattle.sort_table.proofs.loading.loses_bool.Goals as goal

pub returns-then-rule-eq0 : goal.returns-then-rule-eq0
returns-then-rule-eq0 c = search connectives

pub returns-then-i-lt-NOT : goal.returns-then-i-lt-NOT
returns-then-i-lt-NOT c = search connectives

pub returns-then-i-le-OR : goal.returns-then-i-le-OR
returns-then-i-le-OR c = search connectives

pub returns : goal.returns
returns c = search connectives
