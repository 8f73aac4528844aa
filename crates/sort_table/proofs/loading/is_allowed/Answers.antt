use Rattle.sort_table.proofs.loading.Laws.{allowed}
use Rattle.sort_table.proofs.loading.is_allowed.Goals as goal

pub returns-then-rule-lt-SPECIAL : goal.returns-then-rule-lt-SPECIAL
returns-then-rule-lt-SPECIAL c = search allowed

pub returns-then-rule-ne-SPECIAL : goal.returns-then-rule-ne-SPECIAL
returns-then-rule-ne-SPECIAL c = search allowed

pub returns : goal.returns
returns c = search allowed
