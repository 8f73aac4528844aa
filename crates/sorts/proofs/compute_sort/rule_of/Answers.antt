use Rattle.sorts.proofs.compute_sort.Laws.{entries}
use Rattle.sorts.proofs.compute_sort.rule_of.Goals as goal

pub returns-then-at-rules : goal.returns-then-at-rules
returns-then-at-rules c = search entries

pub returns-else-at-rules : goal.returns-else-at-rules
returns-else-at-rules c = search entries
