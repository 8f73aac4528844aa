use Rattle.sorts.proofs.compute_sort.Laws.{by-rules}
use Rattle.sorts.proofs.compute_sort.by_rule.Goals as goal

pub returns-then-rule-lt5 : goal.returns-then-rule-lt5
returns-then-rule-lt5 c = search by-rules

pub returns-then-rule-eq5 : goal.returns-then-rule-eq5
returns-then-rule-eq5 c = search by-rules

pub returns-then-os-eq0 : goal.returns-then-os-eq0
returns-then-os-eq0 c = search by-rules

pub returns-then-rule-eq6 : goal.returns-then-rule-eq6
returns-then-rule-eq6 c = search by-rules

pub returns : goal.returns
returns c = search by-rules
