use Rattle.appearance.proofs.compute_free_vars.Laws.{reasons}
use borrow.Author.Rules.{rules}
use Rattle.appearance.proofs.compute_free_vars.show.Goals as goal

pub returns-then-state-v-eq0 : goal.returns-then-state-v-eq0
returns-then-state-v-eq0 c = search (reasons, rules)

pub returns-else-state-v-eq0 : goal.returns-else-state-v-eq0
returns-else-state-v-eq0 c = search (reasons, rules)
