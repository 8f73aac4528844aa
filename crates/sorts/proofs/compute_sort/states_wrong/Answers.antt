use Rattle.sorts.proofs.compute_sort.Laws.{wrong}
use Rattle.sorts.proofs.compute_sort.states_wrong.Goals as goal

pub returns-then-tag_at-lt-INTEGER : goal.returns-then-tag_at-lt-INTEGER
returns-then-tag_at-lt-INTEGER c = search wrong

pub returns : goal.returns
returns c = search wrong
