use Rattle.descriptions.proofs.index.Adding.{adds, below-limit}
use Rattle.descriptions.proofs.description.Laws.{has_room}
use borrow.Author.Rules.{rules}
use Rattle.descriptions.proofs.index.IndexedPool.add.Goals as goal

pub returns-in-Some-clause-added_is : goal.returns-in-Some-clause-added_is
returns-in-Some-clause-added_is c = search (adds, rules)

pub returns-then-is_full-clause-added_is : goal.returns-then-is_full-clause-added_is
returns-then-is_full-clause-added_is c = search (adds, rules)

pub put-self-requires : goal.put-self-requires
put-self-requires c = has_room _ _ _ _ _ _ c.is_full.ensures c.if-is_full.false

pub enter-requires-clause-p_lt_cell_limit : goal.enter-requires-clause-p_lt_cell_limit
enter-requires-clause-p_lt_cell_limit c = below-limit _ _ _ _ _ c.is_full.ensures c.if-is_full.false

pub returns-clause-added_is : goal.returns-clause-added_is
returns-clause-added_is c = search (adds, rules)

pub returns-clause-has_index : goal.returns-clause-has_index
returns-clause-has_index c = search (adds, rules)
