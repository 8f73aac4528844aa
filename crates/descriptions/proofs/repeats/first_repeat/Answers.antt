use Rattle.descriptions.proofs.index.Entries.{index-start, not-indexed}
use borrow.Author.Rules.{rules}
use Rattle.descriptions.proofs.repeats.first_repeat.Goals as goal

pub returns-then-n-gt-CELLS : goal.returns-then-n-gt-CELLS
returns-then-n-gt-CELLS c = search (not-indexed, rules)

pub first_repeat-requires : goal.first_repeat-requires
first_repeat-requires c = record {
  index = index-start _ _ _ _ (search rules) c.zero_from.ensures;
  n_le_cell_limit = search rules;
}
