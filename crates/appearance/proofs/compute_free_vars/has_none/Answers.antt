use Rattle.appearance.proofs.compute_free_vars.Laws.{nones}
use borrow.Author.Rules.{rules}
use Rattle.appearance.proofs.compute_free_vars.has_none.Goals as goal

pub returns-then-tag_at-lt-APPLICATION : goal.returns-then-tag_at-lt-APPLICATION
returns-then-tag_at-lt-APPLICATION c = search (nones, rules)

pub returns-then-slot-eq0 : goal.returns-then-slot-eq0
returns-then-slot-eq0 c = search (nones, rules)

pub returns : goal.returns
returns c = search (nones, rules)
