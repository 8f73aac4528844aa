use Rattle.sorts.proofs.list_sorts.Laws.{last_rest}
use Rattle.sorts.proofs.list_sorts.but_last.Goals as goal

pub returns-in-len1-up : goal.returns-in-len1-up
returns-in-len1-up c = last_rest c.args.a.now
