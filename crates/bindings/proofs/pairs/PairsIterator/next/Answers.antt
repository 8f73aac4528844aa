use Rattle.std.proofs.Common.{rules, ap, length}
use Rattle.bindings.proofs.binding.Laws.{pairs_none, pairs_one}
use Rattle.bindings.proofs.pairs.PairsIterator.next.Goals as goal

pub returns-in_default-clause-steps : goal.returns-in_default-clause-steps
returns-in_default-clause-steps c = (pairs_none _ c.in_default.len_below, pairs_none _ c.in_default.len_below)

pub returns-clause-steps : goal.returns-clause-steps
returns-clause-steps c = pairs_one _ c.in-len2-up.len_at_least

pub returns-clause-goes : goal.returns-clause-goes
returns-clause-goes c = let shorter = ap length (pairs_one _ c.in-len2-up.len_at_least) in search rules
