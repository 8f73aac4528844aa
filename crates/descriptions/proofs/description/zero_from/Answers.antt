use Rattle.std.proofs.Common.{arith, ◌-◌, length}
use Rattle.descriptions.proofs.description.Laws.{filled, zeroed}
use Rattle.descriptions.proofs.description.zero_from.Goals as goal

pub returns : goal.returns
returns c = zeroed _ _ _ _ c.min-start.ensures (filled c.min-start.result (length c.args.a.now - c.min-start.result) c.args.a.now _ (omega arith) (c.fill.ensures.after (λ y e. e)))
