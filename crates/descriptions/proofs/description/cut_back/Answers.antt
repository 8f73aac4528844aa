use Rattle.std.proofs.Common.{arith, ◌-◌, length}
use Rattle.descriptions.proofs.description.Laws.{filled, zeroed}
use Rattle.descriptions.proofs.description.cut_back.Goals as goal

pub returns : goal.returns
returns c = record {
  tags-are = zeroed _ _ _ _ c.min-start.ensures (filled c.min-start.result (length c.args.tags.now - c.min-start.result) c.args.tags.now _ (omega arith) (c.fill.ensures.after (λ y e. e)));
  values-are = c.zero_from.ensures;
}
