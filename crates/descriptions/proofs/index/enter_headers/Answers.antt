use Rattle.std.proofs.Common.{arith}
use Rattle.descriptions.proofs.index.Walked.{entered-start, entered-end, entered-has, entered-small, entered-next}
use Rattle.descriptions.proofs.index.enter_headers.Goals as goal

pub loop-p-init : goal.loop-p-init
loop-p-init c = entered-start _ _ _ c.requires _ c.args.index.now _ (omega arith) c.zero_from.ensures (rw c.into_iter-p-iterator.ensures.into_iter_gives c.header_places-p-items.ensures.left)

pub enter_header-requires : goal.enter_header-requires
enter_header-requires c = record {
  index = entered-has _ _ _ c.requires _ _ c.loop-p.invariant _ _ c.in-Some.ensures.steps;
  p_lt_cell_limit = entered-small _ _ _ c.requires _ _ c.loop-p.invariant _ _ c.in-Some.ensures.steps;
}

pub loop-p-preserved : goal.loop-p-preserved
loop-p-preserved c = entered-next _ _ _ c.requires _ _ c.loop-p.invariant _ _ c.in-Some.ensures.steps _ c.enter_header.ensures.index_2

pub returns : goal.returns
returns c = entered-end _ _ _ c.requires _ _ c.loop-p.invariant c.in-None.ensures.steps.0
