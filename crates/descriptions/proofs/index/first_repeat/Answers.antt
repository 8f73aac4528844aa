use Rattle.std.proofs.Common.{arith, ◌<◌}
use Rattle.descriptions.proofs.index.Entries.{walking-start, walking-end, walking-whole, walking-below, walking-has, walking-here, walking-none, walking-next}
use Rattle.descriptions.proofs.index.first_repeat.Goals as goal

pub loop-p-init : goal.loop-p-init
loop-p-init c = walking-start _ _ _ _ _ c.requires.index (rw c.into_iter-p-iterator.ensures.into_iter_gives c.header_places-p-items.ensures.left)

pub enter_header-requires : goal.enter_header-requires
enter_header-requires c =
    let h : c.in-Some.p < c.args.n = walking-below _ _ _ _ _ c.loop-p.invariant _ _ c.in-Some.ensures.steps in
    record { index = walking-has _ _ _ _ _ c.loop-p.invariant _ _ c.in-Some.ensures.steps; p_lt_cell_limit = omega arith }

pub returns-then-enter_header : goal.returns-then-enter_header
returns-then-enter_header c = record {
  value = walking-here _ _ _ _ _ c.loop-p.invariant _ _ c.in-Some.ensures.steps _ c.enter_header.ensures.value c.if-enter_header.true;
  indexes = walking-none _ _ _ _ _ c.loop-p.invariant _ _ c.in-Some.ensures.steps _ c.enter_header.ensures.value c.if-enter_header.true _;
}

pub loop-p-preserved : goal.loop-p-preserved
loop-p-preserved c = walking-next _ _ _ _ _ c.loop-p.invariant _ _ c.in-Some.ensures.steps _ c.enter_header.ensures.value c.if-enter_header.false _ c.enter_header.ensures.index_2

pub returns : goal.returns
returns c = record {
  value = walking-end _ _ _ _ _ c.loop-p.invariant c.in-None.ensures.steps.0;
  indexes = walking-whole _ _ _ _ _ c.loop-p.invariant c.in-None.ensures.steps.0;
}
