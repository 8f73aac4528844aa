use mathlib.Core.Bool.{not}
use mathlib.Core.Path.{ap}
use Rattle.std.specs.Prelude.{◌<◌}
use Rattle.std.proofs.lemmas.List.Elements.{All-rest}
use Rattle.cells.proofs.HeaderLists.{first-is, that_end, that_here, that_next}
use Rattle.headers.proofs.well_formed.Laws.{is_bad}
use Rattle.headers.specs.WellFormed.{first_bad}
use Rattle.headers.proofs.well_formed.first_bad.Goals as goal

pub loop-p-init : goal.loop-p-init
unfolding first_bad
loop-p-init c = rw (c.into_iter-p-iterator.ensures.into_iter_gives) (record {
  first = rw c.header_places-p-items.ensures.left (first-is _ _ (is_bad c.args.pool.now.tags.now c.args.pool.now.values.now c.args.n));
  below = c.header_places-p-items.ensures.below;
})

pub returns-then-not-header_fits : goal.returns-then-not-header_fits
returns-then-not-header_fits c = that_here _ _ _ c.loop-p.invariant.first _ _ c.in-Some.ensures.steps _ (ap not c.header_fits.ensures) (ap not c.if-not-header_fits.true)

pub loop-p-preserved : goal.loop-p-preserved
loop-p-preserved c = record {
  first = that_next _ _ _ c.loop-p.invariant.first _ _ c.in-Some.ensures.steps _ (ap not c.header_fits.ensures) (ap not c.if-not-header_fits.false);
  below = All-rest (λ p. p < c.args.n) _ _ _ c.in-Some.ensures.steps c.loop-p.invariant.below;
}

pub returns : goal.returns
returns c = that_end _ _ _ c.loop-p.invariant.first c.in-None.ensures.steps.0
