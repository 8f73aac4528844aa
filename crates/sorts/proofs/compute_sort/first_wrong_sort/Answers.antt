use mathlib.Core.Bool.{not, ◌&&◌}
use lib.ListN.{get_or}
use Rattle.std.specs.Prelude.{◌<◌}
use Rattle.std.proofs.lemmas.List.Elements.{All-rest}
use Rattle.cells.proofs.HeaderLists.{first-is, that_end, that_here, that_next}
use Rattle.headers.specs.WellFormed.{is_term_tag}
use Rattle.sorts.specs.SortRule.{states_sort, first_wrong_sort}
use Rattle.sorts.proofs.compute_sort.first_wrong_sort.Goals as goal

pub loop-p-init : goal.loop-p-init
unfolding first_wrong_sort
loop-p-init c = rw (c.into_iter-p-iterator.ensures.into_iter_gives) (record {
  first = rw c.header_places-p-items.ensures.left (first-is _ _ (λ t. is_term_tag (get_or c.args.pool.now.tags.now t 0) && not (states_sort c.args.pool.now.tags.now c.args.pool.now.values.now c.args.rules.now t)));
  below = c.header_places-p-items.ensures.below;
})

pub returns-then-states_wrong : goal.returns-then-states_wrong
returns-then-states_wrong c = that_here _ _ _ c.loop-p.invariant.first _ _ c.in-Some.ensures.steps _ c.states_wrong.ensures c.if-states_wrong.true

pub loop-p-preserved : goal.loop-p-preserved
loop-p-preserved c = record {
  first = that_next _ _ _ c.loop-p.invariant.first _ _ c.in-Some.ensures.steps _ c.states_wrong.ensures c.if-states_wrong.false;
  below = All-rest (λ p. p < c.args.n) _ _ _ c.in-Some.ensures.steps c.loop-p.invariant.below;
}

pub returns : goal.returns
returns c = that_end _ _ _ c.loop-p.invariant.first c.in-None.ensures.steps.0
