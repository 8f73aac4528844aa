use mathlib.Core.Path.{sym, ◌∙◌}
use Rattle.bindings.proofs.binding.Laws.{first-end, pairs_none}
use Rattle.free_pairs.proofs.free_lists.Laws.{group-here, group-next, group-fits, skip-next}
use Rattle.free_pairs.proofs.free_lists.first_missing_by.Goals as goal

pub returns-then-is_some : goal.returns-then-is_some
returns-then-is_some c = group-here _ _ _ c.loop-rest.invariant _ c.first_in_group-found.ensures (sym c.is_some.ensures ∙ c.if-is_some.true)

pub split_at-requires : goal.split_at-requires
split_at-requires c = (group-fits _ _ c.in-len2-up.len_at_least c.group.ensures).0

pub loop-rest-preserved-then-may_be_missing : goal.loop-rest-preserved-then-may_be_missing
loop-rest-preserved-then-may_be_missing c = rw c.split_at.ensures.back (group-next _ _ _ c.loop-rest.invariant _ c.first_in_group-found.ensures (sym c.is_some.ensures ∙ c.if-is_some.false) _ c.group.ensures)

pub loop-rest-preserved : goal.loop-rest-preserved
loop-rest-preserved c = skip-next _ _ _ _ _ c.requires _ _ c.loop-rest.rest.now c.loop-rest.invariant c.in-len2-up.len_at_least _ c.may_be_missing.ensures c.if-may_be_missing.false

pub returns : goal.returns
returns c = first-end _ _ _ c.loop-rest.invariant (pairs_none _ c.in_default.len_below)
