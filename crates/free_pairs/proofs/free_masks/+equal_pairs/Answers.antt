use Rattle.bindings.proofs.binding.Laws.{same-variables}
use Rattle.free_pairs.proofs.free_masks.Laws.{equal-end, equal-yes, equal-no, equal-room}
use borrow.Author.Rules.{rules}
use Rattle.free_pairs.proofs.free_masks.+equal_pairs.Goals as goal

pub returns-in_default : goal.returns-in_default
returns-in_default t c = equal-end _ _ c.in_default.len_below

pub overflow_mul-result : goal.overflow_mul-result
overflow_mul-result t c = let h = equal-room c.args.list.now _ c.in-len2-up.len_at_least _ c.equal_pairs-rest.ensures c.requires in search rules

pub overflow_add-result : goal.overflow_add-result
overflow_add-result t c = let h = equal-room c.args.list.now _ c.in-len2-up.len_at_least _ c.equal_pairs-rest.ensures c.requires in search rules

pub returns-then-eq : goal.returns-then-eq
returns-then-eq t c = equal-yes _ _ c.in-len2-up.len_at_least _ c.equal_pairs-rest.ensures _ (same-variables c.args.v _ _ c.eq.ensures) c.if-eq.true

pub overflow_mul-result-2 : goal.overflow_mul-result-2
overflow_mul-result-2 t c = let h = equal-room c.args.list.now _ c.in-len2-up.len_at_least _ c.equal_pairs-rest.ensures c.requires in search rules

pub returns : goal.returns
returns t c = equal-no _ _ c.in-len2-up.len_at_least _ c.equal_pairs-rest.ensures _ (same-variables c.args.v _ _ c.eq.ensures) c.if-eq.false
