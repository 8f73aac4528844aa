use Rattle.free_pairs.proofs.free_masks.Laws.{unbound, unbound-room}
use borrow.Author.Rules.{rules}
use Rattle.free_pairs.proofs.free_masks.+unbound_pairs.Goals as goal

pub returns-in_default : goal.returns-in_default
returns-in_default t c = search unbound

pub overflow_mul-result : goal.overflow_mul-result
overflow_mul-result t c = let h = unbound-room _ _ _ c.args.list.now c.args.mask c.in-len2-up.len_at_least _ c.unbound_pairs-rest.ensures in search rules

pub returns-then-mask-eq0 : goal.returns-then-mask-eq0
returns-then-mask-eq0 t c = search unbound

pub overflow_mul-result-then-has_pair : goal.overflow_mul-result-then-has_pair
overflow_mul-result-then-has_pair t c = let h = unbound-room _ _ _ c.args.list.now c.args.mask c.in-len2-up.len_at_least _ c.unbound_pairs-rest.ensures in search rules

pub returns-then-has_pair : goal.returns-then-has_pair
returns-then-has_pair t c = search unbound

pub overflow_mul-result-2 : goal.overflow_mul-result-2
overflow_mul-result-2 t c = let h = unbound-room _ _ _ c.args.list.now c.args.mask c.in-len2-up.len_at_least _ c.unbound_pairs-rest.ensures in search rules

pub overflow_add-result : goal.overflow_add-result
overflow_add-result t c = let h = unbound-room _ _ _ c.args.list.now c.args.mask c.in-len2-up.len_at_least _ c.unbound_pairs-rest.ensures in search rules

pub returns : goal.returns
returns t c = search unbound
