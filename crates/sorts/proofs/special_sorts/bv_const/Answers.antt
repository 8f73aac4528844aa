use native.Mathlib.Omega.{arith}
use Rattle.sorts.proofs.special_sorts.Laws.{consts}
use Rattle.sorts.proofs.special_sorts.bv_const.Goals as goal

pub returns-then-os-lt2 : goal.returns-then-os-lt2
returns-then-os-lt2 c = search consts

pub overflow_cast-at : goal.overflow_cast-at
overflow_cast-at c = omega (arith, c.shared_slice_known-2-1.given 1)

pub overflow_add-at : goal.overflow_add-at
overflow_add-at c = omega (arith, c.shared_slice_known-2-1.given 1)

pub returns-then-tag_at-eq-INTEGER : goal.returns-then-tag_at-eq-INTEGER
returns-then-tag_at-eq-INTEGER c = search consts

pub returns : goal.returns
returns c = search consts
