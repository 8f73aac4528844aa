use borrow.Author.Rules.{rules}
use lib.ListN.{length-set}
use native.Mathlib.Omega.{arith}
use Rattle.bindings.specs.OuterPairs.{entered}
use Rattle.bindings.proofs.outer_pairs.enter.Goals as goal

pub bounds-prepared-at-2 : goal.bounds-prepared-at-2
bounds-prepared-at-2 c = simp length-set (omega arith)

pub bounds-prepared-at-3 : goal.bounds-prepared-at-3
bounds-prepared-at-3 c = simp length-set (omega arith)

pub bounds-prepared-at-4 : goal.bounds-prepared-at-4
bounds-prepared-at-4 c = simp length-set (omega arith)

pub bounds-prepared-head-2 : goal.bounds-prepared-head-2
bounds-prepared-head-2 c = simp length-set (omega arith)

pub returns : goal.returns
unfolding entered
returns c = search rules
