use borrow.Author.Rules.{rules}
use native.Mathlib.Omega.{arith}
use Rattle.free_variables.proofs.free_vars.Laws.{looks, look-body, let-body}
use Rattle.free_variables.proofs.free_vars.look_at_pairs.Goals as goal
use Rattle.free_variables.proofs.free_vars.look_at_pairs.Goals.{then-pairs_bind-via-then-pairs_bind, then-pairs_bind-via-else-pairs_bind+then-t-body}

pub returns-in-SortedVar : goal.returns-in-SortedVar
returns-in-SortedVar c = elim c.then-pairs_bind.branch [ then-pairs_bind-via-then-pairs_bind w ↦ search (looks, rules) | then-pairs_bind-via-else-pairs_bind+then-t-body w ↦ search (looks, rules) ]

pub returns-in-VarBinding : goal.returns-in-VarBinding
returns-in-VarBinding c = elim c.then-pairs_bind.branch [ then-pairs_bind-via-then-pairs_bind w ↦ search (looks, rules) | then-pairs_bind-via-else-pairs_bind+then-t-body w ↦ search (looks, rules) ]

pub returns-in-SortedVar-kind : goal.returns-in-SortedVar-kind
returns-in-SortedVar-kind c = (
  omega arith,
  look-body _ _ _ _ c.requires.other _ c.tag_at.ensures (omega arith) (omega arith) _ c.operands-run.ensures _ c.pair_kind_of-kind.ensures _ c.pairs_bind.ensures
      c.in-SortedVar-kind.is c.if-pairs_bind.false _ c.cell-body.ensures c.if-t-body.false,
)

pub returns-in-VarBinding-kind : goal.returns-in-VarBinding-kind
returns-in-VarBinding-kind c = (
  omega arith,
  let-body _ _ _ _ c.requires.other _ c.tag_at.ensures (omega arith) (omega arith) _ c.operands-run.ensures _ c.pair_kind_of-kind.ensures _ c.pairs_bind.ensures
      c.in-VarBinding-kind.is c.if-pairs_bind.false _ c.cell-body.ensures c.if-t-body.false,
)
