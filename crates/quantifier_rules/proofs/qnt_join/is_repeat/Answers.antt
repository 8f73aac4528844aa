use Rattle.bindings.proofs.binding.Laws.{same-variables}
use Rattle.quantifier_rules.proofs.qnt_join.Joining.{repeat-first, repeat-before}
use Rattle.quantifier_rules.proofs.qnt_join.is_repeat.Goals as goal

pub returns-then-j-lt2 : goal.returns-then-j-lt2
returns-then-j-lt2 c = repeat-first _ _ _ c.if-j-lt2.true

pub returns : goal.returns
returns c = repeat-before _ _ _ c.if-j-lt2.false _ _ c.cell.ensures c.cell-2.ensures _ (same-variables (record { name = c.cell.result; sort = record { 0 = c.cell-2.result } }) _ _ c.eq.ensures)
