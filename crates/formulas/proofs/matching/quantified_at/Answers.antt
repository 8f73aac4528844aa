use Rattle.formulas.proofs.matching.Laws.{quantifier-forall, quantifier-exists, quantifiers}
use Rattle.formulas.proofs.matching.quantified_at.Goals as goal

pub returns-in-23 : goal.returns-in-23
returns-in-23 c = quantifier-forall _ _ _ _ c.tag_at-tag.ensures _ c.operands.ensures _ c.cell.ensures c.in-23.is

pub returns-in-24 : goal.returns-in-24
returns-in-24 c = quantifier-exists _ _ _ _ c.tag_at-tag.ensures _ c.operands.ensures _ c.cell.ensures c.in-24.is

pub returns-in_default : goal.returns-in_default
returns-in_default c = search quantifiers
