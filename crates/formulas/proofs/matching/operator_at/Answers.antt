use Rattle.formulas.proofs.matching.Laws.{other-tag, other-count, all-operands}
use Rattle.formulas.proofs.matching.operator_at.Goals as goal

pub returns-then-tag_at-tag : goal.returns-then-tag_at-tag
returns-then-tag_at-tag g c = other-tag _ _ _ _ _ _ c.tag_at.ensures c.if-tag_at-tag.true

pub returns-then-run : goal.returns-then-run
returns-then-run g c = other-count _ _ _ _ _ _ c.tag_at.ensures c.if-tag_at-tag.false _ c.operands-run.ensures c.if-run.true

pub returns : goal.returns
returns g c = all-operands _ _ _ _ _ _ c.tag_at.ensures c.if-tag_at-tag.false _ c.operands-run.ensures c.if-run.false _ c.first_chunk.ensures.cases
