use Rattle.sorts.proofs.list_sorts.Laws.{applications}
use Rattle.sorts.proofs.list_sorts.application.Goals as goal

pub returns-then-os-eq0 : goal.returns-then-os-eq0
returns-then-os-eq0 c = search applications

pub returns-then-tag_at-ne-FUNCTION : goal.returns-then-tag_at-ne-FUNCTION
returns-then-tag_at-ne-FUNCTION c = search applications

pub returns : goal.returns
returns c = search applications
