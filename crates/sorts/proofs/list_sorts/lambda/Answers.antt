use Rattle.sorts.proofs.list_sorts.Laws.{lambdas}
use Rattle.sorts.proofs.list_sorts.lambda.Goals as goal

pub returns-then-tag_at-ne-FUNCTION : goal.returns-then-tag_at-ne-FUNCTION
returns-then-tag_at-ne-FUNCTION c = search lambdas

pub returns-in_default : goal.returns-in_default
returns-in_default c = search lambdas

pub returns-then-last-sort_of : goal.returns-then-last-sort_of
returns-then-last-sort_of c = search lambdas

pub returns : goal.returns
returns c = search lambdas
