use Rattle.sorts.proofs.list_sorts.Laws.{products}
use Rattle.sorts.proofs.list_sorts.product.Goals as goal

pub returns-then-os-lt2 : goal.returns-then-os-lt2
returns-then-os-lt2 c = search products

pub returns-then-not-is_relation : goal.returns-then-not-is_relation
returns-then-not-is_relation c = search products

pub returns-then-not-is_relation-2 : goal.returns-then-not-is_relation-2
returns-then-not-is_relation-2 c = search products

pub returns : goal.returns
returns c = search products
