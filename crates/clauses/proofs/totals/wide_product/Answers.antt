use Rattle.clauses.proofs.totals.Laws.{product-fits}
use borrow.Author.Rules.{rules}
use Rattle.clauses.proofs.totals.wide_product.Goals as goal

pub overflow_mul-result : goal.overflow_mul-result
overflow_mul-result c = record { fits = product-fits _ _ (search rules) (search rules) }
