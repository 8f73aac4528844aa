use mathlib.Core.Path.{◌≡◌}
use mathlib.Core.Bool.{not, ◌&&◌}
use lib.ListN.{get_or}
use Rattle.std.specs.List.{find}
use Rattle.std.specs.Prelude.{◌<◌, All}
use Rattle.cells.specs.HeadersLeft.{headers_left}
use Rattle.headers.specs.WellFormed.{is_term_tag}
use Rattle.sorts.specs.SortRule.{states_sort, first_wrong_sort}
use Rattle.sorts.proofs.compute_sort.first_wrong_sort.Given as goal

-- no header that the walk has passed is a term that states the wrong sort
abbrev pub invariant-loop-p : goal.invariant-loop-p
invariant-loop-p l = record {
  first : first_wrong_sort l.pool.tags.now l.pool.values.now l.rules l.n ≡ find (λ t. is_term_tag (get_or l.pool.tags.now t 0) && not (states_sort l.pool.tags.now l.pool.values.now l.rules t)) (headers_left l.p-iterator);
  below : All (λ p. p < l.n) (headers_left l.p-iterator);
}
