-- The sort that a rule gives whose sort is made of a list of sorts.
-- 01, "Sorts and free variables": "`compute_sort` is the reference."
-- Rests on cells' Cell, and on SortRule and the enum `ListRule`.
use Rattle.std.specs.Prelude.{ℕ, List, map}
use Rattle.cells.specs.Cell.{sort_of}
use Rattle.sorts.specs.SortRule.{Computed, made, transpose, join, product, application, lambda}
use Rattle.sorts.specs.declared.list_sorts.ListRule.{ListRule}
use Rattle.sorts.specs.declared.list_sorts.ListRule.TheVariants.{Tuple, Lambda, Application, Transpose, Join, Product}

unfoldable pub by_list : List ℕ → List ℕ → ListRule → List ℕ → Computed
by_list tags values Tuple os = made 13 (map (sort_of values) os)
by_list tags values Lambda os = lambda values os
by_list tags values Application os = application tags values os
by_list tags values Transpose os = transpose tags values os
by_list tags values Join os = join tags values os
by_list tags values Product os = product tags values os
