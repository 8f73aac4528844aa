-- Under the built-in table, which loads, the pool check is 30 and then 14, 15 and 16, as document 01 has it; so is every call that begins
-- with it.
--     built-in-check     the pool check
-- Assumes nothing.
use Prim.Native.Nat.{ℕ}
use mathlib.Core.Path.{◌≡◌}
use mathlib.Core.Bool.{cond}
use mathlib.Core.List.{List}
use Rattle.answers.specs.Answer.{bad_arrays}
use Rattle.sort_table.specs.Table.{built_in}
use Rattle.sort_table.specs.TableCases.{built-in-loads}
use Rattle.pool.specs.Check.{arrays_fit, check_cells, and_then, check_pool}

pub built-in-check : (tags values : List ℕ) (n : ℕ) → check_pool tags values built_in n ≡ cond (arrays_fit tags values n) (check_cells tags values built_in n) bad_arrays
unfolding check_pool and_then
built-in-check tags values n = rw built-in-loads
