-- What rule 5 asks of its left side.
-- Rests on cells' Cell and on formulas' Pattern.
use Rattle.std.specs.Prelude.{ℕ, ◌≤◌, ◌≡◌, List, length, Some}
use Rattle.cells.specs.Cell.{operands_of}
use Rattle.formulas.specs.Pattern.{equality}

-- the left side of an equality at x has at most 8,192 operands, so that a quantifier there has at most 4,096 pairs. So it is in a pool that
-- has passed its checks: its cells are at most 8,192
pub record LeftFits (tags values : List ℕ) (x : ℕ) : Type 0 where
  pub most : (sides : ℕ × ℕ) → equality tags values x ≡ Some sides → length (operands_of tags values sides.0) ≤ 8192
