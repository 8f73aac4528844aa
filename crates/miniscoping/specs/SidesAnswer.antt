-- What the answers of `sides` say.
-- Rests on cells' Cell, on bindings' Binding, on formulas' Formula and PatternAnswer, on MiniscopeDistribute, and on the struct `Places`.
use Rattle.std.specs.Prelude.{Option, Some, None, ℕ, List}
use Rattle.cells.specs.Cell.{operands_of}
use Rattle.bindings.specs.Binding.{bindings_of}
use Rattle.formulas.specs.Formula.{is_forall}
use Rattle.formulas.specs.PatternAnswer.{pairs_of}
use Rattle.miniscoping.specs.MiniscopeDistribute.{Sides}
use Rattle.miniscoping.specs.declared.sides.Places.{Places}

-- the sides at these places
unfoldable pub sides_at : List ℕ → List ℕ → Places → Sides
sides_at tags values p = record {
  kind = is_forall p.kind;
  left = p.left.0;
  right = p.right.0;
  list = bindings_of (pairs_of tags values p.left.0);
  from = operands_of tags values p.body.0;
  to = operands_of tags values p.right.0;
}

unfoldable pub sides_in : List ℕ → List ℕ → Option Places → Option Sides
sides_in tags values (Some p) = Some (sides_at tags values p)
sides_in tags values None = None
