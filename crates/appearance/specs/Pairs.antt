-- The variable that a pair of a binding list binds, by the index of a pool's descriptions; and what of a checked pool its pairs rest on.
-- Rests on cells' Cell and Limits, on descriptions' Index, and on free_variables' FreeMemo and the enum `PairKind`.
use Rattle.std.specs.Prelude.{Option, Some, None, ℕ, ◌+◌, ◌≤◌, ◌<◌, ◌≡◌, Bool, false, cond, List, [], ◌∷◌, length, get_or, eqb}
use Rattle.cells.specs.Cell.{sort_of, operands_of}
use Rattle.cells.specs.Limits.{cell_limit}
use Rattle.descriptions.specs.Index.{look_up, PointsBack}
use Rattle.free_variables.specs.declared.pair_kind.PairKind.{PairKind}
use Rattle.free_variables.specs.FreeMemo.{pair_sort}

-- the place of the variable with this name and sort
unfoldable pub place_of : List ℕ → List ℕ → List ℕ → ℕ → ℕ → Option ℕ
place_of tags values index name sort = look_up tags values index 21 (sort ∷ name ∷ [])

-- the place of the variable that the pair a, b binds
unfoldable pub variable_of : List ℕ → List ℕ → List ℕ → PairKind → ℕ → ℕ → Option ℕ
variable_of tags values index kind a b = place_of tags values index a (pair_sort values kind b)

-- the variable that the pair binds is the one at v
abbrev pub is_place : Option ℕ → ℕ → Bool
is_place (Some u) v = eqb u v
is_place None v = false

-- how many of a list of pairs bind the variable at v
unfoldable pub binders_of : List ℕ → List ℕ → List ℕ → PairKind → List ℕ → ℕ → ℕ
binders_of tags values index kind [] v = 0
binders_of tags values index kind (a ∷ []) v = 0
binders_of tags values index kind (a ∷ (b ∷ rest)) v =
    cond (is_place (variable_of tags values index kind a b) v) 1 0 + binders_of tags values index kind rest v

-- what of a pool that has passed its checks the walks rest on: every variable is found at its place, and runs are short
pub record IndexedVariables (tags values : List ℕ) (n : ℕ) (index : List ℕ) : Type 0 where
  pub small : n ≤ cell_limit
  pub back : PointsBack index
  pub found : (name sort v : ℕ) → place_of tags values index name sort ≡ Some v
      → (v < n) × ((get_or tags v 0 ≡ 21) × ((get_or values (v + 2) 0 ≡ name) × (sort_of values v ≡ sort)))
  pub once : (v : ℕ) → v < n → get_or tags v 0 ≡ 21 → place_of tags values index (get_or values (v + 2) 0) (sort_of values v) ≡ Some v
  pub short : (t : ℕ) → t < n → length (operands_of tags values t) ≤ cell_limit
