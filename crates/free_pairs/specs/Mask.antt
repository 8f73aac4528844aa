-- Masks: which of a list's pairs pass a test, as a number. Bit i, the lowest first, is set where pair i passes.
-- Rests on bindings' Binding, and on free_variables' Free, FreeMemo and the enum `PairKind`.
use Rattle.std.specs.Prelude.{ℕ, ◌+◌, ◌*◌, ◌/◌, ◌%◌, Bool, cond, List, [], ◌∷◌, drop}
use Rattle.free_variables.specs.Free.{pair_in}
use Rattle.free_variables.specs.FreeMemo.{pair_sort}
use Rattle.free_variables.specs.declared.pair_kind.PairKind.{PairKind}
use Rattle.bindings.specs.Binding.{Binding}

-- the pairs that pass a test
unfoldable pub mask_of : (Binding → Bool) → List Binding → ℕ
mask_of test [] = 0
mask_of test (a ∷ rest) = mask_of test rest * 2 + cond (test a) 1 0

-- a mask without the pairs that pass a test
unfoldable pub without : (Binding → Bool) → List Binding → ℕ → ℕ
without test [] m = 0
without test (a ∷ rest) m = without test rest (m / 2) * 2 + cond (test a) 0 (m % 2)

-- the pairs of a run, after its body, bind the pair a
unfoldable pub bound_in : List ℕ → PairKind → List ℕ → Binding → Bool
bound_in values kind run a = pair_in (pair_sort values kind) a.name a.sort (drop 1 run)
