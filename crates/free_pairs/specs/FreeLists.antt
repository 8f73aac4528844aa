-- Pairs that a list lacks, free in a term; and the first of them by a mask.
-- Rests on bindings' Binding and on BindingFree.
use Rattle.std.specs.Prelude.{ℕ, ◌/◌, ◌%◌, Bool, not, ◌&&◌, cond, List, [], ◌∷◌, eqb, Option, Some, None}
use Rattle.bindings.specs.Binding.{Binding, has}
use Rattle.free_pairs.specs.BindingFree.{binding_free}

-- a list lacks the pair a, and its variable is free in the term at t
abbrev pub is_missing : List ℕ → List ℕ → ℕ → ℕ → List Binding → Binding → Bool
is_missing tags values n t other a = not (has other a) && binding_free tags values n t a

-- a list lacks the pair a, and the mask's lowest bit is set
abbrev pub is_marked : List Binding → ℕ → Binding → Bool
is_marked other m a = not (eqb (m % 2) 0) && not (has other a)

-- the first pair that the mask has and another list lacks
unfoldable pub first_marked : List Binding → ℕ → List Binding → Option Binding
first_marked other m [] = None
first_marked other m (a ∷ rest) = cond (is_marked other m a) (Some a) (first_marked other (m / 2) rest)
