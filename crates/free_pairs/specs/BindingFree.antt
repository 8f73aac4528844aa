-- Whether the variable of a pair of a binding list is free in a term.
-- Rests on bindings' Binding, on descriptions' Description, and on free_variables' Free.
use Rattle.std.specs.Prelude.{ℕ, Bool, false, List, [], ◌∷◌, Option, Some, None}
use Rattle.descriptions.specs.Description.{find}
use Rattle.bindings.specs.Binding.{Binding}
use Rattle.free_variables.specs.Free.{is_free}

-- the variable of a pair occurs free in the term at t: it stands in the pool, and is free there
abbrev pub free_at : List ℕ → List ℕ → ℕ → Option ℕ → Bool
free_at tags values t (Some v) = is_free tags values v t
free_at tags values t None = false

unfoldable pub binding_free : List ℕ → List ℕ → ℕ → ℕ → Binding → Bool
binding_free tags values n t a = free_at tags values t (find tags values n 21 (a.sort ∷ a.name ∷ []))
