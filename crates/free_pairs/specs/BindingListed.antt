-- Whether the variable of a pair of a binding list is in the list of a term's free variables. That it is exactly if it is free there is
-- `binding-listed` of proofs/Listed.antt (02, S-6).
-- Rests on bindings' Binding, on descriptions' Description, and on free_variables' Once and Appearing.
use Rattle.std.specs.Prelude.{ℕ, Bool, false, List, [], ◌∷◌, eqb, Option, Some, None}
use Rattle.descriptions.specs.Description.{find}
use Rattle.bindings.specs.Binding.{Binding}
use Rattle.free_variables.specs.Once.{among}
use Rattle.free_variables.specs.Appearing.{appearing_at}

-- the variable of a pair is in the list of the term at t: it stands in the pool, and its place is there
abbrev pub listed_at : List ℕ → List ℕ → ℕ → Option ℕ → Bool
listed_at tags values t (Some v) = among eqb (appearing_at tags values t) v
listed_at tags values t None = false

unfoldable pub binding_listed : List ℕ → List ℕ → ℕ → ℕ → Binding → Bool
binding_listed tags values n t a = listed_at tags values t (find tags values n 21 (a.sort ∷ a.name ∷ []))
