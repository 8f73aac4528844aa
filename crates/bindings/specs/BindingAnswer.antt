-- What the code of `binding` and `pairs` says: a pair as a binding, what is left of a list, and the name that is found.
-- Rests on Binding, on cells' struct `Variable` and on the struct `Pairs`.
use Rattle.std.specs.Prelude.{ℕ, ◌+◌, List, get_or, Option, Some, None}
use Rattle.bindings.specs.Binding.{Binding, bindings_of}
use Rattle.bindings.specs.declared.pairs.Pairs.{Pairs}
use Rattle.cells.specs.declared.variable.Variable.{Variable}

abbrev pub pair : ℕ → ℕ → Binding
pair name sort = record { name = name; sort = sort }

abbrev pub binding : Variable → Binding
binding v = pair v.name v.sort.0

-- the pairs that an iterator has left
abbrev pub pairs_left : Pairs → List Binding
pairs_left s = bindings_of s.cells.now

-- the pair at i and i + 1
abbrev pub pair_at : List ℕ → ℕ → Binding
pair_at cells i = pair (get_or cells i 0) (get_or cells (i + 1) 0)

-- the name of the pair that is found, if one is
unfoldable pub name_of : Option Binding → Option ℕ
name_of (Some a) = Some a.name
name_of None = None
