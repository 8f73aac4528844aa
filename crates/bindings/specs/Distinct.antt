-- The distinct pairs of a list, in order of first appearance: each pair is put at the end, unless it is there.
-- Rests on Binding.
use Rattle.std.specs.Prelude.{Bool, true, ◌&&◌, not, cond, List, [], ◌∷◌, ◌++◌}
use Rattle.bindings.specs.Binding.{Binding, has}

-- a list with a pair at its end, unless it has the pair
unfoldable pub added : List Binding → Binding → List Binding
added bs a = cond (has bs a) bs (bs ++ (a ∷ []))

-- a list with the pairs of another, one after another
unfoldable pub added_all : List Binding → List Binding → List Binding
added_all bs [] = bs
added_all bs (a ∷ as') = added_all (added bs a) as'

unfoldable pub distinct : List Binding → List Binding
distinct bs = added_all [] bs

-- no pair stands in the list twice
unfoldable pub once : List Binding → Bool
once [] = true
once (a ∷ rest) = not (has rest a) && once rest
