-- What each answer of `free_from` says of the occurrences at t, in their order.
-- Rests on cells' Cell, and on Free, FreeMemo, Once, Appearing and the enum `FreeFrom`.
use Rattle.std.specs.Prelude.{ℕ, ◌<◌, ◌≡◌, List, [], ◌∷◌, ◌++◌, get_or}
use Rattle.cells.specs.Cell.{operands_of}
use Rattle.free_variables.specs.Free.{let_values}
use Rattle.free_variables.specs.FreeMemo.{pair_kind_of, pairs_bind}
use Rattle.free_variables.specs.Once.{leave_out}
use Rattle.free_variables.specs.Appearing.{joined, occurrences_at, occurrences_below}
use Rattle.free_variables.specs.declared.term_names.FreeFrom.{FreeFrom}
use Rattle.free_variables.specs.declared.term_names.FreeFrom.TheVariants.{Nothing, Variable, Body, Run, Values, Let}

-- of the terms of a run that stand before t
unfoldable pub occurs_among : List ℕ → List ℕ → ℕ → List ℕ → List ℕ
occurs_among tags values t run = joined (occurrences_below tags values t) run

-- of the body at u of the term at t, without what the term's pairs bind
unfoldable pub occurs_under : List ℕ → List ℕ → ℕ → ℕ → List ℕ
occurs_under tags values t u =
    leave_out (λ v. pairs_bind values (pair_kind_of (get_or tags t 0)) v (operands_of tags values t)) (occurrences_at tags values u)

abbrev pub OccursFrom : List ℕ → List ℕ → ℕ → FreeFrom → Type 0
OccursFrom tags values t Nothing = occurrences_at tags values t ≡ []
OccursFrom tags values t Variable = occurrences_at tags values t ≡ t ∷ []
OccursFrom tags values t (Body u) = (u.0 < t) × (occurrences_at tags values t ≡ occurs_under tags values t u.0)
OccursFrom tags values t Run = occurrences_at tags values t ≡ occurs_among tags values t (operands_of tags values t)
OccursFrom tags values t Values = occurrences_at tags values t ≡ occurs_among tags values t (let_values (operands_of tags values t))
OccursFrom tags values t (Let u) =
    (u.0 < t)
    × (occurrences_at tags values t ≡ occurs_among tags values t (let_values (operands_of tags values t)) ++ occurs_under tags values t u.0)
