-- The clauses that two arrays spell: literal places, clause after clause, and each clause's end. `list_clauses` leaves such arrays.
-- Rests on the struct `ListedClauses`.
use Rattle.std.specs.Prelude.{ℕ, zero, suc, ◌-◌, List, [], ◌∷◌, take, drop}
use Rattle.clausification.specs.declared.clause_search.ListedClauses.{ListedClauses}

-- the literals from start on, cut at the first ends, as many as count; an end past the literals is theirs
unfoldable pub clauses_in : List ℕ → List ℕ → ℕ → ℕ → List (List ℕ)
clauses_in literals ends start zero = []
clauses_in literals [] start (suc count) = []
clauses_in literals (end ∷ ends) start (suc count) = take (end - start) (drop start literals) ∷ clauses_in literals ends end count

abbrev pub clauses_of : ListedClauses → List (List ℕ)
clauses_of listed = clauses_in listed.literals.now listed.ends.now 0 listed.count
