-- A clause list as two arrays of numbers, written and read back, and the refusals 13 and 32.
-- 01, "What stops a step": "The clause list also writes literal places and clause ends (literals up to each clause's last) to two lent u32
-- arrays".
-- Rests on answers' struct `Answer` and on Normal.
use Rattle.std.specs.Prelude.{ℕ, zero, suc, ◌+◌, ◌-◌, List, [], ◌∷◌, ◌++◌, length, get_or, take, drop, replicate}
use Rattle.answers.specs.declared.Answer.{Answer}
use Rattle.formulas.specs.Normal.{Normal, lit, nmany, nall}

-- 13: an empty `or` reached
abbrev pub empty_or_reached : Answer
empty_or_reached = record { code = 13; first = 0; second = 0 }

-- 32: over 2,048 clauses or 8,192 literals
abbrev pub too_many_clauses : Answer
too_many_clauses = record { code = 32; first = 0; second = 0 }

-- every literal of a form that is read back from a pool is a place
abbrev pub literal_place : Normal (List ℕ) ℕ → ℕ
literal_place (lit b x) = x
literal_place (nmany b ns) = 0
literal_place (nall b vs m) = 0

-- the literal places, clause after clause
abbrev pub clause_places : List (Normal (List ℕ) ℕ) → List ℕ
clause_places [] = []
clause_places (l ∷ c) = literal_place l ∷ clause_places c

abbrev pub literal_places : List (List (Normal (List ℕ) ℕ)) → List ℕ
literal_places [] = []
literal_places (c ∷ cs) = clause_places c ++ literal_places cs

-- "clause ends (literals up to each clause's last)", after m literals
abbrev pub clause_ends : ℕ → List (List (Normal (List ℕ) ℕ)) → List ℕ
clause_ends m [] = []
clause_ends m (c ∷ cs) = (m + length c) ∷ clause_ends (m + length c) cs

-- the used cells, and 0 in every cell past them
unfoldable pub padded : List ℕ → ℕ → List ℕ
padded used size = used ++ replicate (size - length used) 0

-- ---- read back: clause k from the end of clause k - 1, or 0, to its own end
abbrev pub clause_start : List ℕ → ℕ → ℕ
clause_start ends zero = 0
clause_start ends (suc k) = get_or ends k 0

abbrev pub clause_cells : List ℕ → List ℕ → ℕ → List ℕ
clause_cells literals ends k = take (get_or ends k 0 - clause_start ends k) (drop (clause_start ends k) literals)

-- m clauses, from clause k on
unfoldable pub clauses_from : List ℕ → List ℕ → ℕ → ℕ → List (List ℕ)
clauses_from literals ends zero k = []
clauses_from literals ends (suc m) k = clause_cells literals ends k ∷ clauses_from literals ends m (suc k)

-- the first m clauses
abbrev pub clauses_in : List ℕ → List ℕ → ℕ → List (List ℕ)
clauses_in literals ends m = clauses_from literals ends m 0
