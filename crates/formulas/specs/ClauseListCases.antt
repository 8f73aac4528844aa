-- A case of reading clauses back, shown by computation: the ends 2 2 3 and the literals 7 8 9 hold the clauses (7 8), () and (9), and what
-- follows them in the arrays does not matter.
-- Rests on ClauseLists.
use Rattle.std.specs.Prelude.{◌≡◌, refl, [], ◌∷◌}
use Rattle.formulas.specs.ClauseLists.{clauses_from, clauses_in}

pub three-clauses : clauses_in (7 ∷ 8 ∷ 9 ∷ 0 ∷ []) (2 ∷ 2 ∷ 3 ∷ 0 ∷ []) 3 ≡ (7 ∷ 8 ∷ []) ∷ [] ∷ (9 ∷ []) ∷ []
unfolding clauses_from
three-clauses = refl
