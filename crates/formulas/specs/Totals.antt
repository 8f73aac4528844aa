-- The totals of a clause list, without the list; and totals that stop at a limit.
--     totals n             the clauses and the literals of cnf n
--     capped_totals k n     the same, every sum and product cut at k
-- 01, "Normal form and clauses": "Clause and literal totals are those of this list." "What stops a step": "32 over 2,048 clauses or 8,192
-- literals": totals cut at 8,193 tell both exactly.
-- Rests on Normal.
use Rattle.std.specs.Prelude.{ℕ, ◌+◌, ◌*◌, min, Bool, true, false}
use Rattle.formulas.specs.Normal.{Normal, Normals, lit, nmany, nall, nnil, ncons}

pub record Totals : Type 0 where
  pub clauses : ℕ
  pub literals : ℕ

-- of two clause lists, one after the other
abbrev pub plus : Totals → Totals → Totals
plus t u = record { clauses = t.clauses + u.clauses; literals = t.literals + u.literals }

-- of each clause of the one with each of the other: a clause of t stands in as many as u has
abbrev pub times : Totals → Totals → Totals
times t u = record { clauses = t.clauses * u.clauses; literals = t.literals * u.clauses + u.literals * t.clauses }

-- no clause; the empty clause; a clause of one literal
abbrev pub no_clause : Totals
no_clause = record { clauses = 0; literals = 0 }

abbrev pub empty_clause : Totals
empty_clause = record { clauses = 1; literals = 0 }

abbrev pub one_literal : Totals
one_literal = record { clauses = 1; literals = 1 }

-- an `and` adds, from no clause on; an `or` multiplies, from the empty clause on
abbrev pub start_of : Bool → Totals
start_of true = no_clause
start_of false = empty_clause

abbrev pub combine : Bool → Totals → Totals → Totals
combine true = plus
combine false = times

-- totals are cut at a limit k after every step
abbrev pub cap : ℕ → Totals → Totals
cap k t = record { clauses = min k t.clauses; literals = min k t.literals }

module _ {B L : Type 0} where
  abbrev mutual
    pub totals : Normal B L → Totals
    totals (lit b t) = one_literal
    totals (nmany b ns) = totals_of b ns
    totals (nall b vs n) = one_literal

    pub totals_of : Bool → Normals B L → Totals
    totals_of b nnil = start_of b
    totals_of b (ncons n ns) = combine b (totals n) (totals_of b ns)

  abbrev mutual
    pub capped_totals : ℕ → Normal B L → Totals
    capped_totals k (lit b t) = cap k one_literal
    capped_totals k (nmany b ns) = capped_totals_of k b ns
    capped_totals k (nall b vs n) = cap k one_literal

    pub capped_totals_of : ℕ → Bool → Normals B L → Totals
    capped_totals_of k b nnil = cap k (start_of b)
    capped_totals_of k b (ncons n ns) = cap k (combine b (capped_totals k n) (capped_totals_of k b ns))
