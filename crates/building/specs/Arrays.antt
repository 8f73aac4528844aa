-- A pool in lent arrays: the used cells, whether a pool has room in arrays of a size, and the forms that are put after the used cells.
-- 01, "What stops a step": "31 new terms .. take the count past the arrays or 8,192". "the clause list is that of the true one with foralls
-- taken out".
-- Rests on formulas' Normal and Built.
use Rattle.std.specs.Prelude.{ℕ, Bool, true, ◌&&◌, List, take, leb}
use Rattle.formulas.specs.Normal.{Normal}
use Rattle.formulas.specs.Built.{Pool, Placed, count, normal_form, taken_out_form, normal_at}

-- the used cells
abbrev pub pool_of : List ℕ → List ℕ → ℕ → Pool
pool_of tags values n = record { tags = take n tags; values = take n values }

unfoldable pub fits : Pool → ℕ → Bool
fits q size = leb (count q) size && leb (count q) 8192

-- ---- the forms of the term at t, put into the pool of the first n cells
-- its normal form at a polarity
abbrev pub normal_in : List ℕ → List ℕ → ℕ → ℕ → Bool → Placed
normal_in tags values n t polarity = normal_form (pool_of tags values n) t polarity

-- its normal form at true polarity with foralls taken out
abbrev pub clausal_in : List ℕ → List ℕ → ℕ → ℕ → Placed
clausal_in tags values n t = taken_out_form (normal_in tags values n t true).pool (normal_in tags values n t true).place

-- that form, whose clauses are the term's
abbrev pub clausal_form_in : List ℕ → List ℕ → ℕ → ℕ → Normal (List ℕ) ℕ
clausal_form_in tags values n t = normal_at (clausal_in tags values n t).pool (clausal_in tags values n t).place
