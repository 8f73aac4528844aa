-- The calls on a term: which refusal comes first, and what an accepted call gives.
-- 01, "What stops a step": "Other public calls on a term run 30, 14, 15, 16, 17".
-- Rests on answers' Answer and struct `Answer`, on cells' Cell, on free_variables' Free, and on Check.
use Rattle.std.specs.Prelude.{ℕ, ◌<◌, ◌≡◌, cond, List, length, get_or, leb, eqb}
use Rattle.answers.specs.Answer.{accepted, bad_arrays}
use Rattle.cells.specs.Cell.{sort_of}
use Rattle.free_variables.specs.Free.{mark_of}
use Rattle.pool.specs.Check.{and_then, check_term}
use Rattle.answers.specs.declared.Answer.{Answer}

-- the sort of a term: accepted, the sort's place
unfoldable pub sort_answer : List ℕ → List ℕ → List ℕ → ℕ → ℕ → Answer
sort_answer tags values rules n t = and_then (check_term tags values rules n t) (accepted (sort_of values t) 0)

-- the free variables of a term, marked in a lent array of k elements: "A shorter lent array is 30"
unfoldable pub free_answer : List ℕ → List ℕ → List ℕ → ℕ → ℕ → ℕ → Answer
free_answer tags values rules n t k = cond (leb n k) (check_term tags values rules n t) bad_arrays

-- what a call that answered so leaves at v: "30 changes nothing", accepted the mark, "all 0 when refused"
unfoldable pub mark_left : Answer → List ℕ → List ℕ → ℕ → ℕ → List ℕ → ℕ → ℕ
mark_left a tags values n t marks v =
    cond (eqb a.code 30) (get_or marks v 0) (cond (eqb a.code 0) (mark_of tags values n t v) 0)

-- the outcome of the free-variables call: its answer r, and the lent array at the end
pub record FreeVars (tags values rules : List ℕ) (n t : ℕ) (marks : List ℕ) (r : Answer) (marks' : List ℕ) : Type 0 where
  pub answer : r ≡ free_answer tags values rules n t (length marks)
  pub size : length marks' ≡ length marks
  pub at : (v : ℕ) → v < length marks → get_or marks' v 0 ≡ mark_left r tags values n t marks v
