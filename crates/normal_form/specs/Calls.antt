-- The public calls of this crate: which refusal comes first, what is accepted, and what the lent arrays hold at the end.
-- 01, "What stops a step": "Other public calls on a term run 30, 14, 15, 16, 17, then 31, 13, 32 where they apply."
-- Rests on answers' Answer and struct `Answer`, on descriptions' Description, on pool's Check, on formulas' Normal, Built, Clauses and
-- ClauseLists, and on building's Arrays.
use Rattle.std.specs.Prelude.{ℕ, ◌≡◌, Bool, ◌&&◌, cond, List, length, replicate, leb, eqb}
use Rattle.answers.specs.Answer.{accepted, bad_arrays}
use Rattle.pool.specs.Check.{and_then, check_term}
use Rattle.descriptions.specs.Description.{zero_from}
use Rattle.answers.specs.declared.Answer.{Answer}
use Rattle.formulas.specs.Normal.{Normal}
use Rattle.formulas.specs.ClauseLists.{empty_or_reached, too_many_clauses, padded, literal_places, clause_ends}
use Rattle.formulas.specs.Clauses.{cnf, empty_or, literal_total}
use Rattle.formulas.specs.Built.{Placed, count}
use Rattle.building.specs.Arrays.{fits, normal_in, clausal_in, clausal_form_in}

-- 31: the new terms take the count past the arrays or 8,192
abbrev pub no_room : Answer
no_room = record { code = 31; first = 0; second = 0 }

-- what a call that builds leaves in an array: "30 changes nothing"; accepted, the new terms are kept; refused, zeroes past N
unfoldable pub array_left : Answer → List ℕ → ℕ → List ℕ → List ℕ
array_left a cells n used = cond (eqb a.code 30) cells (cond (eqb a.code 0) (padded used (length cells)) (zero_from n cells))

-- ---- the normal form
module _ (tags values rules : List ℕ) (n t : ℕ) where
  abbrev pub normal_place : Bool → Placed
  normal_place polarity = normal_in tags values n t polarity

  -- "the first gives its place and the new count"
  unfoldable pub normal_answer : Bool → Answer
  normal_answer polarity =
      and_then (check_term tags values rules n t)
      (cond (fits (normal_place polarity).pool (length tags))
      (accepted (normal_place polarity).place (count (normal_place polarity).pool))
      no_room)

  pub record NormalForm (polarity : Bool) (r : Answer) (tags' values' : List ℕ) : Type 0 where
    pub answer : r ≡ normal_answer polarity
    pub tags-are : tags' ≡ array_left r tags n (normal_place polarity).pool.tags
    pub values-are : values' ≡ array_left r values n (normal_place polarity).pool.values

  -- ---- the clause list: that of the normal form at true polarity with foralls taken out
  abbrev pub clausal : Placed
  clausal = clausal_in tags values n t

  abbrev pub clausal_form : Normal (List ℕ) ℕ
  clausal_form = clausal_form_in tags values n t

  -- l and e are the lengths of the two lent arrays; "its two totals": clauses, then literals
  unfoldable pub clause_answer : ℕ → ℕ → Answer
  clause_answer l e =
      cond (leb 8192 l && leb 2048 e)
      (and_then (check_term tags values rules n t)
      (cond (fits clausal.pool (length tags))
      (cond (empty_or clausal_form) empty_or_reached
      (cond (leb (length (cnf clausal_form)) 2048 && leb (literal_total (cnf clausal_form)) 8192)
      (accepted (length (cnf clausal_form)) (literal_total (cnf clausal_form)))
      too_many_clauses))
      no_room))
      bad_arrays

  -- what the call leaves in a lent array: unchanged at 30; accepted, the list and zeroes; refused otherwise, all zeroes
  unfoldable pub list_left : Answer → List ℕ → List ℕ → List ℕ
  list_left a lent list = cond (eqb a.code 30) lent (cond (eqb a.code 0) (padded list (length lent)) (replicate (length lent) 0))

  -- "Accepted, .. the second its two totals and the new count"; refused, 0
  unfoldable pub count_left : Answer → ℕ
  count_left a = cond (eqb a.code 0) (count clausal.pool) 0

  pub record ClauseList (literals ends : List ℕ) (r : Answer) (m : ℕ) (tags' values' literals' ends' : List ℕ) : Type 0 where
    pub answer : r ≡ clause_answer (length literals) (length ends)
    pub new-count : m ≡ count_left r
    pub tags-are : tags' ≡ array_left r tags n clausal.pool.tags
    pub values-are : values' ≡ array_left r values n clausal.pool.values
    pub literals-are : literals' ≡ list_left r literals (literal_places (cnf clausal_form))
    pub ends-are : ends' ≡ list_left r ends (clause_ends 0 (cnf clausal_form))
