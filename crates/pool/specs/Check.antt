-- The pool check and the check of a place in it: which refusal comes first.
-- 01, "What stops a step": "Checks run 30, 14, 15, 16, 18, 1, 17, then the rule. Other public calls on a term run 30, 14, 15, 16, 17".
-- Rests on answers' Answer and struct `Answer`, on cells' Limits, on headers' WellFormed, on descriptions' Description and Index, and on
-- sorts' SortRule and sort_table's TableAnswer.
use Rattle.std.specs.Prelude.{ℕ, ◌≡◌, Bool, ◌&&◌, cond, List, length, leb, eqb}
use Rattle.answers.specs.Answer.{accepted, ill_formed, repeated, wrong_sort, not_a_term, bad_arrays, refuse_at}
use Rattle.headers.specs.WellFormed.{first_bad, is_term}
use Rattle.descriptions.specs.Description.{first_repeat}
use Rattle.descriptions.specs.Index.{Index}
use Rattle.sorts.specs.SortRule.{first_wrong_sort}
use Rattle.sort_table.specs.TableAnswer.{table_answer}
use Rattle.answers.specs.declared.Answer.{Answer}
use Rattle.cells.specs.Limits.{cell_limit}

-- "30 arrays unequal, N past them or over 8,192"
unfoldable pub arrays_fit : List ℕ → List ℕ → ℕ → Bool
arrays_fit tags values n = eqb (length tags) (length values) && (leb n (length tags) && leb n cell_limit)

-- 14, 15 and 16 in that order, each over the whole pool; "0 if N is 0"
unfoldable pub check_cells : List ℕ → List ℕ → List ℕ → ℕ → Answer
check_cells tags values rules n =
    cond (eqb n 0) (ill_formed 0)
    (refuse_at ill_formed (first_bad tags values n)
    (refuse_at repeated (first_repeat tags values n)
    (refuse_at wrong_sort (first_wrong_sort tags values rules n)
    (accepted 0 0))))

-- a refusal, else what comes next
unfoldable pub and_then : Answer → Answer → Answer
and_then a next = cond (eqb a.code 0) next a

-- the pool check; S-2: "a call lent a table that loading would refuse gives the same refusal right after 30"
unfoldable pub check_pool : List ℕ → List ℕ → List ℕ → ℕ → Answer
check_pool tags values rules n =
    cond (arrays_fit tags values n) (and_then (table_answer rules) (check_cells tags values rules n)) bad_arrays

-- an answer to the pool check, and an index that has the pool's descriptions if it passes. What a refused pool leaves in the index is open:
-- the papers know of none, and nothing reads it then
pub record Indexed (tags values : List ℕ) (n : ℕ) (a : Answer) (index : List ℕ) : Type 0 where
  pub passed : a.code ≡ 0 → Index tags values n index

-- the pool check, then 17
unfoldable pub check_term : List ℕ → List ℕ → List ℕ → ℕ → ℕ → Answer
check_term tags values rules n t =
    and_then (check_pool tags values rules n) (cond (is_term tags n t) (accepted 0 0) (not_a_term t))

-- a place that has passed its checks, whatever the table: no rule reads it
pub record CheckedTerm (tags values : List ℕ) (n t : ℕ) : Type 0 where
  pub table : List ℕ
  pub passed : (check_term tags values table n t).code ≡ 0
