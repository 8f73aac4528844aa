-- Which tables of sort rules load, and what loading leaves.
--     table_answer entries     the answer of the loading call to these entries
--     Loaded                  its outcome: the answer, and the table in use
-- S-2: "the fixed table may be replaced by one of 135 entries, one rule number each .. Rule 7 is allowed only where the built-in table has
-- it. .. A refused table leaves the old one in use .. Errors of the loading call, 40 first, each for its first entry: 40 wrong length (135)
-- or a rule number not allowed (entry), 41 an entry for one of the operators `Not`, `Implies`, `And`, `Or`, `Equals` that isn't Bool
-- (entry)."
-- Rests on Table, and on answers' Answer and struct `Answer`.
use Rattle.std.specs.Prelude.{ℕ, zero, suc, ◌≡◌, Bool, not, ◌&&◌, ◌||◌, cond, List, length, get_or, ltb, eqb, Option, Some, None}
use Rattle.answers.specs.Answer.{accepted, bad_table, not_bool, refuse_at}
use Rattle.answers.specs.declared.Answer.{Answer}
use Rattle.sort_table.specs.Table.{built_in, among}

-- "one of 135 entries"
abbrev pub entry_count : ℕ
entry_count = 135

-- the first of f entries from i on at which the test holds
unfoldable pub first_entry : (ℕ → Bool) → ℕ → ℕ → Option ℕ
first_entry test zero i = None
first_entry test (suc f) i = cond (test i) (Some i) (first_entry test f (suc i))

-- "a rule number not allowed": over 7, or 7 where the built-in table has none
unfoldable pub forbids : List ℕ → ℕ → Bool
forbids entries i =
    not (ltb (get_or entries i 0) 7 || (eqb (get_or entries i 0) 7 && eqb (get_or built_in i 0) 7))

-- Not, Implies, And, Or, and Equals; Xor, 6, is not among them
unfoldable pub is_connective : ℕ → Bool
is_connective i = among 2 5 i || eqb i 7

-- "isn't Bool": its entry is not 0
unfoldable pub loses_bool : List ℕ → ℕ → Bool
loses_bool entries i = is_connective i && not (eqb (get_or entries i 0) 0)

unfoldable pub table_answer : List ℕ → Answer
table_answer entries =
    cond (eqb (length entries) entry_count)
    (refuse_at bad_table (first_entry (forbids entries) entry_count 0)
    (refuse_at not_bool (first_entry (loses_bool entries) entry_count 0)
    (accepted 0 0)))
    (bad_table entry_count)

-- the outcome of the loading call: its answer r, and the table in use at the end
pub record Loaded (entries table : List ℕ) (r : Answer) (table' : List ℕ) : Type 0 where
  pub answer : r ≡ table_answer entries
  pub in_use : table' ≡ cond (eqb r.code 0) entries table
