-- What the functions that write the clause list promise each other.
-- 01, "Normal form and clauses": "an `and` joins lists, an `or` takes products, the first operand slowest."
-- Rests on answers' Answer, Refusal, struct `Answer` and enum `Refusal`, on the library's `Result`, on cells' Limits, Place and Cell, on formulas'
-- Formula, Normal, Built, Clauses and ClauseLists, and on ClauseWalk and the structs `Totals`, `Chosen`, `Digits`, `CountedPool` and
-- `ClauseLists`.
use Rattle.std.specs.Prelude.{Option, Some, None, Result, Ok, Err, ℕ, ◌+◌, ◌-◌, ◌/◌, ◌%◌, ◌≤◌, ◌<◌, ◌≡◌, true, cond, ◌&&◌, List, [], ◌∷◌, length, get_or, set, replicate, ltb, leb, eqb}
use Rattle.std.proofs.lemmas.List.Edits.{sets}
use Rattle.cells.specs.Limits.{cell_limit, clause_limit, literal_limit}
use Rattle.cells.specs.Place.{term_at}
use Rattle.cells.specs.Cell.{operands_of}
use Rattle.answers.specs.Answer.{accepted}
use Rattle.answers.specs.declared.Answer.{Answer}
use Rattle.answers.specs.Refusal.{answer_to}
use Rattle.answers.specs.declared.refusal.Refusal.{Refusal}
use Rattle.formulas.specs.Formula.{all_before}
use Rattle.formulas.specs.Normal.{Normal, Normals}
use Rattle.formulas.specs.Clauses.{cnf, cnf_and, cnf_or, literal_total, empty_or}
use Rattle.formulas.specs.Built.{normals_of, form_at}
use Rattle.formulas.specs.ClauseLists.{empty_or_reached, too_many_clauses, padded, clause_places, literal_places, clause_ends}
use Rattle.clauses.specs.ClauseWalk.{clauses_at, Memo}
use Rattle.clauses.specs.declared.totals.Totals.{Totals}
use Rattle.clauses.specs.declared.conjunctive_normal_form.Chosen.{Chosen}
use Rattle.clauses.specs.declared.conjunctive_normal_form.Digits.{Digits}
use Rattle.clauses.specs.declared.conjunctive_normal_form.CountedPool.{CountedPool}
use Rattle.clauses.specs.declared.clause_list.ClauseLists.{ClauseLists}

-- the forms of a run of places
abbrev pub run_of : List ℕ → List ℕ → List ℕ → Normals (List ℕ) ℕ
run_of tags values run = normals_of (form_at tags values) run

-- the operand of an `and` that has its clause of number i, and that clause's number there, by the memo's clauses
unfoldable pub choose : List ℕ → List ℕ → ℕ → Option Chosen
choose memo [] i = None
choose memo (u ∷ us) i = cond (ltb i (clauses_at memo u)) (Some (record { place = term_at u; index = i })) (choose memo us (i - clauses_at memo u))

-- a right memo, in which every place of the run is counted that the pool has
pub record ClauseCounts (tags values memo run : List ℕ) : Type 0 where
  pub right : Memo tags values memo
  pub all : (i : ℕ) → i < length run → get_or run i 0 < length tags → 0 < get_or memo (get_or run i 0) 0

-- the number i of a clause of a product of total clauses, whose first list has here: the first list is slowest
pub record Apart (total here i : ℕ) (d : Digits) : Type 0 where
  pub count : d.rest_count ≡ total / here
  pub first : d.first ≡ i / (total / here)
  pub rest : d.rest ≡ i % (total / here)

-- the clause of number i of a short list is to be written to out, from at on; the places of the run are counted
pub record Ask (tags values memo run : List ℕ) (cs : List (List (Normal (List ℕ) ℕ))) (i : ℕ) (out : List ℕ) (at : ℕ) : Type 0 where
  pub counted : ClauseCounts tags values memo run
  pub small : length cs ≤ clause_limit
  pub index : i < length cs
  pub room : at + length (get_or cs i []) ≤ length out

-- the same of an `or` of the run's places, which stand before x; its list has as many clauses as total
pub record AskRun (tags values memo : List ℕ) (x : ℕ) (run : List ℕ) (total i : ℕ) (out : List ℕ) (at : ℕ) : Type 0 where
  pub ask : Ask tags values memo run (cnf_or (run_of tags values run)) i out at
  pub before : all_before x run ≡ true
  pub within : x < length tags
  pub count : total ≡ length (cnf_or (run_of tags values run))

-- the clause c is written, up to the end r
pub record Written (c : List (Normal (List ℕ) ℕ)) (out : List ℕ) (at : ℕ) (after : List ℕ) (r : ℕ) : Type 0 where
  pub end : r ≡ at + length c
  pub array : after ≡ sets out at (clause_places c)

-- of the term at x: its list, its clause of number i, and what writing that asks for
abbrev pub list_at : CountedPool → ℕ → List (List (Normal (List ℕ) ℕ))
list_at c x = cnf (form_at c.pool.now.tags.now c.pool.now.values.now x)

abbrev pub clause_at : CountedPool → ℕ → ℕ → List (Normal (List ℕ) ℕ)
clause_at c x i = get_or (list_at c x) i []

abbrev pub AskClause : CountedPool → ℕ → ℕ → List ℕ → ℕ → Type 0
AskClause c x i out at = Ask c.pool.now.tags.now c.pool.now.values.now c.memo.now (x ∷ []) (list_at c x) i out at

-- the same of the product of its operands' lists
abbrev pub run_at : CountedPool → ℕ → List ℕ
run_at c x = operands_of c.pool.now.tags.now c.pool.now.values.now x

abbrev pub product_clause_at : CountedPool → ℕ → ℕ → List (Normal (List ℕ) ℕ)
product_clause_at c x i = get_or (cnf_or (run_of c.pool.now.tags.now c.pool.now.values.now (run_at c x))) i []

abbrev pub AskProduct : CountedPool → ℕ → ℕ → List ℕ → ℕ → Type 0
AskProduct c x i out at = AskRun c.pool.now.tags.now c.pool.now.values.now c.memo.now x (run_at c x) (clauses_at c.memo.now x) i out at

-- ---- a list is to be written after the first i ends and the first `at` literals; the places of the run are counted
pub record AskMore (tags values memo run : List ℕ) (cs : List (List (Normal (List ℕ) ℕ))) (literals ends : List ℕ) (i at : ℕ) : Type 0 where
  pub counted : ClauseCounts tags values memo run
  pub clauses : length cs ≤ clause_limit
  pub clauses-room : i + length cs ≤ length ends
  pub literals-small : at + literal_total cs ≤ literal_limit
  pub literals_room : at + literal_total cs ≤ length literals

-- the same of the joined lists of the run's places, which stand before x
pub record AskLists (tags values memo : List ℕ) (x : ℕ) (run literals ends : List ℕ) (i at : ℕ) : Type 0 where
  pub ask : AskMore tags values memo run (cnf_and (run_of tags values run)) literals ends i at
  pub before : all_before x run ≡ true
  pub within : x < length tags

-- how many cells of the two arrays are filled: the clauses' ends and the literals
pub record Filled : Type 0 where
  pub clauses : ℕ
  pub literals : ℕ

-- the list is written, up to r
pub record Adds (cs : List (List (Normal (List ℕ) ℕ))) (literals ends : List ℕ) (i at : ℕ) (literals' ends' : List ℕ) (r : Filled) : Type 0 where
  pub ends-up-to : r.clauses ≡ i + length cs
  pub literals-up-to : r.literals ≡ at + literal_total cs
  pub literals-are : literals' ≡ sets literals at (literal_places cs)
  pub ends-are : ends' ≡ sets ends i (clause_ends at cs)

-- ---- the same of the arrays of a `ClauseLists`
abbrev pub filled : ClauseLists → Filled
filled lists = record { clauses = lists.clause_count; literals = lists.literal_count }

-- they are the arrays that were lent
abbrev pub SameArrays : ClauseLists → ClauseLists → Type 0
SameArrays lists lists' = (lists'.literals.ghost_name ≡ lists.literals.ghost_name) × (lists'.ends.ghost_name ≡ lists.ends.ghost_name)

-- the clause of number k of the term at x is to be written, and its end
pub record AskNext (c : CountedPool) (x k : ℕ) (lists : ClauseLists) : Type 0 where
  pub ask : AskClause c x k lists.literals.now lists.literal_count
  pub ends-room : lists.clause_count < length lists.ends.now
  pub small : lists.literal_count + length (clause_at c x k) ≤ literal_limit

-- the clause c is written, and its end
pub record Pushed (c : List (Normal (List ℕ) ℕ)) (lists lists' : ClauseLists) : Type 0 where
  pub written : Written c lists.literals.now lists.literal_count lists'.literals.now lists'.literal_count
  pub end : lists'.ends.now ≡ set lists.ends.now lists.clause_count lists'.literal_count
  pub count : lists'.clause_count ≡ lists.clause_count + 1

-- the list of the term at x is to be written
abbrev pub AskList : CountedPool → ℕ → ClauseLists → Type 0
AskList c x lists =
    AskMore c.pool.now.tags.now c.pool.now.values.now c.memo.now (x ∷ []) (list_at c x) lists.literals.now lists.ends.now lists.clause_count lists.literal_count

-- to the beginning of two arrays
abbrev pub AskAll : CountedPool → ℕ → List ℕ → List ℕ → Type 0
AskAll c x literals ends = AskMore c.pool.now.tags.now c.pool.now.values.now c.memo.now (x ∷ []) (list_at c x) literals ends 0 0

-- the joined lists of its operands are to be written
abbrev pub joined_at : CountedPool → ℕ → List (List (Normal (List ℕ) ℕ))
joined_at c x = cnf_and (run_of c.pool.now.tags.now c.pool.now.values.now (run_at c x))

abbrev pub AskJoined : CountedPool → ℕ → ClauseLists → Type 0
AskJoined c x lists =
    AskLists c.pool.now.tags.now c.pool.now.values.now c.memo.now x (run_at c x) lists.literals.now lists.ends.now lists.clause_count lists.literal_count

-- the list is written
abbrev pub Added : List (List (Normal (List ℕ) ℕ)) → ClauseLists → ClauseLists → Type 0
Added cs lists lists' =
    Adds cs lists.literals.now lists.ends.now lists.clause_count lists.literal_count lists'.literals.now lists'.ends.now (filled lists')

-- arrays of k and m cells that hold the list and zeroes
pub record ClausesHeld (cs : List (List (Normal (List ℕ) ℕ))) (k m : ℕ) (literals ends : List ℕ) : Type 0 where
  pub literals-are : literals ≡ padded (literal_places cs) k
  pub ends-are : ends ≡ padded (clause_ends 0 cs) m

-- ---- 01's numbers: 13, then 32, or the two totals
unfoldable pub count_answer : List (List (Normal (List ℕ) ℕ)) → Answer
count_answer cs =
    cond (leb (length cs) clause_limit && leb (literal_total cs) literal_limit)
    (accepted (length cs) (literal_total cs))
    too_many_clauses

unfoldable pub list_answer : Normal (List ℕ) ℕ → Answer
list_answer form = cond (empty_or form) empty_or_reached (count_answer (cnf form))

-- the answer of a list whose totals are counted, or which is refused
abbrev pub counted : Result Totals Refusal → Answer
counted (Ok t) = accepted t.clauses t.literals
counted (Err r) = answer_to r

-- what an array of k cells holds: accepted, the list and zeroes; refused, all zeroes
unfoldable pub held : Answer → List ℕ → ℕ → List ℕ
held r list k = cond (eqb r.code 0) (padded list k) (replicate k 0)

-- the answer r is the one defined, and arrays of k and m cells hold the list
pub record ListAnswered (defined : Answer) (cs : List (List (Normal (List ℕ) ℕ))) (k m : ℕ) (r : Answer) (literals ends : List ℕ) : Type 0 where
  pub answer : r ≡ defined
  pub literals-are : literals ≡ held r (literal_places cs) k
  pub ends-are : ends ≡ held r (clause_ends 0 cs) m

-- a pool of n places, at most 8,192, and arrays of k and m cells, long enough for any list that is accepted
pub record Lent (n k m : ℕ) : Type 0 where
  pub small : n ≤ cell_limit
  pub literals : literal_limit ≤ k
  pub ends : clause_limit ≤ m

-- the same with zeroes in the arrays
pub record ListReady (tags literals ends : List ℕ) : Type 0 where
  pub lent : Lent (length tags) (length literals) (length ends)
  pub literals-zero : literals ≡ replicate (length literals) 0
  pub ends-zero : ends ≡ replicate (length ends) 0
