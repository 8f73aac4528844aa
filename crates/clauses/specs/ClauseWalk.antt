-- What the functions that count and list clauses promise each other: what their memos hold.
-- The memo of the totals is lent to `list_totals`, whose caller writes the list by it; that of the empty `or` is in no public contract.
-- Rests on cells' Cell, on formulas' Formula, Normal, Built, Clauses, Totals and enums `NormalView` and `ConnectiveKind`, and on the
-- struct `Totals`.
use Rattle.std.specs.Prelude.{ℕ, ◌+◌, ◌-◌, ◌*◌, ◌/◌, ◌%◌, ◌≤◌, ◌<◌, ◌≡◌, Bool, true, false, List, [], ◌∷◌, length, get_or, set}
use Rattle.cells.specs.Cell.{operands_of}
use Rattle.formulas.specs.declared.kinds.ConnectiveKind.{ConnectiveKind}
use Rattle.formulas.specs.declared.view.NormalView.TheVariants.{Connective}
use Rattle.formulas.specs.Formula.{all_before}
use Rattle.formulas.specs.Clauses.{empty_or}
use Rattle.formulas.specs.Built.{normal_view, form_at}
use Rattle.formulas.specs.Totals.{Totals, start_of, combine, cap, totals}
use Rattle.clauses.specs.declared.totals.Totals as code

-- ---- an empty `or`: none is reached from a place whose entry is 1; any other entry says nothing
pub record NoneReached (tags values memo : List ℕ) : Type 0 where
  pub at : (u : ℕ) → get_or memo u 0 ≡ 1 → false ≡ empty_or (form_at tags values u)

-- the answer r is the one defined, and the memo left is right
pub record Reached (tags values memo : List ℕ) (r defined : Bool) : Type 0 where
  pub is : r ≡ defined
  pub right : NoneReached tags values memo

-- ---- totals, cut at 8,193
abbrev pub as_totals : code.Totals → Totals
as_totals t = record { clauses = t.clauses; literals = t.literals }

-- an entry of the memo: the clauses times this, plus the literals, plus one; 0 is a place that is not counted
abbrev pub entry_base : ℕ
entry_base = 16384

abbrev pub entry_of : code.Totals → ℕ
entry_of t = entry_base * t.clauses + t.literals + 1

-- the memo's clauses of the place u, and its totals
abbrev pub clauses_at : List ℕ → ℕ → ℕ
clauses_at memo u = get_or memo u 0 / entry_base

abbrev pub memo_at : List ℕ → ℕ → Totals
memo_at memo u = record { clauses = clauses_at memo u; literals = (get_or memo u 0 - 1) % entry_base }

-- the totals of a run, from those of its places
unfoldable pub run_totals : Bool → (ℕ → Totals) → List ℕ → Totals
run_totals b at [] = cap 8193 (start_of b)
run_totals b at (u ∷ us) = cap 8193 (combine b (at u) (run_totals b at us))

-- every place of the run is counted
pub record AllCounted (memo run : List ℕ) : Type 0 where
  pub at : (i : ℕ) → i < length run → 0 < get_or memo (get_or run i 0) 0

-- the memo keeps its size, and what was counted stays so
pub record CountedKept (memo memo' : List ℕ) : Type 0 where
  pub size : length memo' ≡ length memo
  pub at : (u : ℕ) → 0 < get_or memo u 0 → 0 < get_or memo' u 0

-- the memo has room for the pool's places; the totals of a counted place are right, and the operands of a counted connective are counted
pub record Memo (tags values memo : List ℕ) : Type 0 where
  pub room : length tags ≤ length memo
  pub at : (u : ℕ) → 0 < get_or memo u 0 → memo_at memo u ≡ cap 8193 (totals (form_at tags values u))
  pub operands : (u : ℕ) → 0 < get_or memo u 0 → (b : ConnectiveKind) → Connective b ≡ normal_view tags values u → AllCounted memo (operands_of tags values u)

-- noting the totals t for x hands them back as r; past the memo's end nothing is noted
pub record TotalsNoted (memo : List ℕ) (x : ℕ) (t : code.Totals) (memo' : List ℕ) (r : code.Totals) : Type 0 where
  pub same : r ≡ t
  pub memo-is : memo' ≡ set memo x (entry_of t)

-- the totals r of the clause list at x, cut at 8,193, and the memo left, in which x is counted if the pool has it
pub record TermCounted (tags values : List ℕ) (x : ℕ) (memo memo' : List ℕ) (r : code.Totals) : Type 0 where
  pub is : as_totals r ≡ cap 8193 (totals (form_at tags values x))
  pub right : Memo tags values memo'
  pub here : x < length tags → 0 < get_or memo' x 0
  pub kept : CountedKept memo memo'

-- the operands of the term at x are to be counted, which stand before it
pub record AskOperands (tags values memo : List ℕ) (x : ℕ) : Type 0 where
  pub right : Memo tags values memo
  pub before : all_before x (operands_of tags values x) ≡ true
  pub within : x < length tags

-- they are counted, and the memo left is right
pub record OperandsCounted (tags values : List ℕ) (x : ℕ) (memo memo' : List ℕ) : Type 0 where
  pub right : Memo tags values memo'
  pub all : AllCounted memo' (operands_of tags values x)
  pub kept : CountedKept memo memo'
