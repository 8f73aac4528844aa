-- What the walkers that build promise each other: what is built, what the memo may hold, and what a refusal leaves.
-- The memo is no part of a public contract.
-- Rests on cells' Cell, Limits and struct `TermPlace`, on descriptions' Fills, on formulas' Formula, Normal and Built, and on
-- Arrays.
use Rattle.std.specs.Prelude.{ℕ, suc, ◌+◌, ◌-◌, ◌≤◌, ◌<◌, ◌≡◌, Bool, true, false, not, cond, List, map, length, get_or, take, drop, ltb, Option, Some, None}
use Rattle.cells.specs.Limits.{cell_limit}
use Rattle.cells.specs.declared.TermPlace.{TermPlace}
use Rattle.cells.specs.Cell.{operands_of}
use Rattle.descriptions.proofs.description.Fills.{Fills}
use Rattle.formulas.specs.Normal.{Normal, Normals, pair, nnf, prenex}
use Rattle.formulas.specs.Formula.{form}
use Rattle.formulas.specs.Built.{Pool, Placed, count, intern, interns, normals_of, normal_at}
use Rattle.building.specs.Arrays.{pool_of, fits}

-- arrays of one length whose first n cells are filled by headers with their cells; a walk reads those before `end`
pub record State (end n : ℕ) (tags values : List ℕ) : Type 0 where
  pub size : length tags ≡ length values
  pub within : n ≤ length tags
  pub small : n ≤ cell_limit
  pub fills : Fills values n 0
  pub source : end ≤ n

-- what a refusal leaves: the source cells, and the arrays' sizes
pub record Left (end : ℕ) (tags values tags' values' : List ℕ) : Type 0 where
  pub tags-size : length tags' ≡ length tags
  pub values-size : length values' ≡ length values
  pub tags-kept : take end tags' ≡ take end tags
  pub values-kept : take end values' ≡ take end values

-- ---- what a call that builds comes to
-- the arrays hold the pool o in their first m cells, and p is its place
pub record Holds (end : ℕ) (o : Placed) (p m : ℕ) (tags values : List ℕ) : Type 0 where
  pub pool-is : pool_of tags values m ≡ o.pool
  pub place_is : p ≡ o.place
  pub below : p < m
  pub state : State end m tags values

-- that, or no room for o in arrays of this size
abbrev pub BuiltOutcome : ℕ → ℕ → Placed → Option (TermPlace × ℕ) → List ℕ → List ℕ → Type 0
BuiltOutcome end size o (Some (p, m)) tags values = Holds end o p.0 m tags values
BuiltOutcome end size o None tags values = fits o.pool size ≡ false

-- r is the answer of a call that puts o into tags and values, which leaves tags' and values'
pub record Puts (end : ℕ) (tags values : List ℕ) (o : Placed) (r : Option (TermPlace × ℕ)) (tags' values' : List ℕ) : Type 0 where
  pub outcome : BuiltOutcome end (length tags) o r tags' values'
  pub left : Left end tags values tags' values'

-- ---- a walk's array: the memo, then the row of a new term's cells
abbrev pub row_start : ℕ
row_start = 16384

abbrev pub work_size : ℕ
work_size = 24576

unfoldable pub memo_of : List ℕ → List ℕ
memo_of work = take row_start work

-- an array of a walk whose memo has nothing
pub record MemoEmpty (work : List ℕ) : Type 0 where
  pub size : length work ≡ work_size
  pub none : (i : ℕ) → get_or (memo_of work) i 0 ≡ 0

pub record MemoKept (work work' : List ℕ) : Type 0 where
  pub size : length work' ≡ length work
  pub same : memo_of work' ≡ memo_of work

-- the row's cells as far as k are these; the memo is as it was
pub record RowHolds (cells : List ℕ) (k : ℕ) (work work' : List ℕ) : Type 0 where
  pub started : row_start ≤ k
  pub within : k ≤ work_size
  pub are : take (k - row_start) (drop row_start work') ≡ cells
  pub kept : MemoKept work work'

-- ---- the memo
-- its index of a term and a polarity: the forms at true polarity come first
unfoldable pub slot_of : ℕ → Bool → ℕ
slot_of t true = t
slot_of t false = cell_limit + t

-- where it has the forms of these terms
abbrev pub places_in : List ℕ → Bool → List ℕ → List ℕ
places_in memo polarity us = map (λ u. get_or memo (slot_of u polarity) 0 - 1) us

-- the form stands in the pool at p: putting it there changes nothing
abbrev pub Stands : Pool → Normal (List ℕ) ℕ → ℕ → Type 0
Stands q f p = intern f q ≡ record { pool = q; place = p }

abbrev pub StandAll : Pool → Normals (List ℕ) ℕ → List ℕ → Type 0
StandAll q fs ps = interns fs q ≡ record { pool = q; places = ps }

-- every entry of the memo that is set is one more than the place where its form stands; form_at gives the form of an entry
pub record FormsMemo (form_at : ℕ → Normal (List ℕ) ℕ) (q : Pool) (work : List ℕ) : Type 0 where
  pub size : length work ≡ work_size
  pub entry : (i p : ℕ) → get_or (memo_of work) i 0 ≡ suc p → Stands q (form_at i) p
  pub below : (i p : ℕ) → get_or (memo_of work) i 0 ≡ suc p → p < count q

-- an entry that is set stays as it is
abbrev pub Keeps : List ℕ → List ℕ → Type 0
Keeps work work' = (i p : ℕ) → get_or (memo_of work) i 0 ≡ suc p → get_or (memo_of work') i 0 ≡ suc p

pub record FormsNoted (form_at : ℕ → Normal (List ℕ) ℕ) (q : Pool) (work work' : List ℕ) : Type 0 where
  pub right : FormsMemo form_at q work'
  pub keeps : Keeps work work'

-- what is left of the memo's promise: a refusal ends the whole walk
abbrev pub Remembers : (ℕ → Normal (List ℕ) ℕ) → List ℕ → Option (TermPlace × ℕ) → List ℕ → List ℕ → List ℕ → Type 0
Remembers form_at work (Some (p, m)) tags values work' = FormsNoted form_at (pool_of tags values m) work work'
Remembers form_at work None tags values work' = Unit {0}

-- a walker that puts o, and keeps in the memo what it built on the way
pub record Builds (form_at : ℕ → Normal (List ℕ) ℕ) (end : ℕ) (tags values work : List ℕ) (o : Placed) (r : Option (TermPlace × ℕ)) (tags' values' work' : List ℕ) : Type 0 where
  pub puts : Puts end tags values o r tags' values'
  pub memo-is : Remembers form_at work r tags' values' work'

-- ---- the two walks over the cells before `end`
-- the negation normal form of a term, or the taken-out form of a term in normal form
pub data FormKind : Type 0 where
  normal : FormKind
  taken_out : FormKind

-- the form that a walk builds of the term at t; a taken-out form has no polarity
unfoldable pub form_of : FormKind → ℕ → List ℕ → List ℕ → ℕ → Bool → Normal (List ℕ) ℕ
form_of normal end tags values t polarity = nnf (form (take end tags) (take end values) t) polarity
form_of taken_out end tags values t polarity = prenex (normal_at (pool_of tags values end) t)

abbrev pub normal_of : ℕ → List ℕ → List ℕ → ℕ → Bool → Normal (List ℕ) ℕ
normal_of end tags values t polarity = form_of normal end tags values t polarity

abbrev pub run_of : ℕ → List ℕ → List ℕ → ℕ → List ℕ
run_of end tags values t = operands_of (take end tags) (take end values) t

-- the form of the memo's entry i
unfoldable pub entry_form : FormKind → ℕ → List ℕ → List ℕ → ℕ → Normal (List ℕ) ℕ
entry_form w end tags values i = cond (ltb i cell_limit) (form_of w end tags values i true) (form_of w end tags values (i - cell_limit) false)

-- what the walkers start from
pub record WalkReady (w : FormKind) (end n : ℕ) (tags values work : List ℕ) : Type 0 where
  pub state : State end n tags values
  pub right : FormsMemo (entry_form w end tags values) (pool_of tags values n) work

-- a form is put into the pool of n cells
abbrev pub Formed : FormKind → ℕ → ℕ → List ℕ → List ℕ → List ℕ → Normal (List ℕ) ℕ → Option (TermPlace × ℕ) → List ℕ → List ℕ → List ℕ → Type 0
Formed w end n tags values work f r tags' values' work' =
    Builds (entry_form w end tags values) end tags values work (intern f (pool_of tags values n)) r tags' values' work'

-- the form of the term at t, which the memo then has
pub record Known (w : FormKind) (end n : ℕ) (tags values work : List ℕ) (t : ℕ) (polarity : Bool) (r : Option (TermPlace × ℕ)) (tags' values' work' : List ℕ) : Type 0 where
  pub formed : Formed w end n tags values work (form_of w end tags values t polarity) r tags' values' work'
  pub known : (p : TermPlace) (m : ℕ) → r ≡ Some (p, m) → get_or (memo_of work') (slot_of t polarity) 0 ≡ suc p.0

-- the forms of the operands of the term at t from i on, whose places the memo then has
abbrev pub operand_forms : FormKind → ℕ → List ℕ → List ℕ → ℕ → Bool → ℕ → Normals (List ℕ) ℕ
operand_forms w end tags values t polarity i = normals_of (λ u. form_of w end tags values u polarity) (drop i (run_of end tags values t))

pub record OperandsKnown (w : FormKind) (end n : ℕ) (tags values work : List ℕ) (t : ℕ) (polarity : Bool) (i : ℕ) (r : Option (TermPlace × ℕ)) (tags' values' work' : List ℕ) : Type 0 where
  pub builds : Builds (entry_form w end tags values) end tags values work
      (record { pool = (interns (operand_forms w end tags values t polarity i) (pool_of tags values n)).pool; place = 0 }) r tags' values' work'
  pub places : (p : TermPlace) (m : ℕ) → r ≡ Some (p, m)
      → (interns (operand_forms w end tags values t polarity i) (pool_of tags values n)).places ≡ places_in (memo_of work') polarity (drop i (run_of end tags values t))

-- every operand of the term at t stands before it
pub record Before (end : ℕ) (tags values : List ℕ) (t : ℕ) : Type 0 where
  pub operand : (i : ℕ) → i < length (run_of end tags values t) → get_or (run_of end tags values t) i 0 < t

-- four terms before `end`
pub record AllBelow (end a b c d : ℕ) : Type 0 where
  pub first : a < end
  pub second : b < end
  pub third : c < end
  pub fourth : d < end

-- the two pairs that `ite` and `=` become; f gives the form of a term at a polarity
abbrev pub two_pairs : Bool → (ℕ → Bool → Normal (List ℕ) ℕ) → ℕ → ℕ → ℕ → Bool → ℕ → Normal (List ℕ) ℕ
two_pairs p f a b c q d = pair p (pair (not p) (f a (not p)) (f b p)) (pair (not p) (f c q) (f d p))

-- the form of a term, o, in arrays whose first n cells are a pool
abbrev pub NormalBuilt : ℕ → List ℕ → List ℕ → Placed → Option (TermPlace × ℕ) → List ℕ → List ℕ → Type 0
NormalBuilt n tags values o (Some (p, m)) tags' values' = Holds n o p.0 m tags' values' × (fits o.pool (length tags) ≡ true)
NormalBuilt n tags values o None tags' values' = Left n tags values tags' values' × (fits o.pool (length tags) ≡ false)
