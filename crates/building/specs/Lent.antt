-- The promises of Walk at the arrays that the struct `IndexedPool` lends.
-- Rests on Arrays and Walk, on cells' Place and struct `TermPlace`, on descriptions' IndexedPool and the struct `IndexedPool`, and on
-- formulas' Formula, Normal and Built and the enum `View`.
use Rattle.std.specs.Prelude.{ℕ, Bool, List, take, Option, Some, None}
use Rattle.cells.specs.declared.TermPlace.{TermPlace}
use Rattle.cells.specs.Place.{term_at}
use Rattle.descriptions.specs.IndexedPool.{HasIndex}
use Rattle.descriptions.specs.declared.index.IndexedPool.{IndexedPool}
use Rattle.formulas.specs.declared.view.View.{View}
use Rattle.formulas.specs.Formula.{view_of}
use Rattle.formulas.specs.Normal.{Normal}
use Rattle.formulas.specs.Built.{Pool, Placed}
use Rattle.building.specs.Arrays.{pool_of}
use Rattle.building.specs.Walk.{State, Puts, FormKind, form_of, run_of, Formed, Known, OperandsKnown, Before, NormalBuilt, WalkReady}

-- ---- a pool
-- the cells in use
abbrev pub cells_in : IndexedPool → Pool
cells_in pool = pool_of pool.tags.now pool.values.now pool.count

-- a pool whose cells headers fill, with its index; a walk reads the cells before `end`
pub record PoolReady (end : ℕ) (pool : IndexedPool) : Type 0 where
  pub state : State end pool.count pool.tags.now pool.values.now
  pub has_index : HasIndex pool

-- the place that a call answers, with the count that it leaves
abbrev pub counted : Option TermPlace → ℕ → Option (TermPlace × ℕ)
counted (Some p) m = Some (p, m)
counted None m = None

-- r is the answer of a call that puts o into the pool, which leaves pool'
abbrev pub PutsIn : IndexedPool → Placed → Option TermPlace → IndexedPool → Type 0
PutsIn pool o r pool' = Puts pool.count pool.tags.now pool.values.now o (counted r pool'.count) pool'.tags.now pool'.values.now

-- the same where o is a term's whole form
abbrev pub NormalBuiltIn : IndexedPool → Placed → Option TermPlace → IndexedPool → Type 0
NormalBuiltIn pool o r pool' = NormalBuilt pool.count pool.tags.now pool.values.now o (counted r pool'.count) pool'.tags.now pool'.values.now

-- ---- a walk, which reads the cells before `end`, and its array
-- what the walkers start from
pub record Ready (w : FormKind) (end : ℕ) (pool : IndexedPool) (work : List ℕ) : Type 0 where
  pub walk_ready : WalkReady w end pool.count pool.tags.now pool.values.now work
  pub has_index : HasIndex pool

-- a term that it reads: its reading, its operands, its form
abbrev pub view_in : ℕ → IndexedPool → ℕ → View
view_in end pool t = view_of (take end pool.tags.now) (take end pool.values.now) t

abbrev pub run_in : ℕ → IndexedPool → ℕ → List ℕ
run_in end pool t = run_of end pool.tags.now pool.values.now t

abbrev pub BeforeIn : ℕ → IndexedPool → ℕ → Type 0
BeforeIn end pool t = Before end pool.tags.now pool.values.now t

abbrev pub form_in : FormKind → ℕ → IndexedPool → ℕ → Bool → Normal (List ℕ) ℕ
form_in w end pool t polarity = form_of w end pool.tags.now pool.values.now t polarity

-- r is the answer of a walker that puts the form f, which leaves pool' and work'
abbrev pub FormedIn : FormKind → ℕ → IndexedPool → List ℕ → Normal (List ℕ) ℕ → Option TermPlace → IndexedPool → List ℕ → Type 0
FormedIn w end pool work f r pool' work' =
    Formed w end pool.count pool.tags.now pool.values.now work f (counted r pool'.count) pool'.tags.now pool'.values.now work'

-- the same for the form of the term at t, which the memo then has
abbrev pub KnownIn : FormKind → ℕ → IndexedPool → List ℕ → ℕ → Bool → Option TermPlace → IndexedPool → List ℕ → Type 0
KnownIn w end pool work t polarity r pool' work' =
    Known w end pool.count pool.tags.now pool.values.now work t polarity (counted r pool'.count) pool'.tags.now pool'.values.now work'

-- the same for the forms of its operands, of which no place is answered
abbrev pub no_place : Option (Unit {0}) → Option TermPlace
no_place (Some u) = Some (term_at 0)
no_place None = None

abbrev pub OperandsIn : FormKind → ℕ → IndexedPool → List ℕ → ℕ → Bool → Option (Unit {0}) → IndexedPool → List ℕ → Type 0
OperandsIn w end pool work t polarity r pool' work' =
    OperandsKnown w end pool.count pool.tags.now pool.values.now work t polarity 0 (counted (no_place r) pool'.count) pool'.tags.now pool'.values.now work'
