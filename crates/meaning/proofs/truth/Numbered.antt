-- Readings whose values are numbers are enough: a term has in a reading the value that it has in one with numbers. Each value stands in the
-- list of its sort's values, and its number is its position there; an opaque term's truth is asked of the values that the numbers are read
-- as.
--     numbers-true      a term's value in the reading with numbers
--     every_value       SameValue holds in every reading
--     every-clauses     so does ClausesSay
-- Nothing is asked of locality.
-- Assumes nothing.
use Prim.Native.Nat.{zero, suc, Fin, zero-le, suc-le-suc}
use mathlib.Core.Path.{◌≡◌, refl, sym, ap, ap₂, ◌∙◌, fun_ext}
use mathlib.Core.Bool.{Bool, ◌&&◌, ◌||◌}
use mathlib.Core.List.{List, [], ◌∷◌, Memᴰ}
use lib.ListN.{length, get_or}
use Rattle.meaning.specs.Sort.{Sort}
use Rattle.meaning.specs.Term.{Var, Vars, Term}
use Rattle.meaning.specs.FreeTree.{has}
use Rattle.formulas.specs.Normal.{flip}
use Rattle.meaning.specs.Skeleton.{skeleton, IsOpaque}
use Rattle.meaning.specs.Truth.{Assignment, Reading, over, True, some_true, each_some_true, HasValue, Says}
use Rattle.meaning.specs.Numbered.{Numbers, numbered, SameValue, ClausesSay}
use Rattle.meaning.proofs.truth.Over.{bool_cases, same-at, Within, mix, mix-in, mix-out, over-elim, over-intro}
use Rattle.meaning.proofs.truth.Leaves.{skeleton-leaves}
use Rattle.meaning.proofs.truth.TruthAlong.{truth-along}

-- a position at which a member stands
position : {A : Type 0} {x : A} {xs : List A} (d : A) → Memᴰ x xs → (i : Fin (suc (length xs))) × (get_or xs i.0 d ≡ x)
position {xs = y ∷ ys} d (Memᴰ.head e) = ((zero, suc-le-suc zero-le), sym e)
position {xs = y ∷ ys} d (Memᴰ.tail m) = let r = position d m in (native.Mathlib.Fin.succ r.0, r.1)
position {A = A} {xs = []} d x3 = elim x3 [ ]

module _ (R : Reading) (start : Assignment R.Value) where
  -- the sort's value that stands at a number; past the list, a value that the assignment `start` gives
  abbrev some : (s : Sort) → R.Value s
  some s = start (record { name = 0; sort = s })

  abbrev pub at : (s : Sort) → Fin (suc (length (R.values s))) → R.Value s
  at s i = get_or (R.values s) i.0 (some s)

  abbrev pub read : ((v : Var) → Fin (suc (length (R.values v.sort)))) → Assignment R.Value
  read ρ v = at v.sort (ρ v)

  abbrev pub numbers : Numbers
  numbers = record { most = λ s. length (R.values s); opaque-truth = λ t ρ. R.opaque-truth t (read ρ) }

  abbrev pub N : Reading
  N = numbered numbers

  abbrev A : Type 0
  A = Assignment N.Value

  -- the numbers of an assignment's values
  pub code : Assignment R.Value → A
  code ρ v = (position (some v.sort) (R.listed v.sort (ρ v))).0

  read-code : (ρ : Assignment R.Value) (v : Var) → read (code ρ) v ≡ ρ v
  unfolding code
  read-code ρ v = (position (some v.sort) (R.listed v.sort (ρ v))).1

  -- σ, which differs from what ρ is read as in vs alone, is read from its own numbers in vs and those of ρ elsewhere
  read-mix : (vs : Vars) (ρ : A) (σ : Assignment R.Value) → Within R.Value vs (read ρ) σ
      → (v : Var) → read (mix N.Value vs (code σ) ρ) v ≡ σ v
  read-mix vs ρ σ w v =
      bool_cases (has vs v)
      (λ q. ap (at v.sort) (mix-in N.Value vs (code σ) ρ v q) ∙ read-code σ v)
      (λ q. ap (at v.sort) (mix-out N.Value vs (code σ) ρ v q) ∙ sym (w v q))

  numbers-over : (b : Bool) (vs : Vars) (p : Assignment R.Value → Bool) (ρ : A)
      → over N b vs (λ σ. p (read σ)) ρ ≡ over R b vs p (read ρ)
  numbers-over b vs p ρ =
      same-at b _ _
      (λ e. over-intro R b vs p (read ρ)
      (λ σ w. sym (ap p (fun_ext (read-mix vs ρ σ w)))
      ∙ over-elim N b vs (λ τ. p (read τ)) ρ (mix N.Value vs (code σ) ρ) (mix-out N.Value vs (code σ) ρ) e))
      (λ e. over-intro N b vs (λ τ. p (read τ)) ρ
      (λ σ w. over-elim R b vs p (read ρ) (read σ) (λ v q. ap (at v.sort) (w v q)) e))

  pub numbers-true : (c : Term) (ρ : A) → True N c ρ ≡ True R c (read ρ)
  unfolding True
  numbers-true c ρ = truth-along N R read IsOpaque (λ t o σ. refl) numbers-over (skeleton c) (skeleton-leaves c) ρ

  numbers-some : (c : List Term) (ρ : A) → some_true N c ρ ≡ some_true R c (read ρ)
  numbers-some [] ρ = refl
  numbers-some (t ∷ c) ρ = ap₂ ◌||◌ (numbers-true t ρ) (numbers-some c ρ)

  numbers-each : (cs : List (List Term)) (ρ : A) → each_some_true N cs ρ ≡ each_some_true R cs (read ρ)
  numbers-each [] ρ = refl
  numbers-each (c ∷ cs) ρ = ap₂ ◌&&◌ (numbers-some c ρ) (numbers-each cs ρ)

  -- the values that the assignment gives are read from their numbers
  pub start-read : read (code start) ≡ start
  start-read = fun_ext (read-code start)

-- ---- what holds of numbers holds in every reading
pub every_value : (p : Bool) (x t : Term) → SameValue p x t → (R : Reading) → HasValue R p x t
every_value p x t h R ρ =
    sym (ap (True R x) (start-read R ρ))
    ∙ (sym (numbers-true R ρ x (code R ρ ρ))
    ∙ (h (numbers R ρ) (code R ρ ρ)
    ∙ ap (λ (b : Bool). flip b p) (numbers-true R ρ t (code R ρ ρ) ∙ ap (True R t) (start-read R ρ))))

pub every-clauses : (cs : List (List Term)) (t : Term) → ClausesSay cs t → (R : Reading) → Says R cs t
every-clauses cs t h R ρ =
    sym (ap (each_some_true R cs) (start-read R ρ))
    ∙ (sym (numbers-each R ρ cs (code R ρ ρ))
    ∙ (h (numbers R ρ) (code R ρ ρ)
    ∙ (numbers-true R ρ t (code R ρ ρ) ∙ ap (True R t) (start-read R ρ))))
