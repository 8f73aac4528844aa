-- Readings in which every term has a value: a let that of its body where its names take the values' values, and every other term one from
-- its parts'.
--     Compositional Value     such values of terms, over the sorts' values
--     FromValues R            the truth of R's opaque terms follows from such values
-- SMT-LIB 2.6, 3.6.1: a let's names take the values of the terms bound to them, all read outside the let ("parallel"). Of a repeated name,
-- which SMT-LIB does not have, the last binds, as in a quantifier's list.
-- Rests on Sort, Term, FreeTree and Truth.
use Rattle.std.specs.Prelude.{ℕ, ◌≡◌, Bool, cond}
use Rattle.meaning.specs.Sort.{Sort}
use Rattle.meaning.specs.Term.{Var, Vars, Term, Terms, Lets, stated, const, bit_vector, var, app, quant, bind, letin, op, no_term, tnil, tcons, lnil, lcons}
use Rattle.meaning.specs.FreeTree.{has}
use Rattle.meaning.specs.Truth.{Assignment, Reading, assign}

module _ (Value : Sort → Type 0) where
  -- a value of the stated sort for every term
  abbrev pub Valuation : Type 0
  Valuation = (t : Term) → Assignment Value → Value (stated t)

  -- the variables of vs take τ's values, and keep ρ's elsewhere
  unfoldable pub taking : Vars → Assignment Value → Assignment Value → Assignment Value
  taking vs τ ρ v = cond (has vs v) (τ v) (ρ v)

  module _ (value : Valuation) where
    -- a let's names take the values that the terms have at ρ; σ's elsewhere
    unfoldable pub naming : Lets → Assignment Value → Assignment Value → Assignment Value
    naming lnil ρ σ = σ
    naming (lcons a t ls) ρ σ = naming ls ρ (assign Value σ (record { name = a; sort = stated t }) (value t ρ))

    -- each term of a list has one value at ρ and at σ
    abbrev pub OneValue : Terms → Assignment Value → Assignment Value → Type 0
    OneValue tnil ρ σ = Unit {0}
    OneValue (tcons t ts) ρ σ = (value t ρ ≡ value t σ) × OneValue ts ρ σ

  pub record Compositional : Type 0 where
    pub value : Valuation
    -- a value as one of another sort; as one of its own it is itself. Variables and the lets of a passed pool state their own sorts
    pub cast : (s z : Sort) → Value s → Value z
    pub cast-own : (s : Sort) (x : Value s) → cast s s x ≡ x
    pub of-variable : (v : Var) (ρ : Assignment Value) → value (var v) ρ ≡ cast v.sort (stated (var v)) (ρ v)
    -- a let: the value of its body where its names take the values' values
    pub of-let : (s : Sort) (ls : Lets) (t : Term) (ρ : Assignment Value)
        → value (letin s ls t) ρ ≡ cast (stated t) (stated (letin s ls t)) (value t (naming value ls ρ ρ))
    -- every other term: the same from the same parts. A binder's part is its body at all values of its variables
    pub of-constant : (k : ℕ) (s : Sort) (c : ℕ) (ρ σ : Assignment Value) → value (const k s c) ρ ≡ value (const k s c) σ
    pub of-bits : (s : Sort) (w c : ℕ) (ρ σ : Assignment Value) → value (bit_vector s w c) ρ ≡ value (bit_vector s w c) σ
    pub of_none : (ρ σ : Assignment Value) → value no_term ρ ≡ value no_term σ
    pub of-application : (s : Sort) (f : Term) (ts : Terms) (ρ σ : Assignment Value) → value f ρ ≡ value f σ → OneValue value ts ρ σ
        → value (app s f ts) ρ ≡ value (app s f ts) σ
    pub of-operator : (k : ℕ) (s : Sort) (ts : Terms) (ρ σ : Assignment Value) → OneValue value ts ρ σ → value (op k s ts) ρ ≡ value (op k s ts) σ
    pub of-quantifier : (b : Bool) (s : Sort) (vs : Vars) (t : Term) (ρ σ : Assignment Value)
        → ((τ : Assignment Value) → value t (taking vs τ ρ) ≡ value t (taking vs τ σ)) → value (quant b s vs t) ρ ≡ value (quant b s vs t) σ
    pub of-binder : (k : ℕ) (s : Sort) (vs : Vars) (t : Term) (ρ σ : Assignment Value)
        → ((τ : Assignment Value) → value t (taking vs τ ρ) ≡ value t (taking vs τ σ)) → value (bind k s vs t) ρ ≡ value (bind k s vs t) σ

-- truth follows from value
pub record FromValues (R : Reading) : Type 0 where
  pub values : Compositional R.Value
  pub truth_of : (s : Sort) → R.Value s → Bool
  pub of-truth : (t : Term) (ρ : Assignment R.Value) → R.opaque-truth t ρ ≡ truth_of (stated t) (values.value t ρ)
