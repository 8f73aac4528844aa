-- Values by recursion: a structure, which says what constants, functions, operators and binders mean, gives every term a value.
--     values_of      these values are Compositional, so that there are such values over any sorts with a value each
--     from-values    and the reading whose truth follows from them is one of FromValues
-- SMT-LIB 2.6, 5.3 ("Structures and Satisfiability"); what a connective or quantifier means is left to the structure as well.
-- Assumes nothing.
use Prim.Native.Nat.{ℕ}
use mathlib.Core.Path.{◌≡◌, refl, sym, ap, ap₂, subst, ◌∙◌, fun_ext, subst_refl}
use mathlib.Core.Bool.{Bool}
use mathlib.Core.HLevel.{hedberg}
use mathlib.Core.List.{List, [], ◌∷◌, Memᴰ}
use Rattle.meaning.specs.Sort.{Sort, Sort-discrete, no_sort}
use Rattle.meaning.specs.Term.{Vars, Term, Terms, Lets, stated, const, bit_vector, var, app, quant, bind, letin, op, no_term, tnil, tcons, lnil, lcons}
use Rattle.meaning.specs.Truth.{Assignment, Reading, assign}
use Rattle.meaning.specs.Values.{taking, naming, OneValue, Compositional, FromValues}

module _ (Value : Sort → Type 0) where
  abbrev A : Type 0
  A = Assignment Value

  -- a value with its sort
  abbrev Sorted : Type 0
  Sorted = (s : Sort) × Value s

  -- operators and functions go by their operands' values, binders by their body's at all values of their variables
  pub record Structure : Type 0 where
    pub some : (s : Sort) → Value s
    pub constant : ℕ → (s : Sort) → ℕ → Value s
    pub bits : (s : Sort) → ℕ → ℕ → Value s
    pub application : (s : Sort) → Sorted → List Sorted → Value s
    pub operator : ℕ → (s : Sort) → List Sorted → Value s
    pub quantifier : Bool → (s : Sort) → Vars → (A → Sorted) → Value s
    pub binder : ℕ → (s : Sort) → Vars → (A → Sorted) → Value s

  module _ (S : Structure) where
    -- a value of the sort s as one of z: itself if the two are one
    cast_by : (s z : Sort) → Dec (s ≡ z) → Value s → Value z
    cast_by s z (yes e) x = subst Value e x
    cast_by s z (no n) x = S.some z

    abbrev cast : (s z : Sort) → Value s → Value z
    cast s z x = cast_by s z (Sort-discrete s z) x

    cast-by-own : (s : Sort) (d : Dec (s ≡ s)) (x : Value s) → cast_by s s d x ≡ x
    unfolding cast_by
    cast-by-own s (yes e) x = ap (λ (q : s ≡ s). subst Value q x) (hedberg Sort-discrete s s e refl) ∙ subst_refl Value {x = s} x
    cast-by-own s (no n) x = absurd (n refl)

    cast-own : (s : Sort) (x : Value s) → cast s s x ≡ x
    cast-own s x = cast-by-own s (Sort-discrete s s) x

    mutual
      unfolding stated

      pub value : (t : Term) → A → Value (stated t)
      value (const k s c) ρ = S.constant k s c
      value (bit_vector s w c) ρ = S.bits s w c
      value (var v) ρ = ρ v
      value (app s f ts) ρ = S.application s (stated f, value f ρ) (each ts ρ)
      value (quant b s vs t) ρ = S.quantifier b s vs (λ τ. (stated t, value t (taking Value vs τ ρ)))
      value (bind k s vs t) ρ = S.binder k s vs (λ τ. (stated t, value t (taking Value vs τ ρ)))
      value (letin s ls t) ρ = cast (stated t) s (value t (named ls ρ ρ))
      value (op k s ts) ρ = S.operator k s (each ts ρ)
      value no_term ρ = S.some no_sort

      each : Terms → A → List Sorted
      each tnil ρ = []
      each (tcons t ts) ρ = (stated t, value t ρ) ∷ each ts ρ

      -- a let's names take the values' values at ρ; σ's elsewhere
      named : Lets → A → A → A
      named lnil ρ σ = σ
      named (lcons a t ls) ρ σ = named ls ρ (assign Value σ (record { name = a; sort = stated t }) (value t ρ))

    named-is : (ls : Lets) (ρ σ : A) → named ls ρ σ ≡ naming Value value ls ρ σ
    unfolding named naming
    named-is lnil ρ σ = refl
    named-is (lcons a t ls) ρ σ = named-is ls ρ (assign Value σ (record { name = a; sort = stated t }) (value t ρ))

    one_each : (ts : Terms) (ρ σ : A) → OneValue Value value ts ρ σ → each ts ρ ≡ each ts σ
    unfolding each
    one_each tnil ρ σ o = refl
    one_each (tcons t ts) ρ σ o = ap₂ (λ (x : Value (stated t)) (xs : List Sorted). (stated t, x) ∷ xs) o.0 (one_each ts ρ σ o.1)

    pub values_of : Compositional Value
    unfolding value stated
    values_of =
        record {
          value = value;
          cast = λ s z x. cast s z x;
          cast-own = cast-own;
          of-variable = λ v ρ. sym (cast-own v.sort (ρ v));
          of-let = λ s ls t ρ. ap (λ (σ : A). cast (stated t) s (value t σ)) (named-is ls ρ ρ);
          of-constant = λ k s c ρ σ. refl;
          of-bits = λ s w c ρ σ. refl;
          of_none = λ ρ σ. refl;
          of-application = λ s f ts ρ σ e o. ap₂ (λ (x : Value (stated f)) (xs : List Sorted). S.application s (stated f, x) xs) e (one_each ts ρ σ o);
          of-operator = λ k s ts ρ σ o. ap (S.operator k s) (one_each ts ρ σ o);
          of-quantifier = λ b s vs t ρ σ o. ap (S.quantifier b s vs) (fun_ext (λ τ. ap (λ (x : Value (stated t)). (stated t, x)) (o τ)));
          of-binder = λ k s vs t ρ σ o. ap (S.binder k s vs) (fun_ext (λ τ. ap (λ (x : Value (stated t)). (stated t, x)) (o τ)));
        }

    module _ (values : (s : Sort) → List (Value s)) (listed : (s : Sort) (x : Value s) → Memᴰ x (values s)) (truth_of : (s : Sort) → Value s → Bool) where
      abbrev pub reading : Reading
      reading = record { Value = Value; values = values; listed = listed; opaque-truth = λ t ρ. truth_of (stated t) (value t ρ) }

      pub from-values : FromValues reading
      unfolding values_of
      from-values = record { values = values_of; truth_of = truth_of; of-truth = λ t ρ. refl }
