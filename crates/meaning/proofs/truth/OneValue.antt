-- Where every term has a value from its parts', two assignments that agree on a term's free variables give it one value.
--     one_value        that
--     values-local     so a reading whose truth follows from such values is Local, lets included: why demand 3 may ask that of lets
-- Assumes nothing.
use mathlib.Core.Path.{◌≡◌, refl, sym, ap, ap₂, subst, ◌∙◌}
use mathlib.Core.Bool.{Bool, true, false, not, ◌&&◌, ◌||◌}
use Rattle.meaning.specs.Sort.{Sort}
use Rattle.meaning.specs.Term.{Var, Vars, Term, Terms, Lets, stated, const, bit_vector, var, app, quant, bind, letin, op, no_term, tnil, tcons, lnil, lcons}
use Rattle.meaning.specs.FreeTree.{same, has, let_vars, free, frees, free_values}
use Rattle.meaning.specs.Truth.{Assignment, Reading, Local, assign}
use Rattle.meaning.specs.Values.{Valuation, taking, naming, OneValue, Compositional, FromValues}
use Rattle.meaning.proofs.truth.Over.{bool_cases, and_or-intro, or_left, or_right, same-eq, same_not, same_refl, assign-same, assign_other}

module _ (Value : Sort → Type 0) where
  abbrev A : Type 0
  A = Assignment Value

  -- ρ and σ agree on the variables that F marks
  abbrev pub Agree : (Var → Bool) → A → A → Type 0
  Agree F ρ σ = (v : Var) → F v ≡ true → ρ v ≡ σ v

  -- under a binder they agree on its variables besides
  taking-agree : (vs : Vars) (F : Var → Bool) (τ ρ σ : A) → Agree (λ v. not (has vs v) && F v) ρ σ → Agree F (taking Value vs τ ρ) (taking Value vs τ σ)
  unfolding taking
  taking-agree vs F τ ρ σ h v f =
      bool_cases (has vs v) (λ q. rw q) (λ q. rw q (h v (and_or-intro true (not (has vs v)) (F v) (ap not q) f)))

  module _ (value : Valuation Value) where
    -- each value of a let is one at ρ and at σ
    abbrev OneEach : Lets → A → A → Type 0
    OneEach lnil ρ σ = Unit {0}
    OneEach (lcons a t ls) ρ σ = (value t ρ ≡ value t σ) × OneEach ls ρ σ

    -- where a let's names take the same values they agree on them, and elsewhere where they did
    naming-agree : (ls : Lets) (ρ σ α β : A) → OneEach ls ρ σ → (v : Var) → (has (let_vars ls) v ≡ false → α v ≡ β v)
        → naming Value value ls ρ α v ≡ naming Value value ls σ β v
    unfolding naming has let_vars
    naming-agree lnil ρ σ α β o v h = h refl
    naming-agree (lcons a t ls) ρ σ α β o v h =
        naming-agree ls ρ σ (assign Value α u (value t ρ)) (assign Value β u (value t σ)) o.1 v
        (λ e. bool_cases (same u v)
        (λ q. subst (λ (w : Var). assign Value α u (value t ρ) w ≡ assign Value β u (value t σ) w) (same-eq u v q)
        (assign-same Value α u (value t ρ) ∙ (o.0 ∙ sym (assign-same Value β u (value t σ)))))
        (λ q. assign_other Value α u v (value t ρ) (same_not u v q) ∙ (h (ap₂ ◌||◌ q e) ∙ sym (assign_other Value β u v (value t σ) (same_not u v q)))))
      where
        u : Var
        u = record { name = a; sort = stated t }

  module _ (C : Compositional Value) where
    mutual
      unfolding free

      pub one_value : (t : Term) (ρ σ : A) → Agree (free t) ρ σ → C.value t ρ ≡ C.value t σ
      one_value (const k s c) ρ σ h = C.of-constant k s c ρ σ
      one_value (bit_vector s w c) ρ σ h = C.of-bits s w c ρ σ
      one_value (var v) ρ σ h =
          C.of-variable v ρ ∙ (ap (C.cast v.sort (stated (var v))) (h v (same_refl v)) ∙ sym (C.of-variable v σ))
      one_value (app s f ts) ρ σ h =
          C.of-application s f ts ρ σ (one_value f ρ σ (λ v e. h v (or_left (free f v) (frees ts v) e)))
          (one_each ts ρ σ (λ v e. h v (or_right (free f v) (frees ts v) e)))
      one_value (quant b s vs t) ρ σ h =
          C.of-quantifier b s vs t ρ σ (λ τ. one_value t (taking Value vs τ ρ) (taking Value vs τ σ) (taking-agree vs (free t) τ ρ σ h))
      one_value (bind k s vs t) ρ σ h =
          C.of-binder k s vs t ρ σ (λ τ. one_value t (taking Value vs τ ρ) (taking Value vs τ σ) (taking-agree vs (free t) τ ρ σ h))
      one_value (letin s ls t) ρ σ h =
          C.of-let s ls t ρ
          ∙ (ap (C.cast (stated t) (stated (letin s ls t)))
          (one_value t (naming Value C.value ls ρ ρ) (naming Value C.value ls σ σ)
          (λ v e. naming-agree C.value ls ρ σ ρ σ
          (one-values ls ρ σ (λ w q. h w (or_left (free_values ls w) (not (has (let_vars ls) w) && free t w) q))) v
          (λ q. h v (or_right (free_values ls v) (not (has (let_vars ls) v) && free t v) (and_or-intro true (not (has (let_vars ls) v)) (free t v) (ap not q) e)))))
          ∙ sym (C.of-let s ls t σ))
      one_value (op k s ts) ρ σ h = C.of-operator k s ts ρ σ (one_each ts ρ σ h)
      one_value no_term ρ σ h = C.of_none ρ σ

      pub one_each : (ts : Terms) (ρ σ : A) → Agree (frees ts) ρ σ → OneValue Value C.value ts ρ σ
      one_each tnil ρ σ h = tt
      one_each (tcons t ts) ρ σ h =
          (one_value t ρ σ (λ v e. h v (or_left (free t v) (frees ts v) e)), one_each ts ρ σ (λ v e. h v (or_right (free t v) (frees ts v) e)))

      one-values : (ls : Lets) (ρ σ : A) → Agree (free_values ls) ρ σ → OneEach C.value ls ρ σ
      one-values lnil ρ σ h = tt
      one-values (lcons a t ls) ρ σ h =
          (one_value t ρ σ (λ v e. h v (or_left (free t v) (free_values ls v) e)), one-values ls ρ σ (λ v e. h v (or_right (free t v) (free_values ls v) e)))

-- what demand 3 asks of readings holds of these
pub values-local : (R : Reading) → FromValues R → Local R
values-local R F t o ρ σ h =
    F.of-truth t ρ ∙ (ap (F.truth_of (stated t)) (one_value R.Value F.values t ρ σ h) ∙ sym (F.of-truth t σ))
