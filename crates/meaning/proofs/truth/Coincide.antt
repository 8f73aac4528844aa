-- A formula's truth changes only with the values of its free variables, if that of opaque terms does; and a term's free variables are those
-- of its formula.
--     coincide          of formulas
--     free-skeleton     of a term and its formula
--     term-coincide     of terms
-- Assumes nothing.
use Prim.Native.Nat.{ℕ}
use mathlib.Core.Path.{◌≡◌, refl, sym, ap, ap₂, ◌∙◌}
use mathlib.Core.Bool.{Bool, true, false, not, ◌&&◌, ◌||◌, cond, beq, or-false}
use lib.Dec.{eqb}
use Rattle.meaning.specs.Term.{Var, Vars, Term, Terms, const, bit_vector, var, app, quant, bind, letin, op, no_term, tnil, tcons}
use Rattle.meaning.specs.FreeTree.{has, free, frees}
use Rattle.formulas.specs.Formula.{Form, Forms, opaque, neg, many, imp, ite, iff, all, fnil, fcons}
use Rattle.meaning.specs.Skeleton.{skeleton, skeletons, IsOpaque, left_bool, not_of, implies_of, ite_of, iff_of, form_of}
use Rattle.meaning.specs.Truth.{Assignment, Reading, Local, and_or, over, truth, truths, True}
use Rattle.meaning.proofs.truth.Leaves.{Each, EachOf, skeleton-leaves}
use Rattle.meaning.proofs.truth.Over.{bool_cases, same-at, and_or-intro, or_left, or_right, Within, mix, mix-in, mix-out, over-elim, over-intro}

-- the free variables of a formula, from those of its opaque terms
abbrev mutual
  pub free_f : Form Vars Term → Var → Bool
  free_f (opaque t) v = free t v
  free_f (neg f) v = free_f f v
  free_f (many b fs) v = free_fs fs v
  free_f (imp f g) v = free_f f v || free_f g v
  free_f (ite f g h) v = free_f f v || (free_f g v || free_f h v)
  free_f (iff f g) v = free_f f v || free_f g v
  free_f (all b vs f) v = not (has vs v) && free_f f v

  pub free_fs : Forms Vars Term → Var → Bool
  free_fs fnil v = false
  free_fs (fcons f fs) v = free_f f v || free_fs fs v

-- ---- truth
module _ (R : Reading) where
  abbrev A : Type 0
  A = Assignment R.Value

  -- p changes only with the values of the variables that F marks
  abbrev pub Rests : (Var → Bool) → (A → Bool) → Type 0
  Rests F p = (ρ σ : A) → ((v : Var) → F v ≡ true → ρ v ≡ σ v) → p ρ ≡ p σ

  over-half : (b : Bool) (vs : Vars) (p : A → Bool) (F : Var → Bool) → Rests F p
      → (ρ σ : A) → ((v : Var) → (not (has vs v) && F v) ≡ true → ρ v ≡ σ v) → over R b vs p ρ ≡ b → over R b vs p σ ≡ b
  over-half b vs p F rests ρ σ h e =
      over-intro R b vs p σ
      (λ τ w. rests τ (mix R.Value vs τ ρ) (at τ w) ∙ over-elim R b vs p ρ (mix R.Value vs τ ρ) (mix-out R.Value vs τ ρ) e)
    where
      at : (τ : A) → Within R.Value vs σ τ → (v : Var) → F v ≡ true → τ v ≡ mix R.Value vs τ ρ v
      at τ w v f =
          bool_cases (has vs v) (λ q. sym (mix-in R.Value vs τ ρ v q))
          (λ q. w v q ∙ (sym (h v (and_or-intro true (not (has vs v)) (F v) (ap not q) f)) ∙ sym (mix-out R.Value vs τ ρ v q)))

  -- a quantifier removes its list
  pub over-rests : (b : Bool) (vs : Vars) (p : A → Bool) (F : Var → Bool) → Rests F p → Rests (λ v. not (has vs v) && F v) (over R b vs p)
  over-rests b vs p F rests ρ σ h = same-at b _ _ (over-half b vs p F rests ρ σ h) (over-half b vs p F rests σ ρ (λ v f. sym (h v f)))

  module _ (local : Local R) where
    mutual
      pub coincide : (f : Form Vars Term) → Each IsOpaque f → Rests (free_f f) (truth R f)
      coincide (opaque t) o ρ σ h = local t o ρ σ h
      coincide (neg f) o ρ σ h = ap not (coincide f o ρ σ h)
      coincide (many b fs) o ρ σ h = coincides fs o b ρ σ h
      coincide (imp f g) o ρ σ h =
          ap₂ (λ (x y : Bool). not x || y) (coincide f o.0 ρ σ (λ v e. h v (or_left _ _ e)))
          (coincide g o.1 ρ σ (λ v e. h v (or_right (free_f f v) _ e)))
      coincide (ite f g k) o ρ σ h =
          λ i. cond (coincide f o.0 ρ σ (λ v e. h v (or_left _ _ e)) i)
          (coincide g o.1 ρ σ (λ v e. h v (or_right (free_f f v) _ (or_left _ _ e))) i)
          (coincide k o.2 ρ σ (λ v e. h v (or_right (free_f f v) _ (or_right (free_f g v) _ e))) i)
      coincide (iff f g) o ρ σ h =
          ap₂ beq (coincide f o.0 ρ σ (λ v e. h v (or_left _ _ e))) (coincide g o.1 ρ σ (λ v e. h v (or_right (free_f f v) _ e)))
      coincide (all b vs f) o ρ σ h = over-rests b vs (truth R f) (free_f f) (coincide f o) ρ σ h

      pub coincides : (fs : Forms Vars Term) → EachOf IsOpaque fs → (b : Bool) → Rests (free_fs fs) (truths R b fs)
      coincides fnil o b ρ σ h = refl
      coincides (fcons f fs) o b ρ σ h =
          ap₂ (and_or b) (coincide f o.0 ρ σ (λ v e. h v (or_left _ _ e)))
          (coincides fs o.1 b ρ σ (λ v e. h v (or_right (free_f f v) _ e)))

-- ---- a term's free variables are its formula's
module _ (t : Term) (v : Var) where
  -- an operator's formula, if the operator's free variables are those of its operands
  abbrev Has : Forms Vars Term → Form Vars Term → Type 0
  Has fs f = free t v ≡ free_fs fs v → free_f f v ≡ free_fs fs v

  not_free : (fs : Forms Vars Term) → Has fs (not_of t fs)
  unfolding not_of
  not_free fnil e = e
  not_free (fcons f fnil) e = sym (or-false (free_f f v))
  not_free (fcons f (fcons g fs)) e = e

  implies-free : (fs : Forms Vars Term) → Has fs (implies_of t fs)
  unfolding implies_of
  implies-free fnil e = e
  implies-free (fcons f fnil) e = e
  implies-free (fcons f (fcons g fnil)) e = rw or-false
  implies-free (fcons f (fcons g (fcons h fs))) e = e

  ite-free : (fs : Forms Vars Term) → Has fs (ite_of t fs)
  unfolding ite_of
  ite-free fnil e = e
  ite-free (fcons f fnil) e = e
  ite-free (fcons f (fcons g fnil)) e = e
  ite-free (fcons f (fcons g (fcons h fnil))) e = rw or-false
  ite-free (fcons f (fcons g (fcons h (fcons k fs)))) e = e

  iff-free : (fs : Forms Vars Term) → Has fs (iff_of t fs)
  unfolding iff_of
  iff-free fnil e = e
  iff-free (fcons f fnil) e = e
  iff-free (fcons f (fcons g fnil)) e = rw or-false
  iff-free (fcons f (fcons g (fcons h fs))) e = e

  cond-free : (b : Bool) (fs : Forms Vars Term) (f g : Form Vars Term) → Has fs f → Has fs g → Has fs (cond b f g)
  cond-free true fs f g l r = l
  cond-free false fs f g l r = r

  form_of-free : (tag : ℕ) (left : Bool) (fs : Forms Vars Term) → Has fs (form_of t tag left fs)
  unfolding form_of
  form_of-free tag left fs =
      cond-free (eqb tag 36) fs _ _ (λ e. refl)
      (cond-free (eqb tag 37) fs _ _ (λ e. refl)
      (cond-free (eqb tag 39) fs _ _ (cond-free left fs _ _ (iff-free fs) (λ e. e))
      (cond-free (eqb tag 34) fs _ _ (not_free fs)
      (cond-free (eqb tag 35) fs _ _ (implies-free fs)
      (cond-free (eqb tag 41) fs _ _ (ite-free fs) (λ e. e))))))

mutual
  unfolding skeleton free

  pub free-skeleton : (t : Term) (v : Var) → free_f (skeleton t) v ≡ free t v
  free-skeleton (const k s c) v = refl
  free-skeleton (bit_vector s w c) v = refl
  free-skeleton (var u) v = refl
  free-skeleton (app s f ts) v = refl
  free-skeleton (quant b s vs t) v = ap (λ (x : Bool). not (has vs v) && x) (free-skeleton t v)
  free-skeleton (bind k s vs t) v = refl
  free-skeleton (letin s ls t) v = refl
  free-skeleton (op k s ts) v =
      form_of-free (op k s ts) v k (left_bool ts) (skeletons ts) (sym (frees-skeletons ts v)) ∙ frees-skeletons ts v
  free-skeleton no_term v = refl

  pub frees-skeletons : (ts : Terms) (v : Var) → free_fs (skeletons ts) v ≡ frees ts v
  frees-skeletons tnil v = refl
  frees-skeletons (tcons t ts) v = ap₂ ◌||◌ (free-skeleton t v) (frees-skeletons ts v)

pub term-coincide : (R : Reading) → Local R → (t : Term) → Rests R (free t) (True R t)
unfolding True
term-coincide R local t ρ σ h = coincide R local (skeleton t) (skeleton-leaves t) ρ σ (λ v e. h v (sym (free-skeleton t v) ∙ e))
