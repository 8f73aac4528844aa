-- Two readings that agree on a formula's leaves and on quantifiers agree on the formula.
-- Assumes nothing.
use mathlib.Core.Path.{◌≡◌, refl, ap, ap₂, ◌∙◌}
use mathlib.Core.Bool.{Bool, not, ◌||◌, cond, beq}
use Rattle.meaning.specs.Term.{Vars, Term}
use Rattle.formulas.specs.Formula.{Form, Forms, opaque, neg, many, imp, ite, iff, all, fnil, fcons}
use Rattle.meaning.specs.Truth.{Assignment, Reading, and_or, over, truth, truths}
use Rattle.meaning.proofs.truth.Leaves.{Each, EachOf}

-- the assignment ρ of S is read in R as d ρ; the leaves have the property P
module _ (S R : Reading) (d : Assignment S.Value → Assignment R.Value) (P : Term → Type 0)
    (leaf : (t : Term) → P t → (ρ : Assignment S.Value) → S.opaque-truth t ρ ≡ R.opaque-truth t (d ρ))
    (quantified : (b : Bool) (vs : Vars) (p : Assignment R.Value → Bool) (ρ : Assignment S.Value)
    → over S b vs (λ σ. p (d σ)) ρ ≡ over R b vs p (d ρ)) where
  mutual
    pub truth-along : (f : Form Vars Term) → Each P f → (ρ : Assignment S.Value) → truth S f ρ ≡ truth R f (d ρ)
    truth-along (opaque t) o ρ = leaf t o ρ
    truth-along (neg f) o ρ = ap not (truth-along f o ρ)
    truth-along (many b fs) o ρ = truths-along b fs o ρ
    truth-along (imp f g) o ρ = ap₂ (λ (x y : Bool). not x || y) (truth-along f o.0 ρ) (truth-along g o.1 ρ)
    truth-along (ite f g h) o ρ = λ i. cond (truth-along f o.0 ρ i) (truth-along g o.1 ρ i) (truth-along h o.2 ρ i)
    truth-along (iff f g) o ρ = ap₂ beq (truth-along f o.0 ρ) (truth-along g o.1 ρ)
    truth-along (all b vs f) o ρ = (λ i. over S b vs (λ σ. truth-along f o σ i) ρ) ∙ quantified b vs (truth R f) ρ

    truths-along : (b : Bool) (fs : Forms Vars Term) → EachOf P fs → (ρ : Assignment S.Value) → truths S b fs ρ ≡ truths R b fs (d ρ)
    truths-along b fnil o ρ = refl
    truths-along b (fcons f fs) o ρ = ap₂ (and_or b) (truth-along f o.0 ρ) (truths-along b fs o.1 ρ)
