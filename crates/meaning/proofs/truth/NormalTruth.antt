-- The normal form has the formula's value at true polarity and the negated value at false polarity, in every reading, also where an opaque
-- term's truth depends on every variable.
--     nnf-truth        of formulas
--     build-truth      the term of a normal form has the normal form's value, if its leaves are opaque
--     normal-truth     of terms
-- Assumes nothing.
use mathlib.Core.Path.{◌≡◌, refl, ap, ap₂, ◌∙◌, sym}
use mathlib.Core.Bool.{Bool, true, false, not, ◌||◌, cond, beq, or-false, and-true}
use Rattle.meaning.specs.Term.{Vars, Term}
use Rattle.formulas.specs.Formula.{Form, Forms, opaque, neg, many, imp, ite, iff, all, fnil, fcons}
use Rattle.formulas.specs.Normal.{Normal, Normals, lit, nmany, nall, nnil, ncons, flip, nnf, nnfs}
use Rattle.meaning.specs.Skeleton.{skeleton, skeletons, IsOpaque, form_of, not_of, build, builds}
use Rattle.meaning.specs.Truth.{Assignment, Reading, and_or, over, truth, truths, True, truth_n, truth_ns, HasValue}
use Rattle.meaning.proofs.truth.Over.{same-at, over-elim, over-intro}
use Rattle.meaning.proofs.truth.Leaves.{EachN, EachNs, nnf-each, skeleton-leaves}

-- ---- Booleans: p is the polarity
flip-not : (x p : Bool) → flip x (not p) ≡ flip (not x) p
flip-not true true = refl
flip-not true false = refl
flip-not false true = refl
flip-not false false = refl

many-flip : (b p x y : Bool) → and_or (flip b p) (flip x p) (flip y p) ≡ flip (and_or b x y) p
many-flip true true x y = refl
many-flip true false true y = refl
many-flip true false false y = refl
many-flip false true x y = refl
many-flip false false true y = refl
many-flip false false false y = refl

-- the value of an `and` or an `or` of two
abbrev of_two : Bool → Bool → Bool → Bool
of_two b x y = and_or b x (and_or b y b)

imp-flip : (p x y : Bool) → of_two (not p) (flip x (not p)) (flip y p) ≡ flip (not x || y) p
imp-flip true true y = or-false y
imp-flip true false y = refl
imp-flip false true y = and-true (not y)
imp-flip false false y = refl

ite-flip : (p x y z : Bool)
    → of_two p (of_two (not p) (flip x (not p)) (flip y p)) (of_two (not p) (flip x p) (flip z p)) ≡ flip (cond x y z) p
ite-flip true true y z = simp (or-false, and-true)
ite-flip true false y z = simp (or-false, and-true)
ite-flip false true y z = simp (or-false, and-true)
ite-flip false false y z = simp (or-false, and-true)

iff-flip : (p x y : Bool)
    → of_two p (of_two (not p) (flip x (not p)) (flip y p)) (of_two (not p) (flip y (not p)) (flip x p)) ≡ flip (beq x y) p
iff-flip true true true = refl
iff-flip true true false = refl
iff-flip true false true = refl
iff-flip true false false = refl
iff-flip false true true = refl
iff-flip false true false = refl
iff-flip false false true = refl
iff-flip false false false = refl

not_at : (b x : Bool) → not x ≡ not b → x ≡ b
not_at true true e = refl
not_at true false e = sym e
not_at false true e = sym e
not_at false false e = refl

module _ (R : Reading) where
  abbrev A : Type 0
  A = Assignment R.Value

  -- a negation goes through a quantifier and changes its kind
  over-not : (b : Bool) (vs : Vars) (q : A → Bool) (ρ : A) → over R (not b) vs (λ σ. not (q σ)) ρ ≡ not (over R b vs q ρ)
  over-not b vs q ρ =
      same-at (not b) _ _
      (λ e. ap not (over-intro R b vs q ρ (λ σ w. not_at b (q σ) (over-elim R (not b) vs (λ τ. not (q τ)) ρ σ w e))))
      (λ e. over-intro R (not b) vs (λ τ. not (q τ)) ρ (λ σ w. ap not (over-elim R b vs q ρ σ w (not_at b (over R b vs q ρ) e))))

  over-flip : (b p : Bool) (vs : Vars) (q : A → Bool) (ρ : A) → over R (flip b p) vs (λ σ. flip (q σ) p) ρ ≡ flip (over R b vs q ρ) p
  over-flip b true vs q ρ = refl
  over-flip b false vs q ρ = over-not b vs q ρ

  mutual
    pub nnf-truth : (f : Form Vars Term) (p : Bool) (ρ : A) → truth_n R (nnf f p) ρ ≡ flip (truth R f ρ) p
    nnf-truth (opaque t) p ρ = refl
    nnf-truth (neg f) p ρ = nnf-truth f (not p) ρ ∙ flip-not (truth R f ρ) p
    nnf-truth (many b fs) p ρ = nnfs-truth fs p b ρ
    nnf-truth (imp f g) p ρ =
        (λ i. of_two (not p) (nnf-truth f (not p) ρ i) (nnf-truth g p ρ i)) ∙ imp-flip p (truth R f ρ) (truth R g ρ)
    nnf-truth (ite f g h) p ρ =
        (λ i. of_two p (of_two (not p) (nnf-truth f (not p) ρ i) (nnf-truth g p ρ i)) (of_two (not p) (nnf-truth f p ρ i) (nnf-truth h p ρ i)))
        ∙ ite-flip p (truth R f ρ) (truth R g ρ) (truth R h ρ)
    nnf-truth (iff f g) p ρ =
        (λ i. of_two p (of_two (not p) (nnf-truth f (not p) ρ i) (nnf-truth g p ρ i)) (of_two (not p) (nnf-truth g (not p) ρ i) (nnf-truth f p ρ i)))
        ∙ iff-flip p (truth R f ρ) (truth R g ρ)
    nnf-truth (all b vs f) p ρ = (λ i. over R (flip b p) vs (λ σ. nnf-truth f p σ i) ρ) ∙ over-flip b p vs (truth R f) ρ

    nnfs-truth : (fs : Forms Vars Term) (p b : Bool) (ρ : A) → truth_ns R (flip b p) (nnfs fs p) ρ ≡ flip (truths R b fs ρ) p
    nnfs-truth fnil p b ρ = refl
    nnfs-truth (fcons f fs) p b ρ =
        ap₂ (and_or (flip b p)) (nnf-truth f p ρ) (nnfs-truth fs p b ρ) ∙ many-flip b p (truth R f ρ) (truths R b fs ρ)

-- ---- terms
module _ (R : Reading) where
  mutual
    unfolding True skeleton form_of not_of

    pub build-truth : (n : Normal Vars Term) → EachN IsOpaque n → (ρ : Assignment R.Value) → True R (build n) ρ ≡ truth_n R n ρ
    build-truth (lit true t) o ρ = ap (λ (f : Form Vars Term). truth R f ρ) o
    build-truth (lit false t) o ρ = ap (λ (f : Form Vars Term). not (truth R f ρ)) o
    build-truth (nmany true ns) o ρ = builds-truth ns o true ρ
    build-truth (nmany false ns) o ρ = builds-truth ns o false ρ
    build-truth (nall b vs n) o ρ = λ i. over R b vs (λ σ. build-truth n o σ i) ρ

    builds-truth : (ns : Normals Vars Term) → EachNs IsOpaque ns → (b : Bool) (ρ : Assignment R.Value)
        → truths R b (skeletons (builds ns)) ρ ≡ truth_ns R b ns ρ
    builds-truth nnil o b ρ = refl
    builds-truth (ncons n ns) o b ρ = ap₂ (and_or b) (build-truth n o.0 ρ) (builds-truth ns o.1 b ρ)

  -- the normal form of a term, as a term
  pub normal-truth : (t : Term) (p : Bool) → HasValue R p (build (nnf (skeleton t) p)) t
  unfolding True
  normal-truth t p ρ = build-truth (nnf (skeleton t) p) (nnf-each IsOpaque (skeleton t) p (skeleton-leaves t)) ρ ∙ nnf-truth R (skeleton t) p ρ
