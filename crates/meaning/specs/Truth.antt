-- Readings, and truth in a reading.
--     truth R f ρ      a formula's value at the values ρ of the variables
--     truth_n R n ρ     a normal form's
--     True R t ρ       a term's: that of its formula
--     clause_truth R c ρ, clauses_truth R cs ρ     a clause's, and that of all clauses of a list
--     some_true R c ρ, each_some_true R cs ρ        the same of clauses of terms
--     HasValue R p x t      x has t's value if p, else the negated one
--     Says R cs t           the conjunction of the clauses cs has t's value
-- 01, "Truth in a reading", quoted below. Demand 3: "a reading gives each sort finitely many values, at least one; a variable is its name
-- with its sort; a term that is no connective or quantifier has a truth value fixed by its free variables' values".
-- Rests on formulas' Formula, Normal and Clauses, and on Sort, Term, Skeleton and FreeTree.
use Rattle.std.specs.Prelude.{◌≡◌, Bool, true, false, not, ◌&&◌, ◌||◌, cond}
use Rattle.std.proofs.Common.{subst}
use Rattle.std.specs.Bool.{beq}
use mathlib.Core.List.{List, [], ◌∷◌, Memᴰ}
use Rattle.meaning.specs.Sort.{Sort}
use Rattle.meaning.specs.Term.{Var, Vars, Var-discrete, Term}
use Rattle.meaning.specs.FreeTree.{free}
use Rattle.formulas.specs.Formula.{Form, Forms, opaque, neg, many, imp, ite, iff, all, fnil, fcons}
use Rattle.formulas.specs.Normal.{Normal, Normals, lit, nmany, nall, nnil, ncons, flip}
use Rattle.formulas.specs.Clauses.{Clause}
use Rattle.meaning.specs.Skeleton.{skeleton, IsOpaque}

-- "A reading also gives each name with sort one of that sort's values."
abbrev pub Assignment : (Sort → Type 0) → Type 0
Assignment Value = (v : Var) → Value v.sort

-- The values of a sort are finitely many: they are listed. An assignment gives a value of each sort, so there is at least one.
pub record Reading : Type 1 where
  pub Value : Sort → Type 0
  pub values : (s : Sort) → List (Value s)
  pub listed : (s : Sort) (x : Value s) → Memᴰ x (values s)
  pub opaque-truth : Term → Assignment Value → Bool  -- asked of opaque terms alone

-- "An opaque term's truth changes only with the values of its free variables"
abbrev pub Local : Reading → Type 0
Local R =
    (t : Term) → IsOpaque t → (ρ σ : Assignment R.Value) → ((v : Var) → free t v ≡ true → ρ v ≡ σ v)
    → R.opaque-truth t ρ ≡ R.opaque-truth t σ

-- ---- ρ with the value x at u instead
module _ (Value : Sort → Type 0) where
  unfoldable pub value_at : (u v : Var) → Dec (u ≡ v) → Value u.sort → Value v.sort → Value v.sort
  value_at u v (yes e) x y = subst (λ (w : Var). Value w.sort) e x
  value_at u v (no n) x y = y

  unfoldable pub assign : Assignment Value → (u : Var) → Value u.sort → Assignment Value
  assign ρ u x v = value_at u v (Var-discrete u v) x (ρ v)

-- ---- "`and` where all operands are true, so also without any; `or` where one is": b is true for `and`, false for `or`
abbrev pub and_or : Bool → Bool → Bool → Bool
and_or true x y = x && y
and_or false x y = x || y

-- at all of a list's elements, or at one of them
abbrev pub among : {A : Type 0} → Bool → List A → (A → Bool) → Bool
among b [] p = b
among b (x ∷ xs) p = and_or b (p x) (among b xs p)

module _ (R : Reading) where
  -- "forall is true where its body is true whatever values of their sorts the variables of its list take instead, exists where some such
  -- values make it so; an empty list changes nothing"
  unfoldable pub over : Bool → Vars → (Assignment R.Value → Bool) → Assignment R.Value → Bool
  over b [] p ρ = p ρ
  over b (v ∷ vs) p ρ = among b (R.values v.sort) (λ x. over b vs p (assign R.Value ρ v x))

  -- "`not` is true where its operand is false; .. `=>` where the left is false or the right true; `ite` where the second is true if the
  -- first is, else the third; `=` where both are true or both false"
  abbrev mutual
    pub truth : Form Vars Term → Assignment R.Value → Bool
    truth (opaque t) ρ = R.opaque-truth t ρ
    truth (neg f) ρ = not (truth f ρ)
    truth (many b fs) ρ = truths b fs ρ
    truth (imp f g) ρ = not (truth f ρ) || truth g ρ
    truth (ite f g h) ρ = cond (truth f ρ) (truth g ρ) (truth h ρ)
    truth (iff f g) ρ = beq (truth f ρ) (truth g ρ)
    truth (all b vs f) ρ = over b vs (truth f) ρ

    pub truths : Bool → Forms Vars Term → Assignment R.Value → Bool
    truths b fnil ρ = b
    truths b (fcons f fs) ρ = and_or b (truth f ρ) (truths b fs ρ)

  abbrev mutual
    pub truth_n : Normal Vars Term → Assignment R.Value → Bool
    truth_n (lit p t) ρ = flip (R.opaque-truth t ρ) p
    truth_n (nmany b ns) ρ = truth_ns b ns ρ
    truth_n (nall b vs n) ρ = over b vs (truth_n n) ρ

    pub truth_ns : Bool → Normals Vars Term → Assignment R.Value → Bool
    truth_ns b nnil ρ = b
    truth_ns b (ncons n ns) ρ = and_or b (truth_n n ρ) (truth_ns b ns ρ)

  unfoldable pub True : Term → Assignment R.Value → Bool
  True t ρ = truth (skeleton t) ρ

  -- a clause is true where one of its literals is, a clause list where all its clauses are
  abbrev pub clause_truth : Clause Vars Term → Assignment R.Value → Bool
  clause_truth [] ρ = false
  clause_truth (l ∷ c) ρ = truth_n l ρ || clause_truth c ρ

  abbrev pub clauses_truth : List (Clause Vars Term) → Assignment R.Value → Bool
  clauses_truth [] ρ = true
  clauses_truth (c ∷ cs) ρ = clause_truth c ρ && clauses_truth cs ρ

  -- the same of clauses whose literals are terms
  abbrev pub some_true : List Term → Assignment R.Value → Bool
  some_true [] ρ = false
  some_true (t ∷ c) ρ = True t ρ || some_true c ρ

  abbrev pub each_some_true : List (List Term) → Assignment R.Value → Bool
  each_some_true [] ρ = true
  each_some_true (c ∷ cs) ρ = some_true c ρ && each_some_true cs ρ

  -- ---- values at every assignment. S-1: "the conjunction of its clauses has the formula's value .. the normal form at true polarity has
  -- its value and at false polarity the negated value"
  abbrev pub HasValue : Bool → Term → Term → Type 0
  HasValue p x t = (ρ : Assignment R.Value) → True x ρ ≡ flip (True t ρ) p

  abbrev pub Says : List (List Term) → Term → Type 0
  Says cs t = (ρ : Assignment R.Value) → each_some_true cs ρ ≡ True t ρ
