-- Laws of `MiniscopeDistribute`, one for each way through the code.
-- Assumes nothing.
use Prim.Native.Nat.{ℕ}
use mathlib.Core.Path.{◌≡◌, refl, sym, ◌∙◌}
use mathlib.Core.Bool.{Bool, true, false, not}
use mathlib.Core.List.{List, [], ◌∷◌}
use lib.ListN.{length}
use borrow.Author.Tests.{eq-eqb, ne_eqb, not-true, not-false}
use Rattle.cells.specs.Cell.{operands_of}
use Rattle.answers.specs.Outcome.{Outcome, pass, refuse, ◌>>=◌, ◌>>◌, need, guard, answer_of}
use Rattle.bindings.specs.Binding.{bindings_of, same_all}
use Rattle.formulas.specs.Formula.{is_forall}
use Rattle.formulas.specs.Pattern.{quantifier, and_then}
use Rattle.formulas.specs.PatternAnswer.{pairs_of, quantifier_in}
use Rattle.miniscoping.specs.MiniscopeDistribute.{Sides, sides_of, or_else, of_kind, distributed, distributed_all, miniscope_distribute}
use Rattle.miniscoping.specs.SidesAnswer.{sides_at, sides_in}
use Rattle.answers.specs.Refusal.{answer_of_check, outcome_of}
use Rattle.answers.specs.declared.refusal.Refusal.{Refusal}
use Rattle.answers.proofs.Refusals.{handed-on}
use Rattle.std.specs.Prelude.{Option, Some, None, Result, Ok, Err, IsErrAnd}
use Rattle.formulas.specs.declared.matching.Quantified.{Quantified}
use Rattle.miniscoping.specs.declared.sides.Places.{Places}
use mathlib.Core.Logic.{◌⊎◌, inl, inr}
use lib.Dec.{eqb}

-- ---- one operand
module _ (tags values : List ℕ) (s : Places) (t u : ℕ) (r : Option Quantified)
    (is : and_then (quantifier tags values u) (of_kind (is_forall s.kind)) ≡ quantifier_in (bindings_of (pairs_of tags values u)) r) where
  pub operand-form : r ≡ None → distributed tags values (sides_at tags values s) t u ≡ refuse 2 u 0
  unfolding distributed sides_at quantifier_in need ◌>>=◌
  operand-form e = rw (is, e)

  module _ (q : Quantified) (e : r ≡ Some q) (a b : List ℕ) (left : a ≡ pairs_of tags values s.left.0) (right : b ≡ pairs_of tags values u)
      (w : Bool) (lists : w ≡ same_all (bindings_of a) (bindings_of b)) where
    pub operand-list : not w ≡ true → distributed tags values (sides_at tags values s) t u ≡ refuse 6 s.left.0 u
    unfolding distributed sides_at quantifier_in need guard ◌>>=◌ ◌>>◌
    operand-list n = rw (is, e, ← left, ← right, ← lists, not-true w n)

    module _ (y : not w ≡ false) (v : Bool) (v-is : v ≡ not (eqb t q.body.0)) where
      pub operand-body : v ≡ true → distributed tags values (sides_at tags values s) t u ≡ refuse 5 t q.body.0
      unfolding distributed sides_at quantifier_in need guard ◌>>=◌ ◌>>◌
      operand-body n = rw (is, e, ← left, ← right, ← lists, not-false w y, not-true (eqb t q.body.0) (sym v-is ∙ n))

      pub operand-passes : v ≡ false → distributed tags values (sides_at tags values s) t u ≡ pass tt
      unfolding distributed sides_at quantifier_in need guard ◌>>=◌ ◌>>◌
      operand-passes m = rw (is, e, ← left, ← right, ← lists, not-false w y, not-false (eqb t q.body.0) (sym v-is ∙ m))

-- ---- all operands: w is the outcome of those that are left
module _ (w : Outcome (Unit {0})) (tags values : List ℕ) (s : Sides) (ts us : List ℕ) (inv : w ≡ distributed_all tags values s ts us) where
  none_left : (ts : List ℕ) → distributed_all tags values s ts [] ≡ pass tt
  unfolding distributed_all
  none_left [] = refl
  none_left (t ∷ ts) = refl

  pub all_end : (ts ≡ []) ⊎ (us ≡ []) → w ≡ pass tt
  unfolding distributed_all
  all_end (inl e) = rw (inv, e)
  all_end (inr e) = rw (inv, e, none_left)

  module _ (t u : ℕ) (ts' us' : List ℕ) (t-is : ts ≡ t ∷ ts') (u-is : us ≡ u ∷ us') where
    pub all-refused : (x : Refusal) → distributed tags values s t u ≡ outcome_of (Err x) (tt {0}) → (r : Result (Unit {0}) Refusal) → IsErrAnd r (λ e. e ≡ x)
        → w ≡ outcome_of r tt
    unfolding distributed_all ◌>>◌
    all-refused x is r h = rw (handed-on r x h, inv, t-is, u-is, is)

    pub all-next : distributed tags values s t u ≡ pass tt → w ≡ distributed_all tags values s ts' us'
    unfolding distributed_all ◌>>◌
    all-next is = rw (inv, t-is, u-is, is)

-- ---- the rule
module _ (tags values : List ℕ) (x : ℕ) (r : Option Places) (is : or_else (sides_of tags values true 36 x) (sides_of tags values false 37 x) ≡ sides_in tags values r) where
  pub rule-form : r ≡ None → refuse 2 x 0 ≡ miniscope_distribute tags values x
  unfolding miniscope_distribute sides_in need ◌>>=◌
  rule-form e = rw (is, e)

  module _ (s : Places) (e : r ≡ Some s) (m k : ℕ) (from-count : m ≡ length (operands_of tags values s.body.0)) (to-count : k ≡ length (operands_of tags values s.right.0)) where
    pub rule-counts : (m ≡ k → ⊥) → refuse 11 m k ≡ miniscope_distribute tags values x
    unfolding miniscope_distribute sides_in sides_at need guard ◌>>=◌ ◌>>◌
    rule-counts n = rw (is, e, ← from-count, ← to-count, ne_eqb _ _ n)

    pub rule-operands : m ≡ k → (from to : List ℕ) → from ≡ operands_of tags values s.body.0 → to ≡ operands_of tags values s.right.0
        → miniscope_distribute tags values x ≡ distributed_all tags values (sides_at tags values s) from to
    unfolding miniscope_distribute sides_in sides_at need guard ◌>>=◌ ◌>>◌
    rule-operands c from to f t = rw (is, e, ← from-count, ← to-count, eq-eqb _ _ c, f, t)

-- ---- a check by its outcome
pub passes_on : (o : Outcome (Unit {0})) (r : Result (Unit {0}) Refusal) → o ≡ outcome_of r tt → answer_of_check r ≡ answer_of o
passes_on o (Ok u) e = rw e
passes_on o (Err x) e = rw e
