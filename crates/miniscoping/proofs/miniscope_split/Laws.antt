-- Laws of `MiniscopeSplit`, one for each way through the code.
-- Assumes nothing.
use Prim.Native.Nat.{ℕ, ◌+◌, ◌≤◌}
use mathlib.Core.Path.{◌≡◌, refl, sym, ◌∙◌}
use mathlib.Core.Bool.{Bool, true, false}
use mathlib.Core.List.{List, [], ◌∷◌}
use Rattle.std.specs.Prelude.{Option, Some, None, Result, Err, IsErrAnd}
use lib.ListN.{length, replicate, length-drop}
use native.Mathlib.Omega.{arith}
use borrow.Author.Tests.{eq-eqb, ne_eqb, not-true, not-false}
use Rattle.cells.specs.Cell.{operands_of}
use Rattle.answers.specs.Outcome.{Outcome, pass, refuse, ◌>>=◌, ◌>>◌, need, guard, unless, answer_of}
use Rattle.bindings.specs.Binding.{Binding, bindings_of, first_of}
use Rattle.free_pairs.specs.BindingFree.{binding_free}
use Rattle.bindings.specs.BindingAnswer.{name_of}
use Rattle.formulas.specs.Formula.{is_forall}
use Rattle.formulas.specs.Pattern.{quantifier, and_then}
use Rattle.formulas.specs.PatternAnswer.{pairs_of, quantifier_in}
use Rattle.miniscoping.specs.MiniscopeDistribute.{Sides, sides_of, or_else, of_kind}
use Rattle.miniscoping.specs.MiniscopeSplit.{split_off, split_one, split_all, split_sides, miniscope_split}
use Rattle.miniscoping.specs.SidesAnswer.{sides_at, sides_in}
use Rattle.answers.specs.Refusal.{answer_of_check, outcome_of}
use Rattle.answers.specs.declared.refusal.Refusal.{Refusal}
use Rattle.answers.proofs.Refusals.{handed-on}
use Rattle.bindings.specs.Used.{use_all, left_of}
use Rattle.miniscoping.specs.LeftFits.{LeftFits}
use Rattle.formulas.specs.declared.matching.Quantified.{Quantified}
use Rattle.miniscoping.specs.declared.sides.Places.{Places}
use Rattle.bindings.proofs.Outcomes.{unless-name, unless-none}
use Rattle.miniscoping.proofs.sides.Laws.{left_is}
use Rattle.bindings.proofs.used_pairs.Laws.{all_left}
use mathlib.Core.Logic.{◌⊎◌, inl, inr}
use mathlib.Core.Bool.{not}
use lib.Dec.{eqb}

-- ---- one operand
module _ (tags values : List ℕ) (kind : Bool) (rest : List Binding) (t u : ℕ) (v : Bool) (v-is : v ≡ eqb t u) where
  pub operand-equal : v ≡ true → split_one tags values kind rest t u ≡ pass rest
  unfolding split_one
  operand-equal e = rw (← v-is, e)

  module _ (other : v ≡ false) (r : Option Quantified) (is : and_then (quantifier tags values u) (of_kind kind) ≡ quantifier_in (bindings_of (pairs_of tags values u)) r) where
    pub operand-form : r ≡ None → split_one tags values kind rest t u ≡ refuse 2 u 0
    unfolding split_one split_off quantifier_in need ◌>>=◌
    operand-form e = rw (← v-is, other, is, e)

    module _ (q : Quantified) (e : r ≡ Some q) (w : Bool) (w-is : w ≡ not (eqb t q.body.0)) where
      pub operand-body : w ≡ true → split_one tags values kind rest t u ≡ refuse 5 t q.body.0
      unfolding split_one split_off quantifier_in need guard ◌>>=◌ ◌>>◌
      operand-body n = rw (← v-is, other, is, e, not-true (eqb t q.body.0) (sym w-is ∙ n))

      pub operand-uses : w ≡ false → (inner : List ℕ) → inner ≡ pairs_of tags values u → (o : Outcome (List Binding))
          → use_all (bindings_of inner) rest ≡ o → split_one tags values kind rest t u ≡ o
      unfolding split_one split_off quantifier_in need guard ◌>>=◌ ◌>>◌
      operand-uses m inner i o z = rw (← v-is, other, is, e, not-false (eqb t q.body.0) (sym w-is ∙ m), ← i) z

-- ---- all operands: w is the outcome of those that are left
module _ (w : Outcome (Unit {0})) (tags values : List ℕ) (kind : Bool) (rest : List Binding) (ts us : List ℕ) (inv : w ≡ split_all tags values kind rest ts us) where
  none_left : (ts : List ℕ) → split_all tags values kind rest ts [] ≡ pass tt
  unfolding split_all
  none_left [] = refl
  none_left (t ∷ ts) = refl

  pub all_end : (ts ≡ []) ⊎ (us ≡ []) → w ≡ pass tt
  unfolding split_all
  all_end (inl e) = rw (inv, e)
  all_end (inr e) = rw (inv, e, none_left)

  module _ (t u : ℕ) (ts' us' : List ℕ) (t-is : ts ≡ t ∷ ts') (u-is : us ≡ u ∷ us') (after : List Binding) where
    pub all-refused : (x : Refusal) → split_one tags values kind rest t u ≡ outcome_of (Err x) after → (r : Result (Unit {0}) Refusal) → IsErrAnd r (λ e. e ≡ x)
        → w ≡ outcome_of r tt
    unfolding split_all ◌>>=◌
    all-refused x is r h = rw (handed-on r x h, inv, t-is, u-is, is)

    pub all-next : split_one tags values kind rest t u ≡ pass after → w ≡ split_all tags values kind after ts' us'
    unfolding split_all ◌>>=◌
    all-next is = rw (inv, t-is, u-is, is)

-- ---- every pair left at the start
pairs-half : (l : List ℕ) → length (bindings_of l) + length (bindings_of l) ≤ length l
unfolding bindings_of
pairs-half [] = omega arith
pairs-half (a ∷ []) = omega arith
pairs-half (a ∷ (s ∷ l)) = let h = pairs-half l in omega arith

pub fresh : (tags values : List ℕ) (kind : Bool) (outer from to : List ℕ) (k : ℕ) → length outer ≤ k + k → (o : Outcome (Unit {0}))
    → split_all tags values kind (left_of (replicate k 0) (bindings_of outer)) from to ≡ o → split_all tags values kind (bindings_of outer) from to ≡ o
fresh tags values kind outer from to k h o is = rw (all_left k (bindings_of outer) (omega (arith, pairs-half outer))) at is

-- ---- the operands, then 12
module _ (tags values : List ℕ) (n : ℕ) (s : Places) (outer from to : List ℕ) (o_is : outer ≡ pairs_of tags values s.left.0)
    (f-is : from ≡ operands_of tags values s.body.0) (t-is : to ≡ operands_of tags values s.right.0) where
  sides-are : split_sides tags values n (sides_at tags values s)
      ≡ split_all tags values (is_forall s.kind) (bindings_of outer) from to >> unless 12 (λ (b : Binding). b.name) s.right.0 (first_of (binding_free tags values n s.right.0) (bindings_of outer))
  unfolding split_sides sides_at
  sides-are = rw (o_is, f-is, t-is)

  pub sides-operand : (x : Refusal) → split_all tags values (is_forall s.kind) (bindings_of outer) from to ≡ outcome_of (Err x) (tt {0}) → (r : Result (Unit {0}) Refusal) → IsErrAnd r (λ e. e ≡ x)
      → answer_of_check r ≡ answer_of (split_sides tags values n (sides_at tags values s))
  unfolding ◌>>◌
  sides-operand x walk r h = rw (handed-on r x h, sides-are, walk)

  module _ (walk : split_all tags values (is_forall s.kind) (bindings_of outer) from to ≡ pass tt)
      (f : Option ℕ) (free : f ≡ name_of (first_of (binding_free tags values n s.right.0) (bindings_of outer))) where
    pub sides-free : (name : ℕ) → f ≡ Some name → refuse 12 name s.right.0 ≡ split_sides tags values n (sides_at tags values s)
    unfolding ◌>>◌
    sides-free name g = rw (sides-are, walk, unless-name 12 s.right.0 _ name (sym g ∙ free))

    pub sides-pass : f ≡ None → pass tt ≡ split_sides tags values n (sides_at tags values s)
    unfolding ◌>>◌
    sides-pass g = rw (sides-are, walk, unless-none 12 s.right.0 _ (sym g ∙ free))

-- ---- the rule
module _ (tags values : List ℕ) (n x : ℕ) (r : Option Places) (is : or_else (sides_of tags values true 37 x) (sides_of tags values false 36 x) ≡ sides_in tags values r) where
  pub rule-form : r ≡ None → refuse 2 x 0 ≡ miniscope_split tags values n x
  unfolding miniscope_split sides_in need ◌>>=◌
  rule-form e = rw (is, e)

  module _ (s : Places) (e : r ≡ Some s) (m k : ℕ) (from-count : m ≡ length (operands_of tags values s.body.0)) (to-count : k ≡ length (operands_of tags values s.right.0)) where
    pub rule-counts : (m ≡ k → ⊥) → refuse 11 m k ≡ miniscope_split tags values n x
    unfolding miniscope_split sides_in sides_at need guard ◌>>=◌ ◌>>◌
    rule-counts o = rw (is, e, ← from-count, ← to-count, ne_eqb _ _ o)

    pub rule-sides : m ≡ k → split_sides tags values n (sides_at tags values s) ≡ miniscope_split tags values n x
    unfolding miniscope_split sides_in sides_at need guard ◌>>=◌ ◌>>◌
    rule-sides c = rw (is, e, ← from-count, ← to-count, eq-eqb _ _ c)

-- ---- the outer list is short
module _ (tags values : List ℕ) (x : ℕ) (f : LeftFits tags values x) where
  left-short : (kind : Bool) (tag : ℕ) (s : Sides) → sides_of tags values kind tag x ≡ Some s → length (operands_of tags values s.left) ≤ 8192
  left-short kind tag s e = let (sides, both) = left_is tags values kind tag x s e in rw both.1 (f.most sides both.0)

  either-short : (s : Sides) (a b : Option Sides) → (a ≡ Some s → length (operands_of tags values s.left) ≤ 8192)
      → (b ≡ Some s → length (operands_of tags values s.left) ≤ 8192) → or_else a b ≡ Some s → length (operands_of tags values s.left) ≤ 8192
  either-short s None b ha hb e = hb e
  either-short s (Some o) b ha hb e = ha e

  pub outer-short : (r : Option Places) → or_else (sides_of tags values true 37 x) (sides_of tags values false 36 x) ≡ sides_in tags values r
      → (s : Places) → r ≡ Some s → length (pairs_of tags values s.left.0) ≤ 8192
  unfolding sides_in sides_at pairs_of
  outer-short r is s e =
      let h : length (operands_of tags values s.left.0) ≤ 8192 =
      either-short (sides_at tags values s) _ _ (left-short true 37 _) (left-short false 36 _) (rw e at is) in
      rw length-drop (omega arith)
