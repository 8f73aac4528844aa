-- Laws of `qnt_cnf`: the forms that are matched, the places that they name, and one law for each answer up to the clauses.
-- Assumes nothing.
use Prim.Native.Nat.{ℕ, ◌<◌}
use mathlib.Core.Path.{◌≡◌, refl, ap, ◌∙◌}
use mathlib.Core.Bool.{Bool, true, false, not}
use mathlib.Core.List.{List, [], ◌∷◌}
use Rattle.std.specs.Prelude.{Option, Some, None, Result}
use Rattle.std.proofs.Common.{Bor}
use lib.ListN.{get_or}
use lib.Dec.{eqb, ltb}
use native.Mathlib.Omega.{arith}
use borrow.Author.Tests.{eqb-true, eqb-false, ltb-true, not-true, not-false}
use Rattle.answers.specs.Refusal.{answer_of_check}
use Rattle.answers.specs.declared.refusal.Refusal.{Refusal}
use Rattle.cells.specs.declared.TermPlace.{TermPlace}
use Rattle.cells.specs.ByPlace.{by-test}
use Rattle.headers.specs.WellFormed.{is_term}
use Rattle.descriptions.specs.Description.{Cut}
use Rattle.pool.specs.Check.{check_pool, and_then as check_then, check_term, CheckedTerm}
use Rattle.meaning.proofs.trees.Header.{both}
use Rattle.meaning.proofs.trees.Passed.{Passed, pool-passes, pool-accepts}
use Rattle.normal_form.proofs.Clausal.{zero-kept}
use Rattle.answers.specs.Outcome.{Outcome, refuse, answer_of, ◌>>=◌, ◌>>◌, need, guard}
use Rattle.formulas.specs.Formula.{is_forall, quantifier_tag}
use Rattle.formulas.specs.Pattern.{quantifier, operator, one_of, two_of, and_then}
use Rattle.formulas.specs.PatternAnswer.{with_list, quantifier_in, of_count, cells_in, two_in}
use Rattle.formulas.specs.declared.matching.Quantified.{Quantified}
use Rattle.formulas.proofs.matching.Laws.{Reads, no_operand, one_operand, no_two, two_operands}
use Rattle.meaning.proofs.patterns.Passes.{then_some}
use Rattle.meaning.proofs.patterns.Trees.{AllTerms, two-are, quantifier-tree, operator-tree}
use Rattle.clausification.specs.QntCnf.{implication, clausified, qnt_cnf}
use Rattle.clausification.specs.Promises.{forall_at, Leaves, Clausified, ForallSides}

-- ---- `(or (not l) r)`
module _ (tags values : List ℕ) (x : ℕ) where
  pub implication-other : and_then (operator tags values 37 x) (of_count 2) ≡ cells_in None → implication tags values x ≡ two_in None
  unfolding implication two_in
  implication-other e = rw (no_two tags values 37 x e)

  module _ (sides : Bor (List ℕ)) (outer : and_then (operator tags values 37 x) (of_count 2) ≡ cells_in (Some sides)) where
    pub implication-plain : and_then (operator tags values 34 (get_or sides.now 0 0)) (of_count 1) ≡ cells_in None → implication tags values x ≡ two_in None
    unfolding implication two_in
    implication-plain e = rw (two_operands tags values 37 x sides outer, no_operand tags values 34 (get_or sides.now 0 0) e)

    pub implication-is : (l : Bor (List ℕ)) → and_then (operator tags values 34 (get_or sides.now 0 0)) (of_count 1) ≡ cells_in (Some l)
        → implication tags values x ≡ two_in (Some (record { 0 = get_or l.now 0 0 }, record { 0 = get_or sides.now 1 0 }))
    unfolding implication two_in
    implication-is l e = rw (two_operands tags values 37 x sides outer, one_operand tags values 34 (get_or sides.now 0 0) l e)

-- ---- a conclusion that has passed its checks: the sides and their bodies are terms of the pool
pub term-checked : (tags values rules : List ℕ) (n t : ℕ) → (check_term tags values rules n t).code ≡ 0
    → ((check_pool tags values rules n).code ≡ 0) × (is_term tags n t ≡ true)
unfolding check_term check_then
term-checked tags values rules n t e =
    by-test (eqb (check_pool tags values rules n).code 0)
    (λ a. (eqb-true _ 0 a, by-test (is_term tags n t) (λ b. b) (λ b. absurd (other (rw (a, b) at e)))))
    (λ a. absurd (eqb-false _ 0 a (rw a at e)))
  where
    other : ◌≡◌ {A = ℕ} 17 0 → ⊥
    other z = omega arith

one-is : (os : List ℕ) (a : ℕ) → one_of os ≡ Some a → os ≡ a ∷ []
one-is [] a e = cc
one-is (b ∷ []) a e = cc
one-is (b ∷ (d ∷ os)) a e = cc

term-below : (tags : List ℕ) (n t : ℕ) → is_term tags n t ≡ true → t < n
unfolding is_term
term-below tags n t e = ltb-true t n (both (ltb t n) _ e).0

module _ {tags values rules : List ℕ} {n : ℕ} (c : Passed tags values rules n) (x : ℕ) (term : is_term tags n x ≡ true) where
  implication-terms : (l r : ℕ) → implication tags values x ≡ Some (l, r) → (is_term tags n l ≡ true) × (is_term tags n r ≡ true)
  unfolding implication
  implication-terms l r e =
      then_some (and_then (operator tags values 37 x) two_of) _ (l, r) e λ s e₁ e₂.
      then_some (operator tags values 37 x) two_of s e₁ λ os e₃ e₄.
      then_some (and_then (operator tags values 34 s.0) one_of) _ (l, r) e₂ λ p e₅ e₆.
      then_some (operator tags values 34 s.0) one_of p e₅ λ ps e₇ e₈.
      let sides : AllTerms tags n (s.0 ∷ s.1 ∷ []) = rw (two-are os s e₄) at (operator-tree c 37 x (omega arith) (omega arith) term os e₃).operands in
      let inner : AllTerms tags n (p ∷ []) = rw (one-is ps p e₈) at (operator-tree c 34 s.0 (omega arith) (omega arith) sides.0 ps e₇).operands in
      let same : ◌≡◌ {A = ℕ × ℕ} (p, s.1) (l, r) = cc in
      (rw (ap (λ (z : ℕ × ℕ). z.0) same) at inner.0, rw (ap (λ (z : ℕ × ℕ). z.1) same) at sides.1.0)

  body-term : (k : Bool) (list : _) (b : ℕ) → quantifier tags values x ≡ Some (with_list k list b) → is_term tags n b ≡ true
  body-term k list b e = (quantifier-tree c x term (with_list k list b) e).body

-- ---- the matching
module _ (tags values : List ℕ) (n x : ℕ) (t : Option (TermPlace × TermPlace)) (form : implication tags values x ≡ two_in t) where
  pub sides-form : t ≡ None → refuse 2 x 0 ≡ qnt_cnf tags values n x
  unfolding qnt_cnf two_in need ◌>>=◌
  sides-form e = rw (form, e)

  module _ (p : TermPlace × TermPlace) (e : t ≡ Some p) (q : Option Quantified) (left : Reads tags values p.0.0 q) where
    pub sides-left : q ≡ None → refuse 3 p.0.0 0 ≡ qnt_cnf tags values n x
    unfolding qnt_cnf two_in quantifier_in need ◌>>=◌
    sides-left o = rw (form, e, left, o)

    module _ (f : Quantified) (q-is : q ≡ Some f) (q' : Option Quantified) (right : Reads tags values p.1.0 q') where
      pub sides-right : q' ≡ None → refuse 3 p.1.0 0 ≡ qnt_cnf tags values n x
      unfolding qnt_cnf two_in quantifier_in need ◌>>=◌
      sides-right o = rw (form, e, left, q-is, right, o)

      module _ (f' : Quantified) (q'-is : q' ≡ Some f') where
        pub sides-kind : not (is_forall f.kind) ≡ true → (m k : ℕ) → m ≡ quantifier_tag true → k ≡ quantifier_tag false → refuse 4 m k ≡ qnt_cnf tags values n x
        unfolding qnt_cnf two_in quantifier_in need guard ◌>>=◌ ◌>>◌
        sides-kind o m k is is' = rw (form, e, left, q-is, right, q'-is, not-true (is_forall f.kind) o, is, is')

        pub sides-right-kind : not (is_forall f.kind) ≡ false → not (is_forall f'.kind) ≡ true → (m k : ℕ) → m ≡ quantifier_tag true → k ≡ quantifier_tag false → refuse 4 m k ≡ qnt_cnf tags values n x
        unfolding qnt_cnf two_in quantifier_in need guard ◌>>=◌ ◌>>◌
        sides-right-kind o o' m k is is' = rw (form, e, left, q-is, right, q'-is, not-false (is_forall f.kind) o, not-true (is_forall f'.kind) o', is, is')

        pub sides-rest : not (is_forall f.kind) ≡ false → not (is_forall f'.kind) ≡ false → clausified tags values n (forall_at tags values p.0.0 f.body.0) (forall_at tags values p.1.0 f'.body.0) ≡ qnt_cnf tags values n x
        unfolding qnt_cnf two_in quantifier_in need guard ◌>>=◌ ◌>>◌
        sides-rest o o' = rw (form, e, left, q-is, right, q'-is, not-false (is_forall f.kind) o, not-false (is_forall f'.kind) o')

        pub sides-are : CheckedTerm tags values n x → ForallSides tags values n p.0.0 f.body.0 p.1.0 f'.body.0
        unfolding two_in quantifier_in
        sides-are ok =
            let table = ok.table in
            let (pool-ok, term) = term-checked tags values table n x ok.passed in
            let c : Passed tags values table n = pool-passes tags values table n (pool-accepts tags values table n pool-ok) in
            let (l-term, r-term) = implication-terms c x term p.0.0 p.1.0 (form ∙ ap two_in e) in
            record {
              table = table;
              passed = pool-ok;
              left-place = term-below tags n p.0.0 l-term;
              left_body = term-below tags n f.body.0 (body-term c p.0.0 l-term (is_forall f.kind) _ f.body.0 (left ∙ ap (quantifier_in _) q-is));
              right-place = term-below tags n p.1.0 r-term;
              right-body = term-below tags n f'.body.0 (body-term c p.1.0 r-term (is_forall f'.kind) _ f'.body.0 (right ∙ ap (quantifier_in _) q'-is));
            }

-- ---- what is left in the arrays
-- nothing is built
pub leaves_all : (n : ℕ) (tags values : List ℕ) (r : Result (Unit {0}) Refusal) (p : Outcome (Unit {0})) → answer_of_check r ≡ answer_of p → Leaves n tags values p r tags values
leaves_all n tags values r p e = record {
  answer = e;
  left = record { tags-size = refl; values-size = refl; tags-kept = refl; values-kept = refl };
}

module _ (n : ℕ) (tags values : List ℕ) (r : Result (Unit {0}) Refusal) (o p : Outcome (Unit {0})) where
  pub leaves_after : (tags' values' : List ℕ) → Leaves n tags values o r tags' values' → o ≡ p → Leaves n tags values p r tags' values'
  leaves_after tags' values' h e = record { answer = rw (← e) h.answer; left = h.left }

pub leaves-cut : (tags values : List ℕ) (n x : ℕ) (a : Result (Unit {0}) Refusal) (tags₁ values₁ tags' values' : List ℕ)
    → Leaves n tags values (qnt_cnf tags values n x) a tags₁ values₁ → Cut n tags₁ values₁ tags' values' → Clausified tags values n x a tags' values'
leaves-cut tags values n x a tags₁ values₁ tags' values' h cut = record {
  answer = h.answer;
  tags-are = cut.tags-are ∙ zero-kept n tags tags₁ h.left.tags-size h.left.tags-kept;
  values-are = cut.values-are ∙ zero-kept n values values₁ h.left.values-size h.left.values-kept;
}
