-- Rule 3's refusals, and what each says of the conclusion.
-- Assumes nothing.
use Prim.Native.Nat.{ℕ}
use mathlib.Core.Path.{◌≡◌, refl, sym, ap, ◌∙◌}
use mathlib.Core.Bool.{true, false, not, ◌&&◌}
use mathlib.Core.List.{List, ◌++◌, Memᴰ}
use Rattle.std.specs.Prelude.{Some, None}
use native.Mathlib.Omega.{arith}
use borrow.Author.Tests.{not-true, not-false}
use Rattle.headers.specs.WellFormed.{is_term}
use Rattle.meaning.specs.Sort.{Sort}
use Rattle.meaning.specs.Term.{Var, Vars, Term}
use Rattle.meaning.specs.Tree.{tree}
use Rattle.meaning.specs.FreeTree.{has as has_var, free}
use Rattle.meaning.proofs.trees.Header.{both}
use Rattle.meaning.proofs.trees.Passed.{Passed}
use Rattle.formulas.specs.Clauses.{Clause, empty_or}
use Rattle.meaning.proofs.truth.Over.{not-both}
use Rattle.answers.specs.Outcome.{refuse}
use Rattle.bindings.specs.Binding.{has}
use Rattle.free_pairs.specs.BindingFree.{binding_free}
use Rattle.meaning.proofs.patterns.Bindings.{first_some, var_of, vars_at, has-at}
use Rattle.formulas.specs.Pattern.{Quantifier}
use Rattle.formulas.specs.Formula.{quantifier_tag}
use Rattle.meaning.proofs.patterns.Trees.{Sorted, sorted-has, quantifier-tree, binding-free}
use Rattle.clausification.specs.QntCnf.{implication, taken_from, left_and_taken, clause_follows, clausified, qnt_cnf}
use Rattle.schemas.specs.Schemas.{binder, implies, clausal, clauses_of, IsClause, with_taken, Bounded}
use Rattle.rules.specs.RuleSchema.{Room}
use Rattle.meaning.proofs.patterns.Back.{has-is}
use Rattle.rules.proofs.schemas.Taken.{has_left, free-place}
use Rattle.rules.proofs.schemas.Clause.{clause-back}
use Rattle.rules.proofs.schemas.Limits.{empty-is, bounded-back}
use Rattle.rules.proofs.schemas.Cnf.{implication-back}
use Rattle.rules.proofs.sound.QntCnf.{implication-tree}
use Rattle.rules.proofs.refusals.Refuses.{need-refuses, guard-refuses, unless-refuses, unless-last-refuses, renumber}
use Rattle.rules.proofs.refusals.Reasons.{NoQuantifier, no-quantifier}

-- the code, and the two numbers that it carries
pub data CnfRefused (tags values : List ℕ) (n x : ℕ) : ℕ → ℕ → ℕ → Type 0 where
  form : ((s s' : Sort) (l r : Term) → tree tags values x ≡ implies s s' l r → ⊥) → CnfRefused tags values n x 2 x 0
  not-quantified : (p : ℕ) → is_term tags n p ≡ true → NoQuantifier (tree tags values p) → CnfRefused tags values n x 3 p 0
  not-forall : (p : ℕ) (vs : Vars) (u : Term) → tree tags values p ≡ binder false vs u → CnfRefused tags values n x 4 23 24
  no-room : (s s' : Sort) (xs : Vars) (t r : Term) → tree tags values x ≡ implies s s' (binder true xs t) r → (Room tags values n t → ⊥) → CnfRefused tags values n x 31 0 0
  empty-reached : (s s' : Sort) (xs : Vars) (t r : Term) → tree tags values x ≡ implies s s' (binder true xs t) r
      → empty_or (clausal t) ≡ true → CnfRefused tags values n x 13 0 0
  too_many : (s s' : Sort) (xs : Vars) (t r : Term) → tree tags values x ≡ implies s s' (binder true xs t) r → (Bounded t → ⊥) → CnfRefused tags values n x 32 0 0
  new : (s s' : Sort) (xs zs : Vars) (t k : Term) → tree tags values x ≡ implies s s' (binder true xs t) (binder true zs k)
      → (v : Var) → has_var zs v ≡ true → has_var (with_taken xs t) v ≡ false → CnfRefused tags values n x 8 v.name 0
  absent : (s s' : Sort) (xs zs : Vars) (t : Term) (p : ℕ) → tree tags values x ≡ implies s s' (binder true xs t) (binder true zs (tree tags values p))
      → ((d : Clause Vars Term) → Memᴰ d (clauses_of t) → IsClause (tree tags values p) d → ⊥) → CnfRefused tags values n x 10 p 0
  missing : (s s' : Sort) (xs zs : Vars) (t k : Term) → tree tags values x ≡ implies s s' (binder true xs t) (binder true zs k)
      → (v : Var) → has_var (with_taken xs t) v ≡ true → has_var zs v ≡ false → free k v ≡ true → CnfRefused tags values n x 9 v.name 0

module _ {tags values rules : List ℕ} {n : ℕ} (c : Passed tags values rules n) (x : ℕ) (t : is_term tags n x ≡ true) where
  no-implication : implication tags values x ≡ None → (s s' : Sort) (l r : Term) → tree tags values x ≡ implies s s' l r → ⊥
  no-implication e s s' l r is =
      let b = implication-back c x t s s' l r is in
      let d : None ≡ Some b.p = sym e ∙ b.found in
      let z : ◌≡◌ {A = ℕ} 0 1 = cc in
      omega arith

  -- past the form and the quantifiers
  module _ (left right : Quantifier) (s s' : Sort) (body : is_term tags n left.body ≡ true) (clause : is_term tags n right.body ≡ true)
      (sorts : Sorted tags n left.list) (right-sorts : Sorted tags n right.list) where
    abbrev xs : Vars
    xs = vars_at tags values left.list

    abbrev zs : Vars
    zs = vars_at tags values right.list

    abbrev u : Term
    u = tree tags values left.body

    abbrev w : Term
    w = tree tags values right.body

    module _ (shape : tree tags values x ≡ implies s s' (binder true xs u) (binder true zs w)) (k a b : ℕ) where
      abbrev P : ℕ → ℕ → ℕ → Type 0
      P = CnfRefused tags values n x

      follows-refused : clause_follows tags values n left right ≡ refuse k a b → P k a b
      unfolding clause_follows left_and_taken var_of
      follows-refused e =
          unless-refuses _ _ _ _ _ e
          (λ v o. let (h, g) = first_some (λ a. not (has (left.list ++ taken_from tags values n left.body) a)) right.list v o in
          let p = sorted-has tags n right.list right-sorts v h in
          renumber P (new s s' xs zs u w shape (var_of tags values v) (has-at tags values right.list v h)
          (sym (has_left c left.body body left.list sorts v p) ∙ not-true _ g))) λ e₁ h₁.
          guard-refuses _ _ _ _ _ h₁
          (λ o. renumber P (absent s s' xs zs u right.body shape
          (λ d m is. not-both (clause-back c left.body body right.body clause d m is) o))) λ e₂ h₂.
          unless-last-refuses _ _ _ _ h₂
          (λ v o. let (h, g) = first_some (λ a. not (has right.list a) && binding_free tags values n right.body a) (left.list ++ taken_from tags values n left.body) v o in
          let (i, f) = both (not (has right.list v)) _ g in
          let p = free-place c left.body body left.list sorts right.list right-sorts right.body clause v f in
          renumber P (missing s s' xs zs u w shape (var_of tags values v) (sym (has_left c left.body body left.list sorts v p) ∙ h)
          (sym (has-is c right.list right-sorts v p) ∙ not-true _ i) (sym (binding-free c right.body clause v p) ∙ f)))

      clausified-refused : clausified tags values n left right ≡ refuse k a b → P k a b
      unfolding clausified
      clausified-refused e =
          guard-refuses _ _ _ _ _ e
          (λ o. renumber P (no-room s s' xs u _ shape (λ room. not-both (room left.body body refl) o))) λ e₁ h₁.
          guard-refuses _ _ _ _ _ h₁
          (λ o. renumber P (empty-reached s s' xs u _ shape (sym (empty-is c left.body body) ∙ not-false _ o))) λ e₂ h₂.
          guard-refuses _ _ _ _ _ h₂
          (λ o. renumber P (too_many s s' xs u _ shape (λ bounded. not-both (bounded-back c left.body body bounded).1 o))) λ e₃ h₃.
          follows-refused h₃

  pub cnf-refused : (k a b : ℕ) → qnt_cnf tags values n x ≡ refuse k a b → CnfRefused tags values n x k a b
  unfolding qnt_cnf
  cnf-refused k a b e =
      need-refuses _ _ _ _ _ e (λ o. renumber P (form (no-implication o))) λ sides e₁ h₁.
      let s = implication-tree c x t sides e₁ in
      need-refuses _ _ _ _ _ h₁ (λ o. renumber P (not-quantified sides.0 s.left (no-quantifier c sides.0 s.left o))) λ left e₂ h₂.
      let l = quantifier-tree c sides.0 s.left left e₂ in
      need-refuses _ _ _ _ _ h₂ (λ o. renumber P (not-quantified sides.1 s.right (no-quantifier c sides.1 s.right o))) λ right e₃ h₃.
      let r = quantifier-tree c sides.1 s.right right e₃ in
      guard-refuses _ _ _ _ _ h₃
      (λ o m. renumber P (not-forall sides.0 (vars_at tags values left.list) (tree tags values left.body) (cc (l.tree_is, o))) (m.0, m.1, ap quantifier_tag (sym o) ∙ m.2)) λ e₄ h₄.
      guard-refuses _ _ _ _ _ h₄
      (λ o m. renumber P (not-forall sides.1 (vars_at tags values right.list) (tree tags values right.body) (cc (r.tree_is, o))) (m.0, m.1, ap quantifier_tag (sym o) ∙ m.2)) λ e₅ h₅.
      let shape : tree tags values x
      ≡ implies s.sort s.not-sort (binder true (vars_at tags values left.list) (tree tags values left.body))
      (binder true (vars_at tags values right.list) (tree tags values right.body)) = cc (s.tree_is, l.tree_is, r.tree_is, e₄, e₅) in
      clausified-refused left right s.sort s.not-sort l.body r.body l.sorts r.sorts shape k a b h₅
    where
      P : ℕ → ℕ → ℕ → Type 0
      P = CnfRefused tags values n x
