-- Rule 2's refusals, and what each says of the conclusion.
-- Assumes nothing.
use Prim.Native.Nat.{ℕ}
use mathlib.Core.Path.{◌≡◌}
use mathlib.Core.Bool.{Bool, true, false, ◌&&◌}
use mathlib.Core.List.{List}
use lib.Dec.{eqb}
use native.Mathlib.Omega.{arith}
use borrow.Author.Tests.{eqb-true}
use Rattle.headers.specs.WellFormed.{is_term}
use Rattle.meaning.specs.Sort.{Sort}
use Rattle.meaning.specs.Term.{Var, Vars, Term}
use Rattle.meaning.specs.Tree.{tree}
use Rattle.meaning.specs.FreeTree.{has, free}
use Rattle.meaning.proofs.trees.Passed.{Passed}
use Rattle.meaning.proofs.truth.Over.{bool_cases}
use Rattle.answers.specs.Outcome.{pass, refuse}
use Rattle.meaning.proofs.patterns.Bindings.{var_of, vars_at}
use Rattle.meaning.proofs.patterns.Sound.{beq-eq}
use Rattle.formulas.specs.Formula.{quantifier_tag}
use Rattle.meaning.proofs.patterns.Trees.{quantifier-tree, equality-tree}
use Rattle.quantifier_rules.specs.QntRmUnused.{removes, unused, body_or, qnt_rm_unused}
use Rattle.schemas.specs.Schemas.{equal, binder}
use Rattle.rules.proofs.refusals.Refuses.{need-refuses, guard-refuses, unless-refuses, unless-last-refuses, renumber}
use Rattle.rules.proofs.refusals.Reasons.{NoEquality, NoQuantifier, no-equality, no-quantifier, kinds-differ, terms-differ, new-variable, missing-variable}

-- the code, and the two numbers that it carries
pub data RmRefused (tags values : List ℕ) (n x : ℕ) : ℕ → ℕ → ℕ → Type 0 where
  form : NoEquality (tree tags values x) → RmRefused tags values n x 2 x 0
  not-quantified : (p : ℕ) → is_term tags n p ≡ true → NoQuantifier (tree tags values p) → RmRefused tags values n x 3 p 0
  kinds : (Q R : Bool) → (Q ≡ R → ⊥) → RmRefused tags values n x 4 (quantifier_tag Q) (quantifier_tag R)
  bodies : (p q : ℕ) → is_term tags n p ≡ true → is_term tags n q ≡ true → (tree tags values p ≡ tree tags values q → ⊥) → RmRefused tags values n x 5 p q
  new : (s : Sort) (Q : Bool) (xs zs : Vars) (t : Term) → tree tags values x ≡ equal s (binder Q xs t) (binder Q zs t)
      → (v : Var) → has zs v ≡ true → has xs v ≡ false → RmRefused tags values n x 8 v.name 0
  missing : (s : Sort) (Q : Bool) (xs zs : Vars) (t : Term) → tree tags values x ≡ equal s (binder Q xs t) (binder Q zs t)
      → (v : Var) → has xs v ≡ true → has zs v ≡ false → free t v ≡ true → RmRefused tags values n x 9 v.name 0

module _ {tags values rules : List ℕ} {n : ℕ} (c : Passed tags values rules n) (x : ℕ) (t : is_term tags n x ≡ true) where
  pub rm-refused : (k a b : ℕ) → qnt_rm_unused tags values n x ≡ refuse k a b → RmRefused tags values n x k a b
  unfolding qnt_rm_unused body_or removes var_of
  rm-refused k a b e =
      need-refuses _ _ _ _ _ e (λ o. renumber P (form (no-equality c x t o))) λ sides e₁ h₁.
      let s = equality-tree c x t sides e₁ in
      need-refuses _ _ _ _ _ h₁ (λ o. renumber P (not-quantified sides.0 s.left (no-quantifier c sides.0 s.left o))) λ left e₂ h₂.
      let l = quantifier-tree c sides.0 s.left left e₂ in
      bool_cases (unused tags values n left && eqb left.body sides.1)
      (λ y. let d : pass tt ≡ refuse k a b = rw y at h₂ in let z : ◌≡◌ {A = ℕ} 0 1 = cc in absurd (omega arith))
      (λ y. need-refuses _ _ _ _ _ (rw y at h₂) (λ o. renumber P (not-quantified sides.1 s.right (no-quantifier c sides.1 s.right o))) λ right e₃ h₃.
      let r = quantifier-tree c sides.1 s.right right e₃ in
      guard-refuses _ _ _ _ _ h₃ (λ o. renumber P (kinds left.kind right.kind (kinds-differ left.kind right.kind o))) λ e₄ h₄.
      guard-refuses _ _ _ _ _ h₄
      (λ o. renumber P (bodies left.body right.body l.body r.body (terms-differ c left.body right.body l.body r.body o))) λ e₅ h₅.
      let xs = vars_at tags values left.list in
      let zs = vars_at tags values right.list in
      let u = tree tags values left.body in
      let shape : tree tags values x ≡ equal s.sort (binder left.kind xs u) (binder left.kind zs u) =
      cc (s.tree_is, l.tree_is, r.tree_is, beq-eq left.kind right.kind e₄, eqb-true left.body right.body e₅) in
      unless-refuses _ _ _ _ _ h₅
      (λ v o. let (i, j) = new-variable c left.list right.list l.sorts r.sorts v o in
      renumber P (new s.sort left.kind xs zs u shape (var_of tags values v) i j)) λ e₆ h₆.
      unless-last-refuses _ _ _ _ h₆
      (λ v o. let (i, j, f) = missing-variable c left.body l.body left.list right.list l.sorts r.sorts v o in
      renumber P (missing s.sort left.kind xs zs u shape (var_of tags values v) i j f)))
    where
      P : ℕ → ℕ → ℕ → Type 0
      P = RmRefused tags values n x
