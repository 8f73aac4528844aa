-- Rule 1's refusals, and what each says of the conclusion.
-- Assumes nothing.
use Prim.Native.Nat.{ℕ}
use mathlib.Core.Path.{◌≡◌, sym, ◌∙◌}
use mathlib.Core.Bool.{Bool, true}
use mathlib.Core.List.{List, ◌++◌}
use borrow.Author.Tests.{eqb-true}
use Rattle.headers.specs.WellFormed.{is_term}
use Rattle.meaning.specs.Sort.{Sort}
use Rattle.meaning.specs.Term.{Vars, Term}
use Rattle.meaning.specs.Tree.{tree}
use Rattle.meaning.proofs.trees.Passed.{Passed}
use Rattle.meaning.proofs.truth.Over.{not-both}
use Rattle.answers.specs.Outcome.{refuse}
use Rattle.meaning.proofs.patterns.Bindings.{vars_at}
use Rattle.meaning.proofs.patterns.Sound.{beq-eq}
use Rattle.formulas.specs.Formula.{quantifier_tag}
use Rattle.meaning.proofs.patterns.Trees.{quantifier-tree, equality-tree}
use Rattle.quantifier_rules.specs.QntJoin.{joined, qnt_join}
use Rattle.schemas.specs.Schemas.{equal, binder, joined_once}
use Rattle.meaning.proofs.patterns.Back.{lists-same}
use Rattle.rules.proofs.schemas.Join.{joined_is}
use Rattle.rules.proofs.refusals.Refuses.{need-refuses, guard-refuses, last-refuses, renumber}
use Rattle.rules.proofs.refusals.Reasons.{NoEquality, NoQuantifier, no-equality, no-quantifier, kinds-differ, terms-differ}

-- the code, and the two numbers that it carries
pub data JoinRefused (tags values : List ℕ) (n x : ℕ) : ℕ → ℕ → ℕ → Type 0 where
  form : NoEquality (tree tags values x) → JoinRefused tags values n x 2 x 0
  not-quantified : (p : ℕ) → is_term tags n p ≡ true → NoQuantifier (tree tags values p) → JoinRefused tags values n x 3 p 0
  kinds : (Q R : Bool) → (Q ≡ R → ⊥) → JoinRefused tags values n x 4 (quantifier_tag Q) (quantifier_tag R)
  bodies : (p q : ℕ) → is_term tags n p ≡ true → is_term tags n q ≡ true → (tree tags values p ≡ tree tags values q → ⊥) → JoinRefused tags values n x 5 p q
  list : (l r : ℕ) (s : Sort) (Q : Bool) (xs ys zs : Vars) (t : Term)
      → tree tags values l ≡ binder Q xs (binder Q ys t) → tree tags values r ≡ binder Q zs t
      → tree tags values x ≡ equal s (binder Q xs (binder Q ys t)) (binder Q zs t) → (zs ≡ joined_once (xs ++ ys) → ⊥) → JoinRefused tags values n x 7 l r

module _ {tags values rules : List ℕ} {n : ℕ} (c : Passed tags values rules n) (x : ℕ) (t : is_term tags n x ≡ true) where
  pub join-refused : (k a b : ℕ) → qnt_join tags values x ≡ refuse k a b → JoinRefused tags values n x k a b
  unfolding qnt_join
  join-refused k a b e =
      need-refuses _ _ _ _ _ e (λ o. renumber P (form (no-equality c x t o))) λ sides e₁ h₁.
      let s = equality-tree c x t sides e₁ in
      need-refuses _ _ _ _ _ h₁ (λ o. renumber P (not-quantified sides.0 s.left (no-quantifier c sides.0 s.left o))) λ left e₂ h₂.
      let l = quantifier-tree c sides.0 s.left left e₂ in
      need-refuses _ _ _ _ _ h₂ (λ o. renumber P (not-quantified left.body l.body (no-quantifier c left.body l.body o))) λ inner e₃ h₃.
      let m = quantifier-tree c left.body l.body inner e₃ in
      need-refuses _ _ _ _ _ h₃ (λ o. renumber P (not-quantified sides.1 s.right (no-quantifier c sides.1 s.right o))) λ right e₄ h₄.
      let r = quantifier-tree c sides.1 s.right right e₄ in
      guard-refuses _ _ _ _ _ h₄ (λ o. renumber P (kinds left.kind inner.kind (kinds-differ left.kind inner.kind o))) λ e₅ h₅.
      guard-refuses _ _ _ _ _ h₅ (λ o. renumber P (kinds inner.kind right.kind (kinds-differ inner.kind right.kind o))) λ e₆ h₆.
      guard-refuses _ _ _ _ _ h₆ (λ o. renumber P (bodies inner.body right.body m.body r.body (terms-differ c inner.body right.body m.body r.body o))) λ e₇ h₇.
      let (o, same_numbers) = last-refuses _ _ _ _ h₇ in
      let j = joined_is c left.list inner.list l.sorts m.sorts in
      let Q = left.kind in
      let xs = vars_at tags values left.list in
      let ys = vars_at tags values inner.list in
      let zs = vars_at tags values right.list in
      let u = tree tags values inner.body in
      let p = beq-eq left.kind inner.kind e₅ in
      let q = beq-eq inner.kind right.kind e₆ in
      let d = eqb-true inner.body right.body e₇ in
      let left_is : tree tags values sides.0 ≡ binder Q xs (binder Q ys u) = cc (l.tree_is, m.tree_is, p) in
      let right_is : tree tags values sides.1 ≡ binder Q zs u = cc (r.tree_is, p, q, d) in
      let whole : tree tags values x ≡ equal s.sort (binder Q xs (binder Q ys u)) (binder Q zs u) = cc (s.tree_is, left_is, right_is) in
      renumber P
      (list sides.0 sides.1 s.sort Q xs ys zs u left_is right_is whole
      (λ z. not-both (lists-same c (joined left.list inner.list) right.list j.sorts r.sorts (j.vars ∙ sym z)) o))
      same_numbers
    where
      P : ℕ → ℕ → ℕ → Type 0
      P = JoinRefused tags values n x
