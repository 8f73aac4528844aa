-- The two sides that rules 4 and 5 match, as trees.
-- Assumes nothing.
use Prim.Native.Nat.{ℕ, ◌≤◌, ◌<◌}
use mathlib.Core.Path.{◌≡◌, refl, sym, ap, subst, ◌∙◌}
use mathlib.Core.Bool.{Bool, true, false, beq}
use mathlib.Core.List.{List}
use Rattle.std.specs.Prelude.{Option, Some, None}
use native.Mathlib.Omega.{arith}
use Rattle.headers.specs.WellFormed.{is_term}
use Rattle.meaning.specs.Sort.{Sort, bool}
use Rattle.meaning.specs.Term.{quant, op, tnil, tcons}
use Rattle.meaning.specs.Tree.{terms_of, tree}
use Rattle.meaning.proofs.trees.Passed.{Passed}
use Rattle.formulas.specs.Formula.{connective_tag}
use Rattle.formulas.specs.Pattern.{Quantifier, quantifier, operator, equality, and_then}
use Rattle.miniscoping.specs.MiniscopeDistribute.{Sides, sides_of, or_else, of_kind}
use Rattle.meaning.proofs.patterns.Passes.{then_some, by-option, cond-some}
use Rattle.meaning.proofs.patterns.Bindings.{vars_at}
use Rattle.meaning.proofs.patterns.Trees.{AllTerms, Sorted, quantifier-tree, operator-tree, equality-tree}
use Rattle.meaning.proofs.patterns.Sound.{beq-eq}

-- a quantifier of this kind
pub of-kind : (kind : Bool) (o : Option Quantifier) (q : Quantifier) → and_then o (of_kind kind) ≡ Some q → (o ≡ Some q) × (q.kind ≡ kind)
of-kind kind None q e = let z : ◌≡◌ {A = ℕ} 0 1 = cc in absurd (omega arith)
of-kind kind (Some p) q e =
    let (k, z) = cond-some (beq p.kind kind) p q e in
    (ap Some z, rw z at (beq-eq p.kind kind k))

-- the sides of the equality at x, over operands under this tag
pub record AreSides (tags values : List ℕ) (n tag x : ℕ) (s : Sides) : Type 0 where
  pub sort : Sort
  pub from-sort : Sort
  pub to-sort : Sort
  pub tree_is : tree tags values x
      ≡ op 39 sort (tcons (quant s.kind bool (vars_at tags values s.list) (op tag from-sort (terms_of (tree tags values) s.from)))
      (tcons (op tag to-sort (terms_of (tree tags values) s.to)) tnil))
  pub left_is : tree tags values s.left ≡ quant s.kind bool (vars_at tags values s.list) (op tag from-sort (terms_of (tree tags values) s.from))
  pub right_is : tree tags values s.right ≡ op tag to-sort (terms_of (tree tags values) s.to)
  pub right : is_term tags n s.right ≡ true
  pub sorts : Sorted tags n s.list
  pub from-terms : AllTerms tags n s.from
  pub to-terms : AllTerms tags n s.to

module _ {tags values rules : List ℕ} {n : ℕ} (c : Passed tags values rules n) (x : ℕ) (t : is_term tags n x ≡ true) where
  sides-tree : (kind : Bool) (tag : ℕ) → 32 ≤ tag → tag < 167 → (s : Sides) → sides_of tags values kind tag x ≡ Some s → (s.kind ≡ kind) × AreSides tags values n tag x s
  unfolding sides_of
  sides-tree kind tag low high s e =
      then_some (equality tags values x) _ _ e λ p e₁ h₁.
      then_some (quantifier tags values p.0) _ _ h₁ λ q₀ e₂ h₂.
      then_some (of_kind kind q₀) _ _ h₂ λ q e₃ h₃.
      then_some (operator tags values tag q.body) _ _ h₃ λ from e₄ h₄.
      then_some (operator tags values tag p.1) _ _ h₄ λ to e₅ h₅.
      let (e₆, k) = of-kind kind (quantifier tags values p.0) q (rw e₂ e₃) in
      let i = equality-tree c x t p e₁ in
      let l = quantifier-tree c p.0 i.left q e₆ in
      let f = operator-tree c tag q.body low high l.body from e₄ in
      let g = operator-tree c tag p.1 low high i.right to e₅ in
      let s₀ : Sides = record { kind = kind; left = p.0; right = p.1; list = q.list; from = from; to = to } in
      let z : s₀ ≡ s = cc in
      subst (λ (s : Sides). (s.kind ≡ kind) × AreSides tags values n tag x s) z (
        refl,
        record {
          sort = i.sort;
          from-sort = f.sort;
          to-sort = g.sort;
          tree_is = cc (i.tree_is, l.tree_is, f.tree_is, g.tree_is, k);
          left_is = cc (l.tree_is, f.tree_is, k);
          right_is = g.tree_is;
          right = i.right;
          sorts = l.sorts;
          from-terms = f.operands;
          to-terms = g.operands;
        },
      )

  -- one of the two forms of a rule: many says which operator goes with forall (true) and with exists, `and` (true) or `or`
  pub either-sides : (many : Bool → Bool) (s : Sides)
      → or_else (sides_of tags values true (connective_tag (many true)) x) (sides_of tags values false (connective_tag (many false)) x) ≡ Some s
      → AreSides tags values n (connective_tag (many s.kind)) x s
  either-sides many s e =
      by-option (sides_of tags values true (connective_tag (many true)) x)
      (λ s' o. let d : Some s' ≡ Some s = rw o at e in is true (o ∙ d))
      (λ o. is false (rw o at e))
    where
      bounds : (b : Bool) → (32 ≤ connective_tag b) × (connective_tag b < 167)
      bounds true = (omega arith, omega arith)
      bounds false = (omega arith, omega arith)

      is : (b : Bool) → sides_of tags values b (connective_tag (many b)) x ≡ Some s → AreSides tags values n (connective_tag (many s.kind)) x s
      is b o =
          let (k, a) = sides-tree b (connective_tag (many b)) (bounds (many b)).0 (bounds (many b)).1 s o in
          subst (λ (b : Bool). AreSides tags values n (connective_tag (many b)) x s) (sym k) a
