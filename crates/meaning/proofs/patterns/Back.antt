-- From trees back to places, in a pool that passes its checks: a place whose tree has a form is matched as that form.
--     quantifier-back, operator-back, equality-back     the forms
--     same_place, same-list      one tree, one place; one list of variables, one list of pairs
--     has-is                     a list of pairs holds a pair exactly if its variables hold the pair's
--     list-unfree-back           no pair of a list is free in a term
-- Assumes nothing.
use Prim.Native.Nat.{ℕ, ◌≤◌, ◌<◌}
use mathlib.Core.Path.{◌≡◌, refl, sym, ap, ap₂, ◌∙◌}
use mathlib.Core.Bool.{Bool, true, false}
use mathlib.Core.List.{List, [], ◌∷◌}
use Rattle.std.specs.Prelude.{Some, None}
use lib.ListN.{length, get_or}
use lib.Dec.{eqb}
use native.Mathlib.Omega.{arith}
use borrow.Author.Tests.{eq-eqb}
use Rattle.cells.specs.Cell.{cells_of, operands_of}
use Rattle.headers.specs.WellFormed.{is_term}
use Rattle.meaning.specs.Sort.{Sort, bool}
use Rattle.meaning.specs.Term.{Vars, Term, Terms, const, bit_vector, var, app, quant, bind, letin, op, no_term, tnil, tcons}
use Rattle.meaning.specs.Tree.{sort_tree, terms_of, term_from, tree}
use Rattle.meaning.specs.FreeTree.{has as has_var, same as same_var, free}
use Rattle.meaning.proofs.trees.Tags.{by-term-tag}
use Rattle.meaning.proofs.trees.Terms.{term-op}
use Rattle.meaning.proofs.trees.Passed.{Passed, term-of-cells, one-term}
use Rattle.meaning.proofs.truth.Over.{same-at, same-eq, same_refl}
use Rattle.bindings.specs.Binding.{Binding, same, has, same_all, first_of}
use Rattle.free_pairs.specs.BindingFree.{binding_free}
use Rattle.meaning.proofs.patterns.Bindings.{binding-eq, same_self, list_same, first-is-none, var_of, vars_at, has-at}
use Rattle.meaning.proofs.patterns.Sound.{Unfree}
use Rattle.formulas.specs.Pattern.{Quantifier, quantifier, operator, two_of, equality, and_then}
use Rattle.formulas.specs.Formula.{quantifier_tag}
use Rattle.meaning.proofs.patterns.Trees.{term-below, here, of_run, AllTerms, SortPlace, Sorted, sorted-has, quantifier-tree, operator-tree, one-binding, binding-free}

-- the tag that a tree has at its place
head_tag : Term → ℕ
head_tag (const k s c) = k
head_tag (bit_vector s w c) = 20
head_tag (var v) = 21
head_tag (app s f ts) = 22
head_tag (quant b s vs t) = quantifier_tag b
head_tag (bind k s vs t) = k
head_tag (letin s ls t) = 27
head_tag (op k s ts) = k
head_tag no_term = 0

module _ {tags values rules : List ℕ} {n : ℕ} (c : Passed tags values rules n) where
  head-tag : (x : ℕ) → is_term tags n x ≡ true → head_tag (tree tags values x) ≡ get_or tags x 0
  unfolding head_tag term_from
  head-tag x t =
      let (h, k) = term-below c x t in
      rw (term-of-cells c x h k)
      (by-term-tag (λ k. head_tag (term_from k (cells_of values x) (sort_tree tags values) (tree tags values)) ≡ k)
      refl refl refl refl refl refl refl refl refl refl refl refl
      (λ k l m. ap head_tag (term-op (sort_tree tags values) (tree tags values) k (cells_of values x) l m))
      (get_or tags x 0) (length (cells_of values x)) k (here c x t).count)

  -- ---- forms
  pub record QuantifierBack (x : ℕ) (b : Bool) (vs : Vars) (t : Term) : Type 0 where
    pub q : Quantifier
    pub found : quantifier tags values x ≡ Some q
    pub kind : q.kind ≡ b
    pub list : vars_at tags values q.list ≡ vs
    pub body_is : tree tags values q.body ≡ t
    pub body : is_term tags n q.body ≡ true
    pub sorts : Sorted tags n q.list

  pub quantifier-back : (x : ℕ) → is_term tags n x ≡ true → (b : Bool) (s : Sort) (vs : Vars) (t : Term) → tree tags values x ≡ quant b s vs t → QuantifierBack x b vs t
  unfolding head_tag quantifier
  quantifier-back x k b s vs t e = by_kind b (sym (head-tag x k) ∙ ap head_tag e) e
    where
      is : (b : Bool) (q : Quantifier) → quantifier tags values x ≡ Some q → tree tags values x ≡ quant b s vs t → QuantifierBack x b vs t
      is b q f e =
          let i = quantifier-tree c x k q f in
          let d : quant q.kind bool (vars_at tags values q.list) (tree tags values q.body) ≡ quant b s vs t = sym i.tree_is ∙ e in
          record { q = q; found = f; kind = cc; list = cc; body_is = cc; body = i.body; sorts = i.sorts }

      by_kind : (b : Bool) → get_or tags x 0 ≡ quantifier_tag b → tree tags values x ≡ quant b s vs t → QuantifierBack x b vs t
      by_kind true z e = is true (of_run c true (operands_of tags values x)) (rw z) e
      by_kind false z e = is false (of_run c false (operands_of tags values x)) (rw z) e

  pub record OperatorBack (tag x : ℕ) (ts : Terms) : Type 0 where
    pub os : List ℕ
    pub found : operator tags values tag x ≡ Some os
    pub terms : terms_of (tree tags values) os ≡ ts
    pub operands : AllTerms tags n os

  pub operator-back : (tag x : ℕ) → 32 ≤ tag → tag < 167 → is_term tags n x ≡ true → (s : Sort) (ts : Terms) → tree tags values x ≡ op tag s ts → OperatorBack tag x ts
  unfolding operator head_tag
  operator-back tag x l m k s ts e =
      let z : get_or tags x 0 ≡ tag = sym (head-tag x k) ∙ ap head_tag e in
      let f : operator tags values tag x ≡ Some (operands_of tags values x) = rw (eq-eqb (get_or tags x 0) tag z) in
      let i = operator-tree c tag x l m k (operands_of tags values x) f in
      let d : op tag i.sort (terms_of (tree tags values) (operands_of tags values x)) ≡ op tag s ts = sym i.tree_is ∙ e in
      record { os = operands_of tags values x; found = f; terms = cc; operands = i.operands }

  pub record TwoBack (tag x : ℕ) (l r : Term) : Type 0 where
    pub p : ℕ × ℕ
    pub found : and_then (operator tags values tag x) two_of ≡ Some p
    pub left_is : tree tags values p.0 ≡ l
    pub right_is : tree tags values p.1 ≡ r
    pub left : is_term tags n p.0 ≡ true
    pub right : is_term tags n p.1 ≡ true

  pub two_back : (tag x : ℕ) → 32 ≤ tag → tag < 167 → is_term tags n x ≡ true → (s : Sort) (l r : Term) → tree tags values x ≡ op tag s (tcons l (tcons r tnil)) → TwoBack tag x l r
  unfolding terms_of
  two_back tag x low high k s l r e =
      let o = operator-back tag x low high k s _ e in
      two o.os o.found o.terms o.operands
    where
      two : (os : List ℕ) → operator tags values tag x ≡ Some os → terms_of (tree tags values) os ≡ tcons l (tcons r tnil) → AllTerms tags n os → TwoBack tag x l r
      two [] f d a = let z : ◌≡◌ {A = ℕ} 0 1 = cc in absurd (omega arith)
      two (u ∷ []) f d a = let z : ◌≡◌ {A = ℕ} 0 1 = cc in absurd (omega arith)
      two (u ∷ (v ∷ [])) f d a = record { p = (u, v); found = rw f refl; left_is = cc; right_is = cc; left = a.0; right = a.1.0 }
      two (u ∷ (v ∷ (w ∷ os))) f d a = let z : ◌≡◌ {A = ℕ} 0 1 = cc in absurd (omega arith)

  pub equality-back : (x : ℕ) → is_term tags n x ≡ true → (s : Sort) (l r : Term) → tree tags values x ≡ op 39 s (tcons l (tcons r tnil)) → TwoBack 39 x l r
  equality-back x k s l r e = two_back 39 x (omega arith) (omega arith) k s l r e

  pub equality-found : (x : ℕ) (p : ℕ × ℕ) → and_then (operator tags values 39 x) two_of ≡ Some p → equality tags values x ≡ Some p
  unfolding equality
  equality-found x p e = e

  -- ---- one tree, one place
  pub same-term : (t u : ℕ) → is_term tags n t ≡ true → is_term tags n u ≡ true → tree tags values t ≡ tree tags values u → t ≡ u
  same-term t u k l e = let (h, i) = term-below c t k in let (j, m) = term-below c u l in one-term c t u h j i m e

  pub same_place : (t u : ℕ) → is_term tags n t ≡ true → is_term tags n u ≡ true → tree tags values t ≡ tree tags values u → eqb t u ≡ true
  same_place t u k l e = eq-eqb t u (same-term t u k l e)

  pub same-list : (as' bs : List Binding) → Sorted tags n as' → Sorted tags n bs → vars_at tags values as' ≡ vars_at tags values bs → as' ≡ bs
  unfolding vars_at
  same-list [] [] h l e = refl
  same-list [] (b ∷ bs) h l e = cc
  same-list (a ∷ as') [] h l e = cc
  same-list (a ∷ as') (b ∷ bs) h l e = ap₂ ◌∷◌ (one-binding c a b h.0 l.0 (cc)) (same-list as' bs h.1 l.1 (cc))

  pub lists-same : (as' bs : List Binding) → Sorted tags n as' → Sorted tags n bs → vars_at tags values as' ≡ vars_at tags values bs → same_all as' bs ≡ true
  lists-same as' bs h l e = rw (same-list as' bs h l e) (list_same bs)

  pub same-is : (a b : Binding) → SortPlace tags n a.sort → SortPlace tags n b.sort → same a b ≡ same_var (var_of tags values a) (var_of tags values b)
  same-is a b h l =
      same-at true (same a b) _
      (λ e. rw (binding-eq a b e) (same_refl (var_of tags values b)))
      (λ e. rw (one-binding c a b h l (same-eq _ _ e)) (same_self b))

  pub has-is : (as' : List Binding) → Sorted tags n as' → (a : Binding) → SortPlace tags n a.sort → has as' a ≡ has_var (vars_at tags values as') (var_of tags values a)
  unfolding has has_var vars_at
  has-is [] s a h = refl
  has-is (b ∷ bs) s a h = rw (same-is b a s.0 h, has-is bs s.1 a h)

  -- ---- no variable of a list is free
  pub list-unfree-back : (t : ℕ) → is_term tags n t ≡ true → (as' : List Binding) → Sorted tags n as'
      → Unfree (vars_at tags values as') (free (tree tags values t)) → first_of (binding_free tags values n t) as' ≡ None
  list-unfree-back t k as' s u =
      first-is-none (binding_free tags values n t) as'
      (λ a m. binding-free c t k a (sorted-has tags n as' s a m) ∙ u (var_of tags values a) (has-at tags values as' a m))
