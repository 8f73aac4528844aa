-- What the parts of a rule say of trees where they fail.
--     no-equality, no-quantifier         2 and 3: the term has no such form
--     kinds-differ                       4: other quantifiers
--     terms-differ, lists-differ         5 and 6: other terms, other lists
--     new-variable, missing-variable     8 and 9: the variable that is carried
--     free-variable                         12: the variable that is carried
-- Assumes nothing.
use Prim.Native.Nat.{ℕ}
use mathlib.Core.Path.{◌≡◌, sym, ◌∙◌}
use mathlib.Core.Bool.{Bool, true, false, not, ◌&&◌, beq}
use mathlib.Core.List.{List}
use Rattle.std.specs.Prelude.{Some, None}
use lib.Dec.{eqb}
use native.Mathlib.Omega.{arith}
use borrow.Author.Tests.{eqb-false, not-true}
use Rattle.headers.specs.WellFormed.{is_term}
use Rattle.meaning.specs.Sort.{Sort}
use Rattle.meaning.specs.Term.{Vars, Term, quant}
use Rattle.meaning.specs.Tree.{tree}
use Rattle.meaning.specs.FreeTree.{has as has_var, free}
use Rattle.meaning.proofs.trees.Header.{both}
use Rattle.meaning.proofs.trees.Passed.{Passed}
use Rattle.meaning.proofs.truth.Over.{not-both}
use Rattle.bindings.specs.Binding.{Binding, has, same_all, first_of}
use Rattle.free_pairs.specs.BindingFree.{binding_free}
use Rattle.meaning.proofs.patterns.Bindings.{first_some, var_of, vars_at, has-at}
use Rattle.meaning.proofs.patterns.Sound.{beq_same}
use Rattle.formulas.specs.Pattern.{quantifier, equality}
use Rattle.meaning.proofs.patterns.Trees.{Sorted, sorted-has, binding-free}
use Rattle.schemas.specs.Schemas.{equal}
use Rattle.meaning.proofs.patterns.Back.{quantifier-back, equality-back, equality-found, same-term, lists-same, has-is}

-- ---- forms that a term has not
abbrev pub NoEquality : Term → Type 0
NoEquality t = (s : Sort) (l r : Term) → t ≡ equal s l r → ⊥

abbrev pub NoQuantifier : Term → Type 0
NoQuantifier t = (b : Bool) (s : Sort) (vs : Vars) (u : Term) → t ≡ quant b s vs u → ⊥

pub kinds-differ : (b d : Bool) → beq b d ≡ false → b ≡ d → ⊥
kinds-differ b d e z = not-both (rw z (beq_same d)) e

module _ {tags values rules : List ℕ} {n : ℕ} (c : Passed tags values rules n) where
  module _ (x : ℕ) (t : is_term tags n x ≡ true) where
    pub no-equality : equality tags values x ≡ None → NoEquality (tree tags values x)
    no-equality e s l r is =
        let b = equality-back c x t s l r is in
        let d : None ≡ Some b.p = sym e ∙ equality-found c x b.p b.found in
        let z : ◌≡◌ {A = ℕ} 0 1 = cc in
        omega arith

    pub no-quantifier : quantifier tags values x ≡ None → NoQuantifier (tree tags values x)
    no-quantifier e b s vs u is =
        let q = quantifier-back c x t b s vs u is in
        let d : None ≡ Some q.q = sym e ∙ q.found in
        let z : ◌≡◌ {A = ℕ} 0 1 = cc in
        omega arith

  pub terms-differ : (t u : ℕ) → is_term tags n t ≡ true → is_term tags n u ≡ true → eqb t u ≡ false → tree tags values t ≡ tree tags values u → ⊥
  terms-differ t u k l e is = eqb-false t u e (same-term c t u k l is)

  pub lists-differ : (as' bs : List Binding) → Sorted tags n as' → Sorted tags n bs → same_all as' bs ≡ false → vars_at tags values as' ≡ vars_at tags values bs → ⊥
  lists-differ as' bs s u e is = not-both (lists-same c as' bs s u is) e

  -- 8: a variable of the right list that the left list lacks
  pub new-variable : (ls rs : List Binding) → Sorted tags n ls → Sorted tags n rs → (a : Binding) → first_of (λ a. not (has ls a)) rs ≡ Some a
      → (has_var (vars_at tags values rs) (var_of tags values a) ≡ true) × (has_var (vars_at tags values ls) (var_of tags values a) ≡ false)
  new-variable ls rs s u a e =
      let (h, k) = first_some (λ a. not (has ls a)) rs a e in
      (has-at tags values rs a h, sym (has-is c ls s a (sorted-has tags n rs u a h)) ∙ not-true _ k)

  -- 9: a variable of the left list that the right list lacks and that is free in the term
  pub missing-variable : (t : ℕ) → is_term tags n t ≡ true → (ls rs : List Binding) → Sorted tags n ls → Sorted tags n rs → (a : Binding)
      → first_of (λ a. not (has rs a) && binding_free tags values n t a) ls ≡ Some a
      → (has_var (vars_at tags values ls) (var_of tags values a) ≡ true) × (has_var (vars_at tags values rs) (var_of tags values a) ≡ false)
      × (free (tree tags values t) (var_of tags values a) ≡ true)
  missing-variable t k ls rs s u a e =
      let (h, b) = first_some (λ a. not (has rs a) && binding_free tags values n t a) ls a e in
      let p = sorted-has tags n ls s a h in
      let (l, f) = both (not (has rs a)) _ b in
      (has-at tags values ls a h, sym (has-is c rs u a p) ∙ not-true _ l, sym (binding-free c t k a p) ∙ f)

  -- 12: a variable of the list that is free in the term
  pub free-variable : (t : ℕ) → is_term tags n t ≡ true → (as' : List Binding) → Sorted tags n as' → (a : Binding) → first_of (binding_free tags values n t) as' ≡ Some a
      → (has_var (vars_at tags values as') (var_of tags values a) ≡ true) × (free (tree tags values t) (var_of tags values a) ≡ true)
  free-variable t k as' s a e =
      let (h, b) = first_some (binding_free tags values n t) as' a e in
      (has-at tags values as' a h, sym (binding-free c t k a (sorted-has tags n as' s a h)) ∙ b)
