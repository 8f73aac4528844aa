-- Rule 2, `qnt_rm_unused`, is sound.
-- Assumes nothing.
use Prim.Native.Nat.{ℕ}
use mathlib.Core.Path.{◌≡◌, refl, sym, ◌∙◌}
use mathlib.Core.Bool.{Bool, true, false, not, ◌&&◌, false≢true}
use mathlib.Core.List.{List, []}
use Rattle.std.specs.Prelude.{None}
use lib.Dec.{eqb}
use borrow.Author.Tests.{eqb-true, not-false}
use Rattle.headers.specs.WellFormed.{is_term}
use Rattle.meaning.specs.Sort.{Sort, bool}
use Rattle.meaning.specs.Term.{Var, Vars, Term, quant, op, tnil, tcons, stated}
use Rattle.meaning.specs.Tree.{tree}
use Rattle.meaning.specs.FreeTree.{has, free}
use Rattle.meaning.proofs.trees.Header.{both}
use Rattle.meaning.proofs.trees.Passed.{Passed}
use Rattle.meaning.specs.Skeleton.{skeleton}
use Rattle.meaning.specs.Truth.{Assignment, Reading, Local, over, True}
use Rattle.meaning.proofs.truth.Over.{bool_cases, not-both, Subset}
use Rattle.meaning.proofs.truth.Coincide.{term-coincide}
use Rattle.answers.specs.Outcome.{pass}
use Rattle.bindings.specs.Binding.{Binding, has as has_pair, first_of}
use Rattle.free_pairs.specs.BindingFree.{binding_free}
use Rattle.formulas.specs.Pattern.{Quantifier}
use Rattle.quantifier_rules.specs.QntRmUnused.{removes, unused, body_or, qnt_rm_unused}
use Rattle.meaning.proofs.patterns.Passes.{need-passes, guard-passes, unless-passes, unless-last, by-option}
use Rattle.meaning.proofs.patterns.Bindings.{first-none, vars_at, has-at, has-pair}
use Rattle.meaning.proofs.patterns.Trees.{Sorted, sorted-has, IsQuantifier, IsEquality, quantifier-tree, equality-tree, binding-free, list-unfree}
use Rattle.meaning.proofs.patterns.Sound.{beq-eq, Unfree, equality-true, over-fewer}

module _ (R : Reading) (local : Local R) where
  -- the right list lacks only variables that are not free in the body
  pub rm-unused-true : (b : Bool) (ls rs : Vars) (t : Term) (s s' : Sort) → Subset rs ls → ((v : Var) → has ls v ≡ true → has rs v ≡ false → free t v ≡ false)
      → (ρ : Assignment R.Value) → True R (op 39 s (tcons (quant b bool ls t) (tcons (quant b s' rs t) tnil))) ρ ≡ true
  unfolding True skeleton stated
  rm-unused-true b ls rs t s s' fewer unused ρ =
      equality-true R s (quant b bool ls t) (quant b s' rs t) ρ refl (over-fewer R b ls rs (True R t) (free t) (term-coincide R local t) fewer unused ρ)

  -- "accept if no left variable is free in the body and the right is that body"
  pub rm-all-true : (b : Bool) (ls : Vars) (t : Term) (s : Sort) → Unfree ls (free t)
      → (ρ : Assignment R.Value) → True R (op 39 s (tcons (quant b bool ls t) (tcons t tnil))) ρ ≡ true
  unfolding True skeleton stated over has
  rm-all-true b ls t s unused ρ =
      equality-true R s (quant b bool ls t) t ρ refl
      (over-fewer R b ls [] (True R t) (free t) (term-coincide R local t) (λ v e. absurd (false≢true e)) (λ v l q. unused v l) ρ)

-- ---- at places
module _ {tags values rules : List ℕ} {n : ℕ} (c : Passed tags values rules n) where
  -- refusal 8: every pair of the right list is in the left
  pub pairs-fewer : (ls rs : List Binding) → first_of (λ a. not (has_pair ls a)) rs ≡ None → Subset (vars_at tags values rs) (vars_at tags values ls)
  pairs-fewer ls rs e v h =
      has-pair tags values rs v h (λ a m p. rw (← p) (has-at tags values ls a (not-false _ (first-none (λ a. not (has_pair ls a)) rs e a m))))

  -- refusal 9: a pair of the left list that the right lacks is not free in the body
  pub pairs-unused : (t : ℕ) → is_term tags n t ≡ true → (ls rs : List Binding) → Sorted tags n ls
      → first_of (λ a. not (has_pair rs a) && binding_free tags values n t a) ls ≡ None
      → (v : Var) → has (vars_at tags values ls) v ≡ true → has (vars_at tags values rs) v ≡ false → free (tree tags values t) v ≡ false
  pairs-unused t k ls rs s e v h g =
      has-pair tags values ls v h λ a m p.
      let gone : has_pair rs a ≡ false = bool_cases (has_pair rs a) (λ y. absurd (not-both (rw p at (has-at tags values rs a y)) g)) (λ y. y) in
      rw (← p) (sym (binding-free c t k a (sorted-has tags n ls s a m))
      ∙ (rw gone at (first-none (λ a. not (has_pair rs a) && binding_free tags values n t a) ls e a m)))

  module _ (R : Reading) (local : Local R) (ρ : Assignment R.Value) (x : ℕ) (sides : ℕ × ℕ) (s : IsEquality tags values n x sides.0 sides.1)
      (left : Quantifier) (l : IsQuantifier tags values n sides.0 left) where
    early-sound : (unused tags values n left && eqb left.body sides.1) ≡ true → True R (tree tags values x) ρ ≡ true
    unfolding unused
    early-sound e =
        by-option (first_of (binding_free tags values n left.body) left.list)
        (λ a o. absurd (false≢true (rw o at e)))
        (λ o. let shape : tree tags values x
        ≡ op 39 s.sort (tcons (quant left.kind bool (vars_at tags values left.list) (tree tags values left.body)) (tcons (tree tags values left.body) tnil)) =
        cc (s.tree_is, l.tree_is, eqb-true left.body sides.1 (both (unused tags values n left) _ e).1) in
        rw shape (rm-all-true R local left.kind _ _ _ (list-unfree c left.body l.body left.list l.sorts o) ρ))

    removes-sound : removes tags values n left sides.1 ≡ pass tt → True R (tree tags values x) ρ ≡ true
    unfolding removes
    removes-sound e =
        need-passes tt _ _ _ _ _ e λ right e₁ h₁.
        guard-passes tt _ _ _ _ _ h₁ λ e₂ h₂.
        guard-passes tt _ _ _ _ _ h₂ λ e₃ h₃.
        unless-passes tt _ _ _ _ _ h₃ λ e₄ h₄.
        let r = quantifier-tree c sides.1 s.right right e₁ in
        let shape : tree tags values x
        ≡ op 39 s.sort (tcons (quant left.kind bool (vars_at tags values left.list) (tree tags values left.body))
        (tcons (quant left.kind bool (vars_at tags values right.list) (tree tags values left.body)) tnil)) =
        cc (s.tree_is, l.tree_is, r.tree_is, beq-eq left.kind right.kind e₂, eqb-true left.body right.body e₃) in
        rw shape (rm-unused-true R local left.kind _ _ _ _ _ (pairs-fewer left.list right.list e₄)
        (pairs-unused left.body l.body left.list right.list l.sorts (unless-last _ _ _ _ h₄)) ρ)

  pub qnt-rm-unused-sound : (x : ℕ) → is_term tags n x ≡ true → qnt_rm_unused tags values n x ≡ pass tt
      → (R : Reading) → Local R → (ρ : Assignment R.Value) → True R (tree tags values x) ρ ≡ true
  unfolding qnt_rm_unused body_or
  qnt-rm-unused-sound x t e R local ρ =
      need-passes tt _ _ _ _ _ e λ sides e₁ h₁.
      need-passes tt _ _ _ _ _ h₁ λ left e₂ h₂.
      let s = equality-tree c x t sides e₁ in
      let l = quantifier-tree c sides.0 s.left left e₂ in
      bool_cases (unused tags values n left && eqb left.body sides.1)
      (λ y. early-sound R local ρ x sides s left l y)
      (λ y. removes-sound R local ρ x sides s left l (rw y at h₂))
