-- Rule 2, `qnt_rm_unused`, at places is the schema at the tree.
-- Assumes nothing.
use Prim.Native.Nat.{ℕ}
use mathlib.Core.Path.{◌≡◌, refl, sym, subst, ◌∙◌}
use mathlib.Core.Logic.{◌↔◌}
use mathlib.Core.Bool.{true, ◌&&◌, false≢true}
use mathlib.Core.List.{List}
use lib.Dec.{eqb}
use borrow.Author.Tests.{eqb-true}
use Rattle.headers.specs.WellFormed.{is_term}
use Rattle.meaning.specs.Sort.{bool}
use Rattle.meaning.specs.Term.{Term}
use Rattle.meaning.specs.Tree.{tree}
use Rattle.meaning.proofs.trees.Header.{both}
use Rattle.meaning.proofs.trees.Passed.{Passed}
use Rattle.meaning.proofs.truth.Over.{bool_cases}
use Rattle.answers.specs.Outcome.{pass, ◌>>=◌, ◌>>◌, need, guard, unless}
use Rattle.bindings.specs.Binding.{first_of}
use Rattle.free_pairs.specs.BindingFree.{binding_free}
use Rattle.meaning.proofs.patterns.Bindings.{vars_at}
use Rattle.meaning.proofs.patterns.Sound.{beq-eq, beq_same}
use Rattle.formulas.specs.Pattern.{Quantifier}
use Rattle.meaning.proofs.patterns.Passes.{need-passes, guard-passes, unless-passes, unless-last, by-option}
use Rattle.meaning.proofs.patterns.Trees.{IsQuantifier, IsEquality, quantifier-tree, equality-tree, list-unfree}
use Rattle.quantifier_rules.specs.QntRmUnused.{removes as removes_at, unused, body_or, qnt_rm_unused}
use Rattle.schemas.specs.Schemas.{QntRmUnused, removes, removes-all, equal, binder, Among, FreeAmong, NotFree}
use Rattle.meaning.proofs.patterns.Back.{quantifier-back, equality-back, equality-found, same_place, list-unfree-back}
use Rattle.rules.proofs.schemas.Lists.{fewer-there, fewer-back, used-there, used-back}

module _ {tags values rules : List ℕ} {n : ℕ} (c : Passed tags values rules n) where
  -- ---- from places to trees
  module _ (x : ℕ) (sides : ℕ × ℕ) (s : IsEquality tags values n x sides.0 sides.1) (left : Quantifier) (l : IsQuantifier tags values n sides.0 left) where
    early-there : (unused tags values n left && eqb left.body sides.1) ≡ true → QntRmUnused (tree tags values x)
    unfolding unused
    early-there e =
        by-option (first_of (binding_free tags values n left.body) left.list)
        (λ a o. absurd (false≢true (rw o at e)))
        (λ o. let xs = vars_at tags values left.list in
        let b = tree tags values left.body in
        let shape : tree tags values x ≡ equal s.sort (binder left.kind xs b) b =
        cc (s.tree_is, l.tree_is, eqb-true left.body sides.1 (both (unused tags values n left) _ e).1) in
        subst QntRmUnused (sym shape) (removes-all s.sort left.kind xs b (list-unfree c left.body l.body left.list l.sorts o)))

    removes-there : removes_at tags values n left sides.1 ≡ pass tt → QntRmUnused (tree tags values x)
    unfolding removes_at
    removes-there e =
        need-passes tt _ _ _ _ _ e λ right e₁ h₁.
        guard-passes tt _ _ _ _ _ h₁ λ e₂ h₂.
        guard-passes tt _ _ _ _ _ h₂ λ e₃ h₃.
        unless-passes tt _ _ _ _ _ h₃ λ e₄ h₄.
        let r = quantifier-tree c sides.1 s.right right e₁ in
        let xs = vars_at tags values left.list in
        let zs = vars_at tags values right.list in
        let b = tree tags values left.body in
        let shape : tree tags values x ≡ equal s.sort (binder left.kind xs b) (binder left.kind zs b) =
        cc (s.tree_is, l.tree_is, r.tree_is, beq-eq left.kind right.kind e₂, eqb-true left.body right.body e₃) in
        subst QntRmUnused (sym shape)
        (removes s.sort left.kind xs zs b (fewer-there c left.list right.list e₄)
        (used-there c left.list right.list left.body l.body l.sorts (unless-last _ _ _ _ h₄)))

  module _ (x : ℕ) (t : is_term tags n x ≡ true) where
    rm-there : qnt_rm_unused tags values n x ≡ pass tt → QntRmUnused (tree tags values x)
    unfolding qnt_rm_unused body_or
    rm-there e =
        need-passes tt _ _ _ _ _ e λ sides e₁ h₁.
        need-passes tt _ _ _ _ _ h₁ λ left e₂ h₂.
        let s = equality-tree c x t sides e₁ in
        let l = quantifier-tree c sides.0 s.left left e₂ in
        bool_cases (unused tags values n left && eqb left.body sides.1)
        (λ y. early-there x sides s left l y)
        (λ y. removes-there x sides s left l (rw y at h₂))

    -- ---- from trees to places
    rm-back : {T : Term} → QntRmUnused T → tree tags values x ≡ T → qnt_rm_unused tags values n x ≡ pass tt
    unfolding qnt_rm_unused body_or removes_at unused ◌>>=◌ ◌>>◌ need guard unless
    rm-back (removes s Q xs zs b fewer used) e =
        let eq = equality-back c x t s _ _ e in
        let l = quantifier-back c eq.p.0 eq.left Q bool xs b eq.left_is in
        let r = quantifier-back c eq.p.1 eq.right Q bool zs b eq.right_is in
        let f : Among (vars_at tags values r.q.list) (vars_at tags values l.q.list) = rw (r.list, l.list) fewer in
        let u : FreeAmong (tree tags values l.q.body) (vars_at tags values l.q.list) (vars_at tags values r.q.list) = rw (r.list, l.list, l.body_is) used in
        rw (equality-found c x eq.p eq.found, l.found)
        (bool_cases (unused tags values n l.q && eqb l.q.body eq.p.1)
        (λ y. rw y)
        (λ y. rw (
          y,
          r.found,
          l.kind,
          r.kind,
          beq_same Q,
          same_place c l.q.body r.q.body l.body r.body (l.body_is ∙ sym r.body_is),
          fewer-back c l.q.list r.q.list l.sorts r.sorts f,
          used-back c l.q.list r.q.list l.q.body l.body l.sorts r.sorts u,
        )))
    rm-back (removes-all s Q xs b nf) e =
        let eq = equality-back c x t s _ _ e in
        let l = quantifier-back c eq.p.0 eq.left Q bool xs b eq.left_is in
        let u : NotFree (vars_at tags values l.q.list) (tree tags values l.q.body) = rw (l.list, l.body_is) nf in
        rw (
          equality-found c x eq.p eq.found,
          l.found,
          list-unfree-back c l.q.body l.body l.q.list l.sorts u,
          same_place c l.q.body eq.p.1 l.body eq.right (l.body_is ∙ sym eq.right_is),
        )

    -- the rule passes exactly if the schema holds
    pub qnt-rm-unused-is : qnt_rm_unused tags values n x ≡ pass tt ↔ QntRmUnused (tree tags values x)
    qnt-rm-unused-is = (rm-there, λ m. rm-back m refl)
