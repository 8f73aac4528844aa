-- Rule 1, `qnt_join`, at places is the schema at the tree.
-- Assumes nothing.
use Prim.Native.Nat.{ℕ}
use mathlib.Core.Path.{◌≡◌, refl, sym, ap, subst, ◌∙◌}
use mathlib.Core.Logic.{◌↔◌}
use mathlib.Core.Bool.{true}
use mathlib.Core.List.{List, [], ◌∷◌, ◌++◌}
use borrow.Author.Tests.{eqb-true}
use Rattle.headers.specs.WellFormed.{is_term}
use Rattle.meaning.specs.Sort.{bool}
use Rattle.meaning.specs.Term.{Vars, Term}
use Rattle.meaning.specs.Tree.{tree}
use Rattle.meaning.proofs.trees.Passed.{Passed}
use Rattle.meaning.proofs.truth.Over.{bool_cases}
use Rattle.answers.specs.Outcome.{pass, ◌>>=◌, ◌>>◌, need, guard}
use Rattle.bindings.specs.Binding.{Binding, same}
use Rattle.meaning.proofs.patterns.Bindings.{list-eq, var_of, vars_at, vars-append}
use Rattle.meaning.proofs.patterns.Sound.{beq_same, beq-eq}
use Rattle.meaning.proofs.patterns.Passes.{need-passes, guard-passes, guard-last}
use Rattle.meaning.proofs.patterns.Trees.{Sorted, sorted-append, quantifier-tree, equality-tree}
use Rattle.quantifier_rules.specs.QntJoin.{after_pair, without_adjacent, joined, qnt_join}
use Rattle.schemas.specs.Schemas.{QntJoin, joins, equal, binder, after, joined_once}
use Rattle.meaning.proofs.patterns.Back.{quantifier-back, equality-back, equality-found, same_place, lists-same, same-is}

module _ {tags values rules : List ℕ} {n : ℕ} (c : Passed tags values rules n) where
  -- ---- adjacent equal pairs and adjacent equal variables
  pub record Kept (as' : List Binding) (vs : Vars) : Type 0 where
    pub vars : vars_at tags values as' ≡ vs
    pub sorts : Sorted tags n as'

  after_is : (a : Binding) (bs : List Binding) → Sorted tags n (a ∷ bs) → Kept (after_pair a bs) (after (var_of tags values a) (vars_at tags values bs))
  unfolding after_pair after vars_at
  after_is a [] s = record { vars = refl; sorts = tt }
  after_is a (b ∷ bs) s =
      let h = after_is b bs s.1 in
      bool_cases (same a b)
      (λ e. rw (e, sym (same-is c a b s.0 s.1.0) ∙ e) h)
      (λ e. rw (e, sym (same-is c a b s.0 s.1.0) ∙ e) (record { vars = ap (◌∷◌ (var_of tags values b)) h.vars; sorts = (s.1.0, h.sorts) }))

  adjacent-is : (as' : List Binding) → Sorted tags n as' → Kept (without_adjacent as') (joined_once (vars_at tags values as'))
  unfolding without_adjacent joined_once vars_at
  adjacent-is [] s = record { vars = refl; sorts = tt }
  adjacent-is (a ∷ as') s = let h = after_is a as' s in record { vars = ap (◌∷◌ (var_of tags values a)) h.vars; sorts = (s.0, h.sorts) }

  pub joined_is : (as' bs : List Binding) → Sorted tags n as' → Sorted tags n bs → Kept (joined as' bs) (joined_once (vars_at tags values as' ++ vars_at tags values bs))
  unfolding joined
  joined_is as' bs s u = rw (← vars-append tags values as' bs) (adjacent-is (as' ++ bs) (sorted-append tags n as' bs s u))

  module _ (x : ℕ) (t : is_term tags n x ≡ true) where
    join-there : qnt_join tags values x ≡ pass tt → QntJoin (tree tags values x)
    unfolding qnt_join
    join-there e =
        need-passes tt _ _ _ _ _ e λ sides e₁ h₁.
        need-passes tt _ _ _ _ _ h₁ λ left e₂ h₂.
        need-passes tt _ _ _ _ _ h₂ λ inner e₃ h₃.
        need-passes tt _ _ _ _ _ h₃ λ right e₄ h₄.
        guard-passes tt _ _ _ _ _ h₄ λ e₅ h₅.
        guard-passes tt _ _ _ _ _ h₅ λ e₆ h₆.
        guard-passes tt _ _ _ _ _ h₆ λ e₇ h₇.
        let s = equality-tree c x t sides e₁ in
        let l = quantifier-tree c sides.0 s.left left e₂ in
        let m = quantifier-tree c left.body l.body inner e₃ in
        let r = quantifier-tree c sides.1 s.right right e₄ in
        let list : joined left.list inner.list ≡ right.list = list-eq _ _ (guard-last _ _ _ _ h₇) in
        let xs = vars_at tags values left.list in
        let ys = vars_at tags values inner.list in
        let zs = vars_at tags values right.list in
        let b = tree tags values inner.body in
        let shape : tree tags values x ≡ equal s.sort (binder left.kind xs (binder left.kind ys b)) (binder left.kind zs b) =
        cc (
          s.tree_is,
          l.tree_is,
          m.tree_is,
          r.tree_is,
          beq-eq left.kind inner.kind e₅,
          beq-eq inner.kind right.kind e₆,
          eqb-true inner.body right.body e₇,
        ) in
        subst QntJoin (sym shape)
        (joins s.sort left.kind xs ys zs b (ap (vars_at tags values) (sym list) ∙ (joined_is left.list inner.list l.sorts m.sorts).vars))

    join-back : {T : Term} → QntJoin T → tree tags values x ≡ T → qnt_join tags values x ≡ pass tt
    unfolding qnt_join ◌>>=◌ ◌>>◌ need guard
    join-back (joins s Q xs ys zs b z) e =
        let eq = equality-back c x t s _ _ e in
        let l = quantifier-back c eq.p.0 eq.left Q bool xs _ eq.left_is in
        let m = quantifier-back c l.q.body l.body Q bool ys b l.body_is in
        let r = quantifier-back c eq.p.1 eq.right Q bool zs b eq.right_is in
        let j = joined_is l.q.list m.q.list l.sorts m.sorts in
        let lists : vars_at tags values (joined l.q.list m.q.list) ≡ vars_at tags values r.q.list = cc (j.vars, l.list, m.list, r.list, z) in
        rw (
          equality-found c x eq.p eq.found,
          l.found,
          m.found,
          r.found,
          l.kind,
          m.kind,
          r.kind,
          beq_same Q,
          same_place c m.q.body r.q.body m.body r.body (m.body_is ∙ sym r.body_is),
          lists-same c (joined l.q.list m.q.list) r.q.list j.sorts r.sorts lists,
        )

    -- the rule passes exactly if the schema holds
    pub qnt-join-is : qnt_join tags values x ≡ pass tt ↔ QntJoin (tree tags values x)
    qnt-join-is = (join-there, λ m. join-back m refl)
