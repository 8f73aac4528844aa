-- Rule 1, `qnt_join`, is sound.
-- Assumes nothing.
use Prim.Native.Nat.{ℕ}
use mathlib.Core.Path.{◌≡◌, refl, sym, ap, ◌∙◌, fun_ext}
use mathlib.Core.Bool.{Bool, true, ◌||◌, or_self_left}
use mathlib.Core.List.{List, [], ◌∷◌, ◌++◌}
use borrow.Author.Tests.{eqb-true}
use Rattle.headers.specs.WellFormed.{is_term}
use Rattle.meaning.specs.Sort.{Sort, bool}
use Rattle.meaning.specs.Term.{Var, Vars, Term, quant, op, tnil, tcons, stated}
use Rattle.meaning.specs.Tree.{tree}
use Rattle.meaning.specs.FreeTree.{same, has}
use Rattle.meaning.proofs.trees.Passed.{Passed}
use Rattle.meaning.specs.Skeleton.{skeleton}
use Rattle.meaning.specs.Truth.{Assignment, Reading, Local, True}
use Rattle.meaning.proofs.truth.Over.{bool_cases, not-both}
use Rattle.answers.specs.Outcome.{pass}
use Rattle.bindings.specs.Binding.{Binding, same as same_pair}
use Rattle.quantifier_rules.specs.QntJoin.{after_pair, without_adjacent, joined, qnt_join}
use Rattle.meaning.proofs.patterns.Passes.{need-passes, guard-passes, guard-last}
use Rattle.meaning.proofs.patterns.Bindings.{binding-eq, list-eq, var_of, vars_at, vars-append}
use Rattle.meaning.proofs.patterns.Trees.{quantifier-tree, equality-tree}
use Rattle.meaning.proofs.patterns.Sound.{beq-eq, equality-true, over-fewer, over-append}

module _ (R : Reading) where
  -- one quantifier over the variables of both, in any order and with any repeats
  pub join-true : (b : Bool) (ls ms rs : Vars) (t : Term) (s s' s'' : Sort) → ((v : Var) → has rs v ≡ has (ls ++ ms) v)
      → (ρ : Assignment R.Value) → True R (op 39 s (tcons (quant b bool ls (quant b s' ms t)) (tcons (quant b s'' rs t) tnil))) ρ ≡ true
  unfolding True skeleton stated
  join-true b ls ms rs t s s' s'' same ρ =
      equality-true R s (quant b bool ls (quant b s' ms t)) (quant b s'' rs t) ρ refl
      (over-append R b ls ms (True R t) ρ
      ∙ over-fewer R b (ls ++ ms) rs (True R t) (λ v. true) (λ σ τ h. ap (True R t) (fun_ext (λ v. h v refl))) (λ v e. sym (same v) ∙ e)
      (λ v e q. absurd (not-both (same v ∙ e) q)) ρ)

-- ---- at places
module _ (tags values : List ℕ) where
  -- dropping a pair that equals the one before it changes no member
  after-has : (a : Binding) (bs : List Binding) (v : Var)
      → (same (var_of tags values a) v || has (vars_at tags values (after_pair a bs)) v) ≡ (same (var_of tags values a) v || has (vars_at tags values bs) v)
  unfolding after_pair vars_at has
  after-has a [] v = refl
  after-has a (b ∷ bs) v =
      bool_cases (same_pair a b)
      (λ e. rw (e, binding-eq a b e) (after-has b bs v ∙ sym (or_self_left (same (var_of tags values b) v) _)))
      (λ e. rw e (ap (◌||◌ (same (var_of tags values a) v)) (after-has b bs v)))

  joined-has : (ls ms : List Binding) (v : Var) → has (vars_at tags values (joined ls ms)) v ≡ has (vars_at tags values ls ++ vars_at tags values ms) v
  unfolding joined without_adjacent vars_at has
  joined-has ls ms v = adjacent (ls ++ ms) ∙ ap (λ (vs : Vars). has vs v) (vars-append tags values ls ms)
    where
      adjacent : (as' : List Binding) → has (vars_at tags values (without_adjacent as')) v ≡ has (vars_at tags values as') v
      adjacent [] = refl
      adjacent (a ∷ as') = after-has a as' v

module _ {tags values rules : List ℕ} {n : ℕ} (c : Passed tags values rules n) where
  pub qnt-join-sound : (x : ℕ) → is_term tags n x ≡ true → qnt_join tags values x ≡ pass tt
      → (R : Reading) → Local R → (ρ : Assignment R.Value) → True R (tree tags values x) ρ ≡ true
  unfolding qnt_join
  qnt-join-sound x t e R local ρ =
      need-passes tt _ _ _ _ _ e λ sides e₁ h₁.
      need-passes tt _ _ _ _ _ h₁ λ left e₂ h₂.
      need-passes tt _ _ _ _ _ h₂ λ inner e₃ h₃.
      need-passes tt _ _ _ _ _ h₃ λ right e₄ h₄.
      guard-passes tt _ _ _ _ _ h₄ λ e₅ h₅.
      guard-passes tt _ _ _ _ _ h₅ λ e₆ h₆.
      guard-passes tt _ _ _ _ _ h₆ λ e₇ h₇.
      let s = equality-tree c x t sides e₁ in
      let l = quantifier-tree c sides.0 s.left left e₂ in
      let m = quantifier-tree c left.body l.body inner e₃ in
      let r = quantifier-tree c sides.1 s.right right e₄ in
      let list : joined left.list inner.list ≡ right.list = list-eq _ _ (guard-last _ _ _ _ h₇) in
      let ls = vars_at tags values left.list in
      let ms = vars_at tags values inner.list in
      let rs = vars_at tags values (joined left.list inner.list) in
      let b = tree tags values inner.body in
      let shape : tree tags values x ≡ op 39 s.sort (tcons (quant left.kind bool ls (quant left.kind bool ms b)) (tcons (quant left.kind bool rs b) tnil)) =
      cc (
        s.tree_is,
        l.tree_is,
        m.tree_is,
        r.tree_is,
        beq-eq left.kind inner.kind e₅,
        beq-eq inner.kind right.kind e₆,
        eqb-true inner.body right.body e₇,
        list,
      ) in
      rw shape (join-true R left.kind ls ms rs b _ _ _ (joined-has tags values left.list inner.list) ρ)
