-- Rule 4, `miniscope_distribute`, is sound.
-- Assumes nothing.
use Prim.Native.Nat.{ℕ}
use mathlib.Core.Path.{◌≡◌, refl, ap, ap₂, ◌∙◌}
use mathlib.Core.Bool.{Bool, true, false}
use mathlib.Core.List.{List, [], ◌∷◌}
use lib.ListN.{length}
use native.Mathlib.Omega.{arith}
use borrow.Author.Tests.{eqb-true}
use Rattle.headers.specs.WellFormed.{is_term}
use Rattle.meaning.specs.Sort.{Sort, bool}
use Rattle.meaning.specs.Term.{Vars, Terms, quant, op, tnil, tcons, stated}
use Rattle.meaning.specs.Tree.{terms_of, tree}
use Rattle.meaning.proofs.trees.Passed.{Passed}
use Rattle.formulas.specs.Formula.{connective_tag}
use Rattle.meaning.specs.Skeleton.{skeleton, skeletons, form_of}
use Rattle.meaning.specs.Truth.{Assignment, Reading, Local, and_or, over, truth, truths, True}
use Rattle.meaning.proofs.truth.Over.{same-at, and_or-intro, and_or-left, and_or-right, over-elim, over-intro}
use Rattle.answers.specs.Outcome.{pass}
use Rattle.miniscoping.specs.MiniscopeDistribute.{Sides, distributed, distributed_all, miniscope_distribute}
use Rattle.formulas.specs.Pattern.{quantifier}
use Rattle.meaning.proofs.patterns.Passes.{need-passes, guard-passes, guard-last, then-passes}
use Rattle.meaning.proofs.patterns.Bindings.{list-eq, vars_at}
use Rattle.meaning.proofs.patterns.Trees.{AllTerms, quantifier-tree}
use Rattle.meaning.proofs.patterns.Sound.{equality-true}
use Rattle.rules.proofs.sound.Sides.{of-kind, either-sides}

-- each operand under the quantifier
abbrev pub quant_each : Bool → Vars → Terms → Terms
quant_each b vs tnil = tnil
quant_each b vs (tcons t ts) = tcons (quant b bool vs t) (quant_each b vs ts)

module _ (R : Reading) where
  abbrev A : Type 0
  A = Assignment R.Value

  -- forall over an `and`, exists over an `or`
  over-and_or : (b : Bool) (vs : Vars) (p q : A → Bool) (ρ : A) → over R b vs (λ σ. and_or b (p σ) (q σ)) ρ ≡ and_or b (over R b vs p ρ) (over R b vs q ρ)
  over-and_or b vs p q ρ =
      same-at b _ _
      (λ e. and_or-intro b _ _ (over-intro R b vs p ρ (λ σ w. and_or-left b (p σ) (q σ) (over-elim R b vs _ ρ σ w e)))
      (over-intro R b vs q ρ (λ σ w. and_or-right b (p σ) (q σ) (over-elim R b vs _ ρ σ w e))))
      (λ e. over-intro R b vs _ ρ
      (λ σ w. and_or-intro b (p σ) (q σ) (over-elim R b vs p ρ σ w (and_or-left b _ (over R b vs q ρ) e))
      (over-elim R b vs q ρ σ w (and_or-right b (over R b vs p ρ) _ e))))

  over-each : (b : Bool) (vs : Vars) (ts : Terms) (ρ : A) → over R b vs (truths R b (skeletons ts)) ρ ≡ truths R b (skeletons (quant_each b vs ts)) ρ
  unfolding skeleton
  over-each b vs tnil ρ = over-intro R b vs (λ σ. b) ρ (λ σ w. refl)
  over-each b vs (tcons t ts) ρ =
      over-and_or b vs (truth R (skeleton t)) (truths R b (skeletons ts)) ρ ∙ ap (and_or b (over R b vs (truth R (skeleton t)) ρ)) (over-each b vs ts ρ)

  pub distribute-true : (b : Bool) (vs : Vars) (ts : Terms) (s s' s'' : Sort) (ρ : A)
      → True R (op 39 s (tcons (quant b bool vs (op (connective_tag b) s' ts)) (tcons (op (connective_tag b) s'' (quant_each b vs ts)) tnil))) ρ ≡ true
  unfolding True skeleton form_of stated
  distribute-true b vs ts s s' s'' ρ =
      equality-true R s (quant b bool vs (op (connective_tag b) s' ts)) (op (connective_tag b) s'' (quant_each b vs ts)) ρ refl (sides b)
    where
      sides : (b : Bool) → True R (quant b bool vs (op (connective_tag b) s' ts)) ρ ≡ True R (op (connective_tag b) s'' (quant_each b vs ts)) ρ
      sides true = over-each true vs ts ρ
      sides false = over-each false vs ts ρ

-- ---- at places
module _ {tags values rules : List ℕ} {n : ℕ} (c : Passed tags values rules n) where
  -- a right operand is the left one under the quantifier
  pub operand-tree : (s : Sides) (t u : ℕ) → is_term tags n u ≡ true → distributed tags values s t u ≡ pass tt
      → tree tags values u ≡ quant s.kind bool (vars_at tags values s.list) (tree tags values t)
  unfolding distributed
  operand-tree s t u k e =
      need-passes tt _ _ _ _ _ e λ q e₁ h₁.
      guard-passes tt _ _ _ _ _ h₁ λ e₂ h₂.
      let (o, kind) = of-kind s.kind (quantifier tags values u) q e₁ in
      let i = quantifier-tree c u k q o in
      cc (i.tree_is, kind, list-eq s.list q.list e₂, eqb-true t q.body (guard-last _ _ _ _ h₂))

  operands-tree : (s : Sides) (ts us : List ℕ) → length ts ≡ length us → AllTerms tags n us → distributed_all tags values s ts us ≡ pass tt
      → terms_of (tree tags values) us ≡ quant_each s.kind (vars_at tags values s.list) (terms_of (tree tags values) ts)
  unfolding distributed_all terms_of
  operands-tree s [] [] l k e = refl
  operands-tree s [] (u ∷ us) l k e = absurd (omega arith)
  operands-tree s (t ∷ ts) [] l k e = absurd (omega arith)
  operands-tree s (t ∷ ts) (u ∷ us) l k e =
      then-passes tt _ _ e λ e₁ h₁. ap₂ tcons (operand-tree s t u k.0 e₁) (operands-tree s ts us (omega arith) k.1 h₁)

  pub miniscope-distribute-sound : (x : ℕ) → is_term tags n x ≡ true → miniscope_distribute tags values x ≡ pass tt
      → (R : Reading) → Local R → (ρ : Assignment R.Value) → True R (tree tags values x) ρ ≡ true
  unfolding miniscope_distribute
  miniscope-distribute-sound x t e R local ρ =
      need-passes tt _ _ _ _ _ e λ s e₁ h₁.
      guard-passes tt _ _ _ _ _ h₁ λ e₂ h₂.
      let a = either-sides c x t (λ b. b) s e₁ in
      rw (a.tree_is, operands-tree s s.from s.to (eqb-true _ _ e₂) a.to-terms h₂)
      (distribute-true R s.kind (vars_at tags values s.list) (terms_of (tree tags values) s.from) _ _ _ ρ)
