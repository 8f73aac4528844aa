-- Rule 6's refusals, and what each says of the conclusion.
-- Assumes nothing.
use Prim.Native.Nat.{ℕ}
use mathlib.Core.Path.{◌≡◌, sym, ◌∙◌}
use mathlib.Core.Bool.{true}
use mathlib.Core.List.{List}
use Rattle.std.specs.Prelude.{Some, None}
use native.Mathlib.Omega.{arith}
use Rattle.headers.specs.WellFormed.{is_term}
use Rattle.meaning.specs.Sort.{Sort}
use Rattle.meaning.specs.Term.{Var, Vars, Term}
use Rattle.meaning.specs.Tree.{tree}
use Rattle.meaning.specs.FreeTree.{has, free}
use Rattle.meaning.proofs.trees.Passed.{Passed}
use Rattle.answers.specs.Outcome.{refuse}
use Rattle.meaning.proofs.patterns.Bindings.{var_of}
use Rattle.miniscoping.specs.MiniscopeIte.{ite_sides, miniscope_ite}
use Rattle.schemas.specs.Schemas.{equal, binder, ite_term}
use Rattle.rules.proofs.schemas.Ite.{sides-back}
use Rattle.rules.proofs.sound.MiniscopeIte.{sides-tree}
use Rattle.rules.proofs.refusals.Refuses.{need-refuses, guard-refuses, unless-last-refuses, renumber}
use Rattle.rules.proofs.refusals.Reasons.{lists-differ, free-variable}

-- `(= (forall xs (ite p t u)) (ite p (forall ys t) (forall zs u)))`
abbrev pub ite_step : Sort → Sort → Sort → Vars → Vars → Vars → Term → Term → Term → Term
ite_step s s' s'' xs ys zs p t u = equal s (binder true xs (ite_term s' p t u)) (ite_term s'' p (binder true ys t) (binder true zs u))

-- the code, and the two numbers that it carries
pub data IteRefused (tags values : List ℕ) (x : ℕ) : ℕ → ℕ → ℕ → Type 0 where
  form : ((s s' s'' : Sort) (xs ys zs : Vars) (p t u : Term) → tree tags values x ≡ ite_step s s' s'' xs ys zs p t u → ⊥) → IteRefused tags values x 2 x 0
  lists : (l r : ℕ) (xs ys : Vars) (b d : Term) → tree tags values l ≡ binder true xs b → tree tags values r ≡ binder true ys d → (xs ≡ ys → ⊥)
      → IteRefused tags values x 6 l r
  still-free : (s s' s'' : Sort) (xs ys zs : Vars) (q : ℕ) (t u : Term) → tree tags values x ≡ ite_step s s' s'' xs ys zs (tree tags values q) t u
      → (v : Var) → has xs v ≡ true → free (tree tags values q) v ≡ true → IteRefused tags values x 12 v.name q

module _ {tags values rules : List ℕ} {n : ℕ} (c : Passed tags values rules n) (x : ℕ) (t : is_term tags n x ≡ true) where
  no_sides : ite_sides tags values x ≡ None → (s s' s'' : Sort) (xs ys zs : Vars) (p q r : Term) → tree tags values x ≡ ite_step s s' s'' xs ys zs p q r → ⊥
  no_sides e s s' s'' xs ys zs p q r is =
      let b = sides-back c x t s s' s'' xs ys zs p q r is in
      let d : None ≡ Some b.s = sym e ∙ b.found in
      let z : ◌≡◌ {A = ℕ} 0 1 = cc in
      omega arith

  pub ite-refused : (k a b : ℕ) → miniscope_ite tags values n x ≡ refuse k a b → IteRefused tags values x k a b
  unfolding miniscope_ite var_of
  ite-refused k a b e =
      need-refuses _ _ _ _ _ e (λ o. renumber P (form (no_sides o))) λ s e₁ h₁.
      let i = sides-tree c x t s e₁ in
      guard-refuses _ _ _ _ _ h₁
      (λ o. renumber P (lists s.left s.yes-place _ _ _ _ i.left_is i.yes-is (lists-differ c s.list s.yes-list i.sorts i.yes-sorts o))) λ e₂ h₂.
      guard-refuses _ _ _ _ _ h₂
      (λ o. renumber P (lists s.left s.no_place _ _ _ _ i.left_is i.no-is (lists-differ c s.list s.no-list i.sorts i.no-sorts o))) λ e₃ h₃.
      unless-last-refuses _ _ _ _ h₃
      (λ v o. let (h, f) = free-variable c s.test i.test s.list i.sorts v o in
      renumber P (still-free i.sort i.from-sort i.to-sort _ _ _ s.test i.second i.third i.tree_is (var_of tags values v) h f))
    where
      P : ℕ → ℕ → ℕ → Type 0
      P = IteRefused tags values x
