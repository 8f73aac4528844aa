-- The refusals of rules 4 and 5, and what each says of the conclusion or of the operand.
--     distribute-refused, split-refused
-- Assumes nothing.
use Prim.Native.Nat.{ℕ}
use mathlib.Core.Path.{◌≡◌, refl, sym, ◌∙◌}
use mathlib.Core.Bool.{Bool, true, false, not}
use mathlib.Core.List.{List, [], ◌∷◌}
use Rattle.std.specs.Prelude.{Option, Some, None}
use lib.ListN.{length}
use lib.Dec.{eqb}
use native.Mathlib.Omega.{arith}
use borrow.Author.Tests.{eqb-false}
use Rattle.headers.specs.WellFormed.{is_term}
use Rattle.meaning.specs.Sort.{Sort}
use Rattle.meaning.specs.Term.{Var, Vars, Term, Terms, quant, op}
use Rattle.meaning.specs.Tree.{terms_of, tree}
use Rattle.meaning.specs.FreeTree.{has as has_var, free}
use Rattle.meaning.proofs.trees.Passed.{Passed}
use Rattle.formulas.specs.Formula.{connective_tag}
use Rattle.meaning.proofs.truth.Over.{bool_cases}
use Rattle.answers.specs.Outcome.{pass, refuse}
use Rattle.bindings.specs.Binding.{Binding}
use Rattle.meaning.proofs.patterns.Bindings.{var_of, vars_at}
use Rattle.formulas.specs.Pattern.{quantifier, and_then}
use Rattle.meaning.proofs.patterns.Passes.{need-passes, guard-passes}
use Rattle.meaning.proofs.patterns.Trees.{AllTerms, Sorted, quantifier-tree}
use Rattle.bindings.specs.Used.{without as without_pair, use_all}
use Rattle.miniscoping.specs.MiniscopeDistribute.{Sides, sides_of, or_else, of_kind, distributed, distributed_all, miniscope_distribute}
use Rattle.miniscoping.specs.MiniscopeSplit.{split_off, split_one, split_all, split_sides, miniscope_split}
use Rattle.rules.proofs.sound.Sides.{AreSides, of-kind, either-sides}
use Rattle.schemas.specs.Notation.{term_count}
use Rattle.schemas.specs.Schemas.{equal, binder}
use Rattle.meaning.proofs.patterns.Back.{quantifier-back, has-is}
use Rattle.meaning.proofs.patterns.Sound.{beq_same}
use Rattle.rules.proofs.schemas.Distribute.{terms-count, sides-back}
use Rattle.rules.proofs.schemas.Split.{without_is, uses-there}
use Rattle.rules.proofs.refusals.Refuses.{need-refuses, bind-refuses, then-refuses, guard-refuses, unless-last-refuses, last-refuses, renumber}
use Rattle.rules.proofs.refusals.Reasons.{terms-differ, lists-differ, free-variable}

-- `(= (Q xs (op t ..)) (op u ..))`; many says which of `and` (true) and `or` goes with Q
abbrev pub side_step : (Bool → Bool) → Sort → Sort → Sort → Bool → Vars → Terms → Terms → Term
side_step many s s' s'' Q xs ts us = equal s (binder Q xs (op (connective_tag (many Q)) s' ts)) (op (connective_tag (many Q)) s'' us)

-- the code, and the two numbers that it carries
pub data WalkRefused (many : Bool → Bool) (tags values : List ℕ) (n x : ℕ) : ℕ → ℕ → ℕ → Type 0 where
  form : ((s s' s'' : Sort) (Q : Bool) (xs : Vars) (ts us : Terms) → tree tags values x ≡ side_step many s s' s'' Q xs ts us → ⊥) → WalkRefused many tags values n x 2 x 0
  counts : (s s' s'' : Sort) (Q : Bool) (xs : Vars) (ts us : Terms) → tree tags values x ≡ side_step many s s' s'' Q xs ts us → (term_count ts ≡ term_count us → ⊥)
      → WalkRefused many tags values n x 11 (term_count ts) (term_count us)
  -- the operand at u is no quantifier of the kind
  operand : (u : ℕ) (Q : Bool) → is_term tags n u ≡ true → ((s : Sort) (vs : Vars) (b : Term) → tree tags values u ≡ quant Q s vs b → ⊥) → WalkRefused many tags values n x 2 u 0
  bodies : (p q : ℕ) → is_term tags n p ≡ true → is_term tags n q ≡ true → (tree tags values p ≡ tree tags values q → ⊥) → WalkRefused many tags values n x 5 p q
  lists : (l r : ℕ) (Q : Bool) (xs ys : Vars) (b d : Term) → tree tags values l ≡ binder Q xs b → tree tags values r ≡ binder Q ys d → (xs ≡ ys → ⊥)
      → WalkRefused many tags values n x 6 l r
  -- rest is what is left of the outer variables
  not_left : (v : Var) (rest : Vars) → has_var rest v ≡ false → WalkRefused many tags values n x 8 v.name 0
  still-free : (s s' s'' : Sort) (Q : Bool) (xs : Vars) (ts us : Terms) (r : ℕ) → tree tags values x ≡ side_step many s s' s'' Q xs ts us
      → tree tags values r ≡ op (connective_tag (many Q)) s'' us → (v : Var) → has_var xs v ≡ true → free (tree tags values r) v ≡ true
      → WalkRefused many tags values n x 12 v.name r

module _ {tags values rules : List ℕ} {n : ℕ} (c : Passed tags values rules n) (many : Bool → Bool) (x : ℕ) (t : is_term tags n x ≡ true) where
  abbrev P : ℕ → ℕ → ℕ → Type 0
  P = WalkRefused many tags values n x

  abbrev both-sides : Option Sides
  both-sides = or_else (sides_of tags values true (connective_tag (many true)) x) (sides_of tags values false (connective_tag (many false)) x)

  no_sides : both-sides ≡ None → (s s' s'' : Sort) (Q : Bool) (xs : Vars) (ts us : Terms) → tree tags values x ≡ side_step many s s' s'' Q xs ts us → ⊥
  no_sides e s s' s'' Q xs ts us is =
      let b = sides-back c x t many s s' s'' Q xs ts us is in
      let d : None ≡ Some b.s = sym e ∙ b.found in
      let z : ◌≡◌ {A = ℕ} 0 1 = cc in
      omega arith

  no_kind : (u : ℕ) (Q : Bool) → is_term tags n u ≡ true → and_then (quantifier tags values u) (of_kind Q) ≡ None
      → (s : Sort) (vs : Vars) (b : Term) → tree tags values u ≡ quant Q s vs b → ⊥
  no_kind u Q k e s vs b is =
      let q = quantifier-back c u k Q s vs b is in
      let f : and_then (quantifier tags values u) (of_kind Q) ≡ Some q.q = rw (q.found, q.kind, beq_same Q) in
      let d : None ≡ Some q.q = sym e ∙ f in
      let z : ◌≡◌ {A = ℕ} 0 1 = cc in
      omega arith

  counts-refused : (s : Sides) → AreSides tags values n (connective_tag (many s.kind)) x s → eqb (length s.from) (length s.to) ≡ false → P 11 (length s.from) (length s.to)
  counts-refused s a o =
      let f = terms-count (tree tags values) s.from in
      let g = terms-count (tree tags values) s.to in
      renumber P
      (counts a.sort a.from-sort a.to-sort s.kind (vars_at tags values s.list) (terms_of (tree tags values) s.from) (terms_of (tree tags values) s.to)
      a.tree_is (λ z. eqb-false _ _ o (sym f ∙ (z ∙ g))))
      (refl, f, g)

  -- ---- rule 4
  module _ (s : Sides) (b : Term) (is : tree tags values s.left ≡ binder s.kind (vars_at tags values s.list) b) (sorts : Sorted tags n s.list) where
    one-distributed : (p u : ℕ) → is_term tags n p ≡ true → is_term tags n u ≡ true → (k a d : ℕ) → distributed tags values s p u ≡ refuse k a d → P k a d
    unfolding distributed
    one-distributed p u h l k a d e =
        need-refuses _ _ _ _ _ e (λ o. renumber P (operand u s.kind l (no_kind u s.kind l o))) λ q e₁ h₁.
        let (o, kind) = of-kind s.kind (quantifier tags values u) q e₁ in
        let i = quantifier-tree c u l q o in
        let there : tree tags values u ≡ binder s.kind (vars_at tags values q.list) (tree tags values q.body) = cc (i.tree_is, kind) in
        guard-refuses _ _ _ _ _ h₁ (λ o. renumber P (lists s.left u s.kind _ _ b _ is there (lists-differ c s.list q.list sorts i.sorts o))) λ e₂ h₂.
        let (o, same_numbers) = last-refuses _ _ _ _ h₂ in
        renumber P (bodies p q.body h i.body (terms-differ c p q.body h i.body o)) same_numbers

    all-distributed : (ps us : List ℕ) → AllTerms tags n ps → AllTerms tags n us → (k a d : ℕ) → distributed_all tags values s ps us ≡ refuse k a d → P k a d
    unfolding distributed_all
    all-distributed [] us h l k a d e = let z : ◌≡◌ {A = ℕ} 0 1 = cc in absurd (omega arith)
    all-distributed (p ∷ ps) [] h l k a d e = let z : ◌≡◌ {A = ℕ} 0 1 = cc in absurd (omega arith)
    all-distributed (p ∷ ps) (u ∷ us) h l k a d e =
        then-refuses _ _ e (λ o. one-distributed p u h.0 l.0 k a d o) (λ o. all-distributed ps us h.1 l.1 k a d o)

  -- ---- rule 5
  uses-refused : (list rest : List Binding) → Sorted tags n list → Sorted tags n rest → (k a d : ℕ) → use_all list rest ≡ refuse k a d → P k a d
  unfolding use_all var_of
  uses-refused [] rest s u k a d e = let z : ◌≡◌ {A = ℕ} 0 1 = cc in absurd (omega arith)
  uses-refused (v ∷ vs) rest s u k a d e =
      guard-refuses _ _ _ _ _ e
      (λ o. renumber P (not_left (var_of tags values v) (vars_at tags values rest) (sym (has-is c rest u v s.0) ∙ o)))
      (λ o h. uses-refused vs (without_pair v rest) s.1 (without_is c v s.0 rest u).sorts k a d h)

  all_split : (kind : Bool) (rest : List Binding) (ps us : List ℕ) → AllTerms tags n ps → AllTerms tags n us → Sorted tags n rest
      → (k a d : ℕ) → split_all tags values kind rest ps us ≡ refuse k a d → P k a d
  unfolding split_all split_one split_off
  all_split kind rest [] us h l s k a d e = let z : ◌≡◌ {A = ℕ} 0 1 = cc in absurd (omega arith)
  all_split kind rest (p ∷ ps) [] h l s k a d e = let z : ◌≡◌ {A = ℕ} 0 1 = cc in absurd (omega arith)
  all_split kind rest (p ∷ ps) (u ∷ us) h l s k a d e =
      bool_cases (eqb p u)
      (λ o. bind-refuses _ _ e (λ f. let z : pass rest ≡ refuse k a d = rw o at f in let y : ◌≡◌ {A = ℕ} 0 1 = cc in absurd (omega arith))
      (λ left f g. let z : pass rest ≡ pass left = rw o at f in
      let y : rest ≡ left = cc in
      all_split kind left ps us h.1 l.1 (rw (← y) s) k a d g))
      (λ o. bind-refuses _ _ e
      (λ f. need-refuses _ _ _ _ _ (rw o at f) (λ z. renumber P (operand u kind l.0 (no_kind u kind l.0 z))) λ q e₁ h₁.
      let (z, same_kind) = of-kind kind (quantifier tags values u) q e₁ in
      let i = quantifier-tree c u l.0 q z in
      guard-refuses _ _ _ _ _ h₁ (λ w. renumber P (bodies p q.body h.0 i.body (terms-differ c p q.body h.0 i.body w))) λ e₂ h₂.
      uses-refused q.list rest i.sorts s k a d h₂)
      (λ left f g. need-passes left _ _ _ _ _ (rw o at f) λ q e₁ h₁.
      guard-passes left _ _ _ _ _ h₁ λ e₂ h₂.
      let (z, same_kind) = of-kind kind (quantifier tags values u) q e₁ in
      let i = quantifier-tree c u l.0 q z in
      all_split kind left ps us h.1 l.1 (uses-there c q.list rest left i.sorts s h₂).sorts k a d g))

module _ {tags values rules : List ℕ} {n : ℕ} (c : Passed tags values rules n) (x : ℕ) (t : is_term tags n x ≡ true) where
  pub distribute-refused : (k a d : ℕ) → miniscope_distribute tags values x ≡ refuse k a d → WalkRefused (λ b. b) tags values n x k a d
  unfolding miniscope_distribute
  distribute-refused k a d e =
      need-refuses _ _ _ _ _ e (λ o. renumber (WalkRefused (λ b. b) tags values n x) (form (no_sides c (λ b. b) x t o))) λ s e₁ h₁.
      let i = either-sides c x t (λ b. b) s e₁ in
      guard-refuses _ _ _ _ _ h₁ (λ o. renumber (WalkRefused (λ b. b) tags values n x) (counts-refused c (λ b. b) x t s i o)) λ e₂ h₂.
      all-distributed c (λ b. b) x t s _ i.left_is i.sorts s.from s.to i.from-terms i.to-terms k a d h₂

  pub split-refused : (k a d : ℕ) → miniscope_split tags values n x ≡ refuse k a d → WalkRefused not tags values n x k a d
  unfolding miniscope_split split_sides var_of
  split-refused k a d e =
      need-refuses _ _ _ _ _ e (λ o. renumber (WalkRefused not tags values n x) (form (no_sides c not x t o))) λ s e₁ h₁.
      let i = either-sides c x t not s e₁ in
      guard-refuses _ _ _ _ _ h₁ (λ o. renumber (WalkRefused not tags values n x) (counts-refused c not x t s i o)) λ e₂ h₂.
      then-refuses _ _ h₂ (λ o. all_split c not x t s.kind s.list s.from s.to i.from-terms i.to-terms i.sorts k a d o) λ h₃.
      unless-last-refuses _ _ _ _ h₃
      (λ v o. let (g, f) = free-variable c s.right i.right s.list i.sorts v o in
      renumber (WalkRefused not tags values n x)
      (still-free i.sort i.from-sort i.to-sort s.kind (vars_at tags values s.list) (terms_of (tree tags values) s.from) (terms_of (tree tags values) s.to)
      s.right i.tree_is i.right_is (var_of tags values v) g f))
