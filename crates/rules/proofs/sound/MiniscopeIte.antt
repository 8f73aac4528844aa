-- Rule 6, `miniscope_ite`, is sound.
-- Assumes nothing.
use Prim.Native.Nat.{ℕ}
use mathlib.Core.Path.{◌≡◌, refl, sym, ap, subst, ◌∙◌}
use mathlib.Core.Bool.{Bool, true, false, ◌&&◌, cond}
use mathlib.Core.List.{List, [], ◌∷◌}
use Rattle.std.specs.Prelude.{Option, Some, None}
use lib.Dec.{eqb}
use native.Mathlib.Omega.{arith}
use borrow.Author.Tests.{eqb-true}
use Rattle.headers.specs.WellFormed.{is_term}
use Rattle.meaning.specs.Sort.{Sort, bool}
use Rattle.meaning.specs.Term.{Vars, Term, quant, op, tnil, tcons, stated}
use Rattle.meaning.specs.Tree.{terms_of, tree}
use Rattle.meaning.specs.FreeTree.{free}
use Rattle.meaning.proofs.trees.Header.{both}
use Rattle.meaning.proofs.trees.Passed.{Passed}
use Rattle.meaning.specs.Skeleton.{skeleton, ite_of, form_of}
use Rattle.meaning.specs.Truth.{Assignment, Reading, Local, over, True}
use Rattle.meaning.proofs.truth.Over.{bool_cases}
use Rattle.answers.specs.Outcome.{pass}
use Rattle.formulas.specs.Pattern.{Quantifier, quantifier, operator, three_of, equality, and_then}
use Rattle.miniscoping.specs.MiniscopeIte.{IteSides, ite_sides, miniscope_ite}
use Rattle.meaning.proofs.patterns.Passes.{need-passes, guard-passes, unless-last, then_some, cond-some}
use Rattle.meaning.proofs.patterns.Bindings.{list-eq, vars_at}
use Rattle.meaning.proofs.patterns.Trees.{IsQuantifier, AllTerms, Sorted, three-are, quantifier-tree, operator-tree, equality-tree, list-unfree}
use Rattle.meaning.proofs.patterns.Sound.{Unfree, equality-true, over_agree, term-still}

-- `(= (forall vs (ite p q r)) (ite p (forall ys q) (forall ns r)))`, with the sorts that the equality and the two `ite` state
abbrev pub ite_step : Vars → Vars → Vars → Term → Term → Term → Sort → Sort → Sort → Term
ite_step vs ys ns p q r s s' s'' =
    op 39 s (tcons (quant true bool vs (op 41 s' (tcons p (tcons q (tcons r tnil)))))
    (tcons (op 41 s'' (tcons p (tcons (quant true bool ys q) (tcons (quant true bool ns r) tnil)))) tnil))

module _ (R : Reading) (local : Local R) where
  abbrev A : Type 0
  A = Assignment R.Value

  -- the test has one value, whatever values the variables of the list take
  over-cond : (b : Bool) (vs : Vars) (p : Term) (q r : A → Bool) → Unfree vs (free p) → (ρ : A)
      → over R b vs (λ σ. cond (True R p σ) (q σ) (r σ)) ρ ≡ cond (True R p ρ) (over R b vs q ρ) (over R b vs r ρ)
  over-cond b vs p q r unfree ρ =
      over_agree R b vs _ _ ρ (λ σ w. ap (λ (x : Bool). cond x (q σ) (r σ)) (term-still R local vs ρ σ w p unfree)) ∙ by-test (True R p ρ)
    where
      by-test : (x : Bool) → over R b vs (λ σ. cond x (q σ) (r σ)) ρ ≡ cond x (over R b vs q ρ) (over R b vs r ρ)
      by-test true = refl
      by-test false = refl

  pub ite-true : (vs : Vars) (p q r : Term) (s s' s'' : Sort) → Unfree vs (free p) → (ρ : A) → True R (ite_step vs vs vs p q r s s' s'') ρ ≡ true
  unfolding True skeleton form_of ite_of stated
  ite-true vs p q r s s' s'' unfree ρ = equality-true R s _ _ ρ refl (over-cond true vs p (True R q) (True R r) unfree ρ)

-- ---- at places
abbrev forall_of : Quantifier → Option Quantifier
forall_of q = cond q.kind (Some q) None

module _ {tags values rules : List ℕ} {n : ℕ} (c : Passed tags values rules n) where
  forall-tree : (x : ℕ) → is_term tags n x ≡ true → (q : Quantifier) → and_then (quantifier tags values x) forall_of ≡ Some q
      → IsQuantifier tags values n x q × (q.kind ≡ true)
  forall-tree x t q e =
      then_some (quantifier tags values x) _ _ e λ p e₁ h₁.
      let (k, z) = cond-some p.kind p q h₁ in
      (quantifier-tree c x t q (e₁ ∙ ap Some z), ap (λ (q : Quantifier). q.kind) (sym z) ∙ k)

  -- `ite` with its three operands
  record IsIte (x : ℕ) (p : ℕ × ℕ × ℕ) : Type 0 where
    pub sort : Sort
    pub tree_is : tree tags values x ≡ op 41 sort (tcons (tree tags values p.0) (tcons (tree tags values p.1) (tcons (tree tags values p.2) tnil)))
    pub test : is_term tags n p.0 ≡ true
    pub yes-term : is_term tags n p.1 ≡ true
    pub no-term : is_term tags n p.2 ≡ true

  ite-tree : (x : ℕ) → is_term tags n x ≡ true → (p : ℕ × ℕ × ℕ) → and_then (operator tags values 41 x) three_of ≡ Some p → IsIte x p
  unfolding terms_of
  ite-tree x t p e =
      then_some (operator tags values 41 x) _ _ e λ os e₁ h₁.
      let o = operator-tree c 41 x (omega arith) (omega arith) t os e₁ in
      let three = three-are os p h₁ in
      let terms : AllTerms tags n (p.0 ∷ p.1 ∷ p.2 ∷ []) = rw three at o.operands in
      record {
        sort = o.sort;
        tree_is = o.tree_is ∙ ap (λ (l : List ℕ). op 41 o.sort (terms_of (tree tags values) l)) three;
        test = terms.0;
        yes-term = terms.1.0;
        no-term = terms.1.1.0;
      }

  -- the whole pattern; second and third are the operands of the left `ite`
  pub record AreSides (x : ℕ) (s : IteSides) : Type 0 where
    pub second : Term
    pub third : Term
    pub sort : Sort
    pub from-sort : Sort
    pub to-sort : Sort
    pub tree_is : tree tags values x
        ≡ ite_step (vars_at tags values s.list) (vars_at tags values s.yes-list) (vars_at tags values s.no-list) (tree tags values s.test) second third sort from-sort to-sort
    pub left_is : tree tags values s.left ≡ quant true bool (vars_at tags values s.list) (op 41 from-sort (tcons (tree tags values s.test) (tcons second (tcons third tnil))))
    pub yes-is : tree tags values s.yes-place ≡ quant true bool (vars_at tags values s.yes-list) second
    pub no-is : tree tags values s.no_place ≡ quant true bool (vars_at tags values s.no-list) third
    pub test : is_term tags n s.test ≡ true
    pub sorts : Sorted tags n s.list
    pub yes-sorts : Sorted tags n s.yes-list
    pub no-sorts : Sorted tags n s.no-list

  pub sides-tree : (x : ℕ) → is_term tags n x ≡ true → (s : IteSides) → ite_sides tags values x ≡ Some s → AreSides x s
  unfolding ite_sides
  sides-tree x t s e =
      then_some (equality tags values x) _ _ e λ p e₁ h₁.
      then_some (and_then (quantifier tags values p.0) forall_of) _ _ h₁ λ q e₂ h₂.
      then_some (and_then (operator tags values 41 q.body) three_of) _ _ h₂ λ from e₃ h₃.
      then_some (and_then (operator tags values 41 p.1) three_of) _ _ h₃ λ to e₄ h₄.
      then_some (and_then (quantifier tags values to.1) forall_of) _ _ h₄ λ yes-q e₅ h₅.
      then_some (and_then (quantifier tags values to.2) forall_of) _ _ h₅ λ no-q e₆ h₆.
      let i = equality-tree c x t p e₁ in
      let (l, kind) = forall-tree p.0 i.left q e₂ in
      let f = ite-tree q.body l.body from e₃ in
      let g = ite-tree p.1 i.right to e₄ in
      let (y, yes-kind) = forall-tree to.1 g.yes-term yes-q e₅ in
      let (m, no_kind) = forall-tree to.2 g.no-term no-q e₆ in
      bool_cases (eqb from.0 to.0 && (eqb from.1 yes-q.body && eqb from.2 no-q.body))
      (λ o. let (o₁, o₂) = both (eqb from.0 to.0) _ o in
      let (o₃, o₄) = both (eqb from.1 yes-q.body) _ o₂ in
      let s₀ : IteSides = record { left = p.0; list = q.list; test = from.0; yes-place = to.1; yes-list = yes-q.list; no_place = to.2; no-list = no-q.list } in
      let d : Some s₀ ≡ Some s = rw o at h₆ in
      let z : s₀ ≡ s = cc in
      subst (AreSides x) z (record {
        second = tree tags values from.1;
        third = tree tags values from.2;
        sort = i.sort;
        from-sort = f.sort;
        to-sort = g.sort;
        tree_is = cc (
          i.tree_is,
          l.tree_is,
          kind,
          f.tree_is,
          g.tree_is,
          y.tree_is,
          yes-kind,
          m.tree_is,
          no_kind,
          eqb-true from.0 to.0 o₁,
          eqb-true from.1 yes-q.body o₃,
          eqb-true from.2 no-q.body o₄,
        );
        left_is = cc (l.tree_is, kind, f.tree_is);
        yes-is = cc (y.tree_is, yes-kind, eqb-true from.1 yes-q.body o₃);
        no-is = cc (m.tree_is, no_kind, eqb-true from.2 no-q.body o₄);
        test = f.test;
        sorts = l.sorts;
        yes-sorts = y.sorts;
        no-sorts = m.sorts;
      }))
      (λ o. let d : None ≡ Some s = rw o at h₆ in let z : ◌≡◌ {A = ℕ} 0 1 = cc in absurd (omega arith))

  pub miniscope-ite-sound : (x : ℕ) → is_term tags n x ≡ true → miniscope_ite tags values n x ≡ pass tt
      → (R : Reading) → Local R → (ρ : Assignment R.Value) → True R (tree tags values x) ρ ≡ true
  unfolding miniscope_ite
  miniscope-ite-sound x t e R local ρ =
      need-passes tt _ _ _ _ _ e λ s e₁ h₁.
      guard-passes tt _ _ _ _ _ h₁ λ e₂ h₂.
      guard-passes tt _ _ _ _ _ h₂ λ e₃ h₃.
      let a = sides-tree x t s e₁ in
      let vs = vars_at tags values s.list in
      let shape : tree tags values x ≡ ite_step vs vs vs (tree tags values s.test) a.second a.third a.sort a.from-sort a.to-sort =
      cc (a.tree_is, list-eq s.list s.yes-list e₂, list-eq s.list s.no-list e₃) in
      rw shape
      (ite-true R local vs (tree tags values s.test) a.second a.third _ _ _
      (list-unfree c s.test a.test s.list a.sorts (unless-last _ _ _ _ h₃)) ρ)
