-- The six rules on a pool that has passed its checks: another pool with the same used cells and room has the same outcomes.
--     need-same, then_same     a check or a match and what follows it, where both are the same
--     rule-same                the rule of a code
-- Assumes nothing.
use Prim.Native.Nat.{ℕ, ◌<◌}
use mathlib.Core.Path.{◌≡◌, refl, ap, ap₂, subst, fun_ext, ◌∙◌}
use mathlib.Core.Bool.{Bool, true, false, not, ◌&&◌, cond}
use mathlib.Core.List.{List, [], ◌∷◌}
use Rattle.std.specs.Prelude.{Option, Some, None}
use lib.Dec.{eqb}
use native.Mathlib.Omega.{arith}
use Rattle.headers.specs.WellFormed.{is_term}
use Rattle.answers.specs.Outcome.{Outcome, ◌>>=◌, ◌>>◌, need}
use Rattle.bindings.specs.Binding.{Binding}
use Rattle.free_pairs.specs.BindingFree.{binding_free}
use Rattle.formulas.specs.Pattern.{Quantifier, quantifier, operator, one_of, two_of, three_of, and_then, equality}
use Rattle.meaning.proofs.trees.Passed.{Passed}
use Rattle.meaning.proofs.patterns.Passes.{then_some, cond-some}
use Rattle.meaning.proofs.patterns.Trees.{AllTerms, one-are, two-are, three-are, term-below, quantifier-tree, operator-tree, equality-tree}
use Rattle.quantifier_rules.specs.QntJoin.{qnt_join}
use Rattle.quantifier_rules.specs.QntRmUnused.{removes, unused, body_or, qnt_rm_unused}
use Rattle.miniscoping.specs.MiniscopeDistribute.{Sides, or_else, of_kind, sides_of, distributed, distributed_all, miniscope_distribute}
use Rattle.miniscoping.specs.MiniscopeSplit.{split_off, split_one, split_all, split_sides, miniscope_split}
use Rattle.miniscoping.specs.MiniscopeIte.{IteSides, agree, ite_sides, miniscope_ite}
use Rattle.clausification.specs.QntCnf.{implication, is_clause, taken_from, clauses_from, left_and_taken, clause_follows, clausified, qnt_cnf}
use Rattle.clausification.proofs.Kept.{operands-kept, clause-kept, binding-kept}
use Rattle.rules.specs.Step.{rule_outcome}
use Rattle.rules.proofs.sound.Sides.{of-kind, either-sides}
use Rattle.tag_layouts.proofs.UsedCells.{Used}

-- ---- checks one after another
module _ {A B : Type 0} where
  pub need-same : (k m n : ℕ) (o o' : Option A) (next next' : A → Outcome B) → o' ≡ o → ((a : A) → o ≡ Some a → next' a ≡ next a)
      → (need k m n o' >>= next') ≡ (need k m n o >>= next)
  unfolding need ◌>>=◌
  need-same k m n o o' next next' e f = rw e (go o f)
    where
      go : (o : Option A) → ((a : A) → o ≡ Some a → next' a ≡ next a) → (need k m n o >>= next') ≡ (need k m n o >>= next)
      go (Some a) f = f a refl
      go None f = refl

  pub then_same : (o o' : Option A) (next next' : A → Option B) → o' ≡ o → ((a : A) → o ≡ Some a → next' a ≡ next a) → and_then o' next' ≡ and_then o next
  then_same o o' next next' e f = rw e (go o f)
    where
      go : (o : Option A) → ((a : A) → o ≡ Some a → next' a ≡ next a) → and_then o next' ≡ and_then o next
      go (Some a) f = f a refl
      go None f = refl

module _ {tags values rules : List ℕ} {n : ℕ} (c : Passed tags values rules n) (tags' values' : List ℕ) (u : Used n tags values tags' values') where
  below : (x : ℕ) → is_term tags n x ≡ true → x < n
  below x t = (term-below c x t).0

  -- ---- forms
  quantifier-here : (x : ℕ) → is_term tags n x ≡ true → quantifier tags' values' x ≡ quantifier tags values x
  unfolding quantifier
  quantifier-here x t = rw (u.same.tags-same x (below x t), operands-kept n tags values tags' values' u.same c.formed x (below x t))

  operator-here : (tag x : ℕ) → is_term tags n x ≡ true → operator tags' values' tag x ≡ operator tags values tag x
  unfolding operator
  operator-here tag x t = rw (u.same.tags-same x (below x t), operands-kept n tags values tags' values' u.same c.formed x (below x t))

  equality-here : (x : ℕ) → is_term tags n x ≡ true → equality tags' values' x ≡ equality tags values x
  unfolding equality
  equality-here x t = rw (operator-here 39 x t)

  free-here : (x : ℕ) → is_term tags n x ≡ true → binding_free tags' values' n x ≡ binding_free tags values n x
  free-here x t = fun_ext (binding-kept n tags values tags' values' u.same c.formed x (below x t))

  clause-here : (x : ℕ) → is_term tags n x ≡ true → is_clause tags' values' x ≡ is_clause tags values x
  clause-here x t = fun_ext (clause-kept n tags values tags' values' u.same c.formed x (below x t))

  body-term : (x : ℕ) → is_term tags n x ≡ true → (q : Quantifier) → quantifier tags values x ≡ Some q → is_term tags n q.body ≡ true
  body-term x t q e = (quantifier-tree c x t q e).body

  -- ---- rule 1
  join-same : (x : ℕ) → is_term tags n x ≡ true → qnt_join tags' values' x ≡ qnt_join tags values x
  unfolding qnt_join
  join-same x t =
      need-same 2 x 0 _ _ _ _ (equality-here x t) λ sides e.
      let i = equality-tree c x t sides e in
      need-same 3 sides.0 0 _ _ _ _ (quantifier-here sides.0 i.left) λ left e₁.
      need-same 3 left.body 0 _ _ _ _ (quantifier-here left.body (body-term sides.0 i.left left e₁)) λ inner e₂.
      need-same 3 sides.1 0 _ _ _ _ (quantifier-here sides.1 i.right) λ right e₃.
      refl

  -- ---- rule 2
  module _ (left : Quantifier) (b : is_term tags n left.body ≡ true) (x : ℕ) (t : is_term tags n x ≡ true) where
    removes-same : removes tags' values' n left x ≡ removes tags values n left x
    unfolding removes
    removes-same =
        need-same 3 x 0 _ _ _ _ (quantifier-here x t) λ right e.
        simp (binding-kept n tags values tags' values' u.same c.formed left.body (below left.body b))

    body-or-same : body_or tags' values' n left x ≡ body_or tags values n left x
    unfolding body_or unused
    body-or-same = rw (free-here left.body b, removes-same)

  removing-same : (x : ℕ) → is_term tags n x ≡ true → qnt_rm_unused tags' values' n x ≡ qnt_rm_unused tags values n x
  unfolding qnt_rm_unused
  removing-same x t =
      need-same 2 x 0 _ _ _ _ (equality-here x t) λ sides e.
      let i = equality-tree c x t sides e in
      need-same 3 sides.0 0 _ _ _ _ (quantifier-here sides.0 i.left) λ left e₁.
      body-or-same left (body-term sides.0 i.left left e₁) sides.1 i.right

  -- ---- rules 4 and 5
  sides-same : (kind : Bool) (tag x : ℕ) → is_term tags n x ≡ true → sides_of tags' values' kind tag x ≡ sides_of tags values kind tag x
  unfolding sides_of
  sides-same kind tag x t =
      then_same _ _ _ _ (equality-here x t) λ p e₁.
      let i = equality-tree c x t p e₁ in
      then_same _ _ _ _ (quantifier-here p.0 i.left) λ q₀ e₂.
      then_same (of_kind kind q₀) (of_kind kind q₀) _ _ refl λ q e₃.
      let e₄ : quantifier tags values p.0 ≡ Some q = (of-kind kind (quantifier tags values p.0) q (rw e₂ e₃)).0 in
      rw (operator-here tag q.body (body-term p.0 i.left q e₄), operator-here tag p.1 i.right)

  distributed-same : (s : Sides) (t u : ℕ) → is_term tags n u ≡ true → distributed tags' values' s t u ≡ distributed tags values s t u
  unfolding distributed
  distributed-same s t u h = rw (quantifier-here u h)

  all-distributed-same : (s : Sides) (ts us : List ℕ) → AllTerms tags n us → distributed_all tags' values' s ts us ≡ distributed_all tags values s ts us
  unfolding distributed_all
  all-distributed-same s [] us h = refl
  all-distributed-same s (t ∷ ts) [] h = refl
  all-distributed-same s (t ∷ ts) (u ∷ us) h = ap₂ ◌>>◌ (distributed-same s t u h.0) (all-distributed-same s ts us h.1)

  distribute-same : (x : ℕ) → is_term tags n x ≡ true → miniscope_distribute tags' values' x ≡ miniscope_distribute tags values x
  unfolding miniscope_distribute
  distribute-same x t =
      need-same 2 x 0 _ _ _ _ (ap₂ or_else (sides-same true 36 x t) (sides-same false 37 x t)) λ s e.
      rw (all-distributed-same s s.from s.to (either-sides c x t (λ b. b) s e).to-terms)

  split-one-same : (kind : Bool) (rest : List Binding) (t u : ℕ) → is_term tags n u ≡ true
      → split_one tags' values' kind rest t u ≡ split_one tags values kind rest t u
  unfolding split_one split_off
  split-one-same kind rest t u h = rw (quantifier-here u h)

  split-same : (kind : Bool) (rest : List Binding) (ts us : List ℕ) → AllTerms tags n us
      → split_all tags' values' kind rest ts us ≡ split_all tags values kind rest ts us
  unfolding split_all
  split-same kind rest [] us h = refl
  split-same kind rest (t ∷ ts) [] h = refl
  split-same kind rest (t ∷ ts) (u ∷ us) h =
      ap₂ ◌>>=◌ (split-one-same kind rest t u h.0) (fun_ext (λ left. split-same kind left ts us h.1))

  splitting-same : (x : ℕ) → is_term tags n x ≡ true → miniscope_split tags' values' n x ≡ miniscope_split tags values n x
  unfolding miniscope_split split_sides
  splitting-same x t =
      need-same 2 x 0 _ _ _ _ (ap₂ or_else (sides-same true 37 x t) (sides-same false 36 x t)) λ s e.
      let are = either-sides c x t not s e in
      rw (split-same s.kind s.list s.from s.to are.to-terms, free-here s.right are.right)

  -- ---- rule 6
  abbrev forall_of : Quantifier → Option Quantifier
  forall_of q = cond q.kind (Some q) None

  forall-here : (x : ℕ) → is_term tags n x ≡ true → and_then (quantifier tags' values' x) forall_of ≡ and_then (quantifier tags values x) forall_of
  forall-here x t = rw (quantifier-here x t)

  forall-body : (x : ℕ) → is_term tags n x ≡ true → (q : Quantifier) → and_then (quantifier tags values x) forall_of ≡ Some q → is_term tags n q.body ≡ true
  forall-body x t q e =
      then_some (quantifier tags values x) _ _ e λ p e₁ h₁.
      let (b, z) = cond-some p.kind p q h₁ in
      body-term x t q (e₁ ∙ ap Some z)

  ite-terms : (x : ℕ) → is_term tags n x ≡ true → (p : ℕ × ℕ × ℕ) → and_then (operator tags values 41 x) three_of ≡ Some p
      → AllTerms tags n (p.0 ∷ p.1 ∷ p.2 ∷ [])
  ite-terms x t p e =
      then_some (operator tags values 41 x) _ _ e λ os e₁ h₁.
      rw (three-are os p h₁) at (operator-tree c 41 x (omega arith) (omega arith) t os e₁).operands

  ite-sides-same : (x : ℕ) → is_term tags n x ≡ true → ite_sides tags' values' x ≡ ite_sides tags values x
  unfolding ite_sides
  ite-sides-same x t =
      then_same _ _ _ _ (equality-here x t) λ p e₁.
      let i = equality-tree c x t p e₁ in
      then_same _ _ _ _ (forall-here p.0 i.left) λ q e₂.
      let b = forall-body p.0 i.left q e₂ in
      then_same _ _ _ _ (ap (λ o. and_then o three_of) (operator-here 41 q.body b)) λ from e₃.
      then_same _ _ _ _ (ap (λ o. and_then o three_of) (operator-here 41 p.1 i.right)) λ to e₄.
      let w = ite-terms p.1 i.right to e₄ in
      then_same _ _ _ _ (forall-here to.1 w.1.0) λ yes-q e₅.
      then_same _ _ _ _ (forall-here to.2 w.1.1.0) λ no-q e₆.
      refl

  agree-some : {A : Type 0} (b : Bool) (a d : A) → agree b a ≡ Some d → a ≡ d
  agree-some true a d e = cc
  agree-some false a d e = cc

  test-term : (x : ℕ) → is_term tags n x ≡ true → (s : IteSides) → ite_sides tags values x ≡ Some s → is_term tags n s.test ≡ true
  unfolding ite_sides
  test-term x t s e =
      then_some (equality tags values x) _ _ e λ p e₁ h₁.
      then_some (and_then (quantifier tags values p.0) forall_of) _ _ h₁ λ q e₂ h₂.
      then_some (and_then (operator tags values 41 q.body) three_of) _ _ h₂ λ from e₃ h₃.
      then_some (and_then (operator tags values 41 p.1) three_of) _ _ h₃ λ to e₄ h₄.
      then_some (and_then (quantifier tags values to.1) forall_of) _ _ h₄ λ yes-q e₅ h₅.
      then_some (and_then (quantifier tags values to.2) forall_of) _ _ h₅ λ no-q e₆ h₆.
      let i = equality-tree c x t p e₁ in
      let r : IteSides =
      record { left = p.0; list = q.list; test = from.0; yes-place = to.1; yes-list = yes-q.list; no_place = to.2; no-list = no-q.list } in
      let b : Bool = eqb from.0 to.0 && (eqb from.1 yes-q.body && eqb from.2 no-q.body) in
      let z : from.0 ≡ s.test = ap (λ (r : IteSides). r.test) (agree-some b r s h₆) in
      rw z at (ite-terms q.body (forall-body p.0 i.left q e₂) from e₃).0

  ite_same : (x : ℕ) → is_term tags n x ≡ true → miniscope_ite tags' values' n x ≡ miniscope_ite tags values n x
  unfolding miniscope_ite
  ite_same x t =
      need-same 2 x 0 _ _ _ _ (ite-sides-same x t) λ s e.
      rw (free-here s.test (test-term x t s e))

  -- ---- rule 3
  or-terms : (x : ℕ) → is_term tags n x ≡ true → (p : ℕ × ℕ) → and_then (operator tags values 37 x) two_of ≡ Some p → AllTerms tags n (p.0 ∷ p.1 ∷ [])
  or-terms x t p e =
      then_some (operator tags values 37 x) _ _ e λ os e₁ h₁.
      rw (two-are os p h₁) at (operator-tree c 37 x (omega arith) (omega arith) t os e₁).operands

  not-terms : (x : ℕ) → is_term tags n x ≡ true → (l : ℕ) → and_then (operator tags values 34 x) one_of ≡ Some l → AllTerms tags n (l ∷ [])
  not-terms x t l e =
      then_some (operator tags values 34 x) _ _ e λ os e₁ h₁.
      rw (one-are os l h₁) at (operator-tree c 34 x (omega arith) (omega arith) t os e₁).operands

  implication-same : (x : ℕ) → is_term tags n x ≡ true → implication tags' values' x ≡ implication tags values x
  unfolding implication
  implication-same x t =
      then_same _ _ _ _ (ap (λ o. and_then o two_of) (operator-here 37 x t)) λ p e₁.
      rw (operator-here 34 p.0 (or-terms x t p e₁).0)

  implication-terms : (x : ℕ) → is_term tags n x ≡ true → (p : ℕ × ℕ) → implication tags values x ≡ Some p
      → (is_term tags n p.0 ≡ true) × (is_term tags n p.1 ≡ true)
  unfolding implication
  implication-terms x t p e =
      then_some (and_then (operator tags values 37 x) two_of) _ _ e λ sides e₁ h₁.
      then_some (and_then (operator tags values 34 sides.0) one_of) _ _ h₁ λ l e₂ h₂.
      let w = or-terms x t sides e₁ in
      let v = not-terms sides.0 w.0 l e₂ in
      let z : (l, sides.1) ≡ p = cc in
      subst (λ (p : ℕ × ℕ). (is_term tags n p.0 ≡ true) × (is_term tags n p.1 ≡ true)) z (v.0, w.1.0)

  clausified-same : (left right : Quantifier) → is_term tags n right.body ≡ true → clausified tags' values' n left right ≡ clausified tags values n left right
  unfolding clausified clause_follows taken_from clauses_from left_and_taken
  clausified-same left right t =
      simp (
        u.tags-used,
        u.values-used,
        u.room,
        clause-here right.body t,
        binding-kept n tags values tags' values' u.same c.formed right.body (below right.body t),
      )

  cnf-same : (x : ℕ) → is_term tags n x ≡ true → qnt_cnf tags' values' n x ≡ qnt_cnf tags values n x
  unfolding qnt_cnf
  cnf-same x t =
      need-same 2 x 0 _ _ _ _ (implication-same x t) λ sides e.
      let w = implication-terms x t sides e in
      need-same 3 sides.0 0 _ _ _ _ (quantifier-here sides.0 w.0) λ left e₁.
      need-same 3 sides.1 0 _ _ _ _ (quantifier-here sides.1 w.1) λ right e₂.
      rw (clausified-same left right (body-term sides.1 w.1 right e₂))

  -- ---- any rule
  pub rule-same : (rule x : ℕ) → is_term tags n x ≡ true → rule_outcome tags' values' n rule x ≡ rule_outcome tags values n rule x
  unfolding rule_outcome
  rule-same rule x t = rw (join-same x t, removing-same x t, cnf-same x t, distribute-same x t, splitting-same x t, ite_same x t)
