-- Rule 3, `qnt_cnf`, at places is the schema at the tree, where none of 31, 13 and 32 stops it.
-- Assumes nothing.
use Prim.Native.Nat.{ℕ}
use mathlib.Core.Path.{◌≡◌, refl, sym, subst, ◌∙◌}
use mathlib.Core.Logic.{◌↔◌}
use mathlib.Core.Bool.{Bool, true, false, not}
use mathlib.Core.List.{List, [], ◌∷◌, Memᴰ}
use Rattle.std.specs.Prelude.{Some}
use lib.ListN.{length}
use native.Mathlib.Omega.{arith}
use Rattle.headers.specs.WellFormed.{is_term}
use Rattle.meaning.specs.Sort.{Sort, bool}
use Rattle.meaning.specs.Term.{Vars, Term, tnil, tcons}
use Rattle.meaning.specs.Tree.{terms_of, tree}
use Rattle.meaning.proofs.trees.Passed.{Passed}
use Rattle.formulas.specs.Clauses.{Clause, cnf, empty_or}
use Rattle.building.specs.Arrays.{fits, clausal_in, clausal_form_in}
use Rattle.answers.specs.Outcome.{Outcome, pass, ◌>>=◌, ◌>>◌, need, guard, unless, answer_of}
use Rattle.meaning.proofs.patterns.Bindings.{vars_at}
use Rattle.formulas.specs.Pattern.{Quantifier, operator, two_of, and_then}
use Rattle.meaning.proofs.patterns.Passes.{need-passes, guard-passes, unless-passes, unless-last}
use Rattle.meaning.proofs.patterns.Trees.{AllTerms, quantifier-tree}
use Rattle.clausification.specs.QntCnf.{implication, within_limits, left_and_taken, clause_follows, clausified, qnt_cnf}
use Rattle.rules.proofs.sound.QntCnf.{implication-tree}
use Rattle.schemas.specs.Schemas.{QntCnf, clausifies, IsClause, clauses_of, with_taken, Among, FreeAmong, binder, implies}
use Rattle.rules.specs.RuleSchema.{Unlimited, WithinLimits}
use Rattle.meaning.proofs.patterns.Back.{same-term, quantifier-back, operator-back, two_back}
use Rattle.rules.proofs.schemas.Taken.{new-there, new-back, missing-there, missing-back}
use Rattle.rules.proofs.schemas.Limits.{bounded-there, bounded-back}
use Rattle.rules.proofs.schemas.Clause.{clause-there, clause-back}

-- what is left of a step that passes 31, 13 and 32
past-limits : (b₁ b₂ b₃ : Bool) (rest : Outcome (Unit {0})) → Unlimited (answer_of (guard 31 0 0 b₁ >> (guard 13 0 0 b₂ >> (guard 32 0 0 b₃ >> rest)))) → rest ≡ pass tt
    → (guard 31 0 0 b₁ >> (guard 13 0 0 b₂ >> (guard 32 0 0 b₃ >> rest))) ≡ pass tt
unfolding guard ◌>>◌
past-limits true true true rest u e = e
past-limits true true false rest u e = absurd (u.2 refl)
past-limits true false b₃ rest u e = absurd (u.1 refl)
past-limits false b₂ b₃ rest u e = absurd (u.0 refl)

clausified-passes : (tags values : List ℕ) (n : ℕ) (left right : Quantifier) → Unlimited (answer_of (clausified tags values n left right))
    → clause_follows tags values n left right ≡ pass tt → clausified tags values n left right ≡ pass tt
unfolding clausified
clausified-passes tags values n left right u e =
    past-limits (fits (clausal_in tags values n left.body).pool (length tags)) (not (empty_or (clausal_form_in tags values n left.body)))
    (within_limits (cnf (clausal_form_in tags values n left.body))) (clause_follows tags values n left right) u e

module _ {tags values rules : List ℕ} {n : ℕ} (c : Passed tags values rules n) where
  -- ---- `(or (not l) r)`
  pub record ImplicationBack (x : ℕ) (l r : Term) : Type 0 where
    pub p : ℕ × ℕ
    pub found : implication tags values x ≡ Some p
    pub left_is : tree tags values p.0 ≡ l
    pub right_is : tree tags values p.1 ≡ r
    pub left : is_term tags n p.0 ≡ true
    pub right : is_term tags n p.1 ≡ true

  pub implication-back : (x : ℕ) → is_term tags n x ≡ true → (s s' : Sort) (l r : Term)
      → tree tags values x ≡ implies s s' l r → ImplicationBack x l r
  unfolding implication terms_of
  implication-back x t s s' l r e =
      let two = two_back c 37 x (omega arith) (omega arith) t s _ r e in
      let o = operator-back c 34 two.p.0 (omega arith) (omega arith) two.left s' (tcons l tnil) two.left_is in
      one two.p two.found two.right_is two.right o.os o.found o.terms o.operands
    where
      one : (p : ℕ × ℕ) → and_then (operator tags values 37 x) two_of ≡ Some p → tree tags values p.1 ≡ r → is_term tags n p.1 ≡ true
          → (os : List ℕ) → operator tags values 34 p.0 ≡ Some os → terms_of (tree tags values) os ≡ tcons l tnil → AllTerms tags n os → ImplicationBack x l r
      one p f g h [] d e a = let z : ◌≡◌ {A = ℕ} 0 1 = cc in absurd (omega arith)
      one p f g h (u ∷ []) d e a = record { p = (u, p.1); found = rw (f, d); left_is = cc; right_is = g; left = a.0; right = h }
      one p f g h (u ∷ (v ∷ os)) d e a = let z : ◌≡◌ {A = ℕ} 0 1 = cc in absurd (omega arith)

  module _ (x : ℕ) (t : is_term tags n x ≡ true) where
    pub qnt-cnf-there : qnt_cnf tags values n x ≡ pass tt → QntCnf (tree tags values x)
    unfolding qnt_cnf clausified clause_follows left_and_taken
    qnt-cnf-there e =
        need-passes tt _ _ _ _ _ e λ sides e₁ h₁.
        need-passes tt _ _ _ _ _ h₁ λ left e₂ h₂.
        need-passes tt _ _ _ _ _ h₂ λ right e₃ h₃.
        guard-passes tt _ _ _ _ _ h₃ λ e₄ h₄.
        guard-passes tt _ _ _ _ _ h₄ λ e₅ h₅.
        guard-passes tt _ _ _ _ _ h₅ λ e₆ h₆.
        guard-passes tt _ _ _ _ _ h₆ λ e₇ h₇.
        guard-passes tt _ _ _ _ _ h₇ λ e₈ h₈.
        unless-passes tt _ _ _ _ _ h₈ λ fewer h₉.
        guard-passes tt _ _ _ _ _ h₉ λ found h₁₀.
        let s = implication-tree c x t sides e₁ in
        let l = quantifier-tree c sides.0 s.left left e₂ in
        let r = quantifier-tree c sides.1 s.right right e₃ in
        let xs = vars_at tags values left.list in
        let zs = vars_at tags values right.list in
        let b = tree tags values left.body in
        let k = tree tags values right.body in
        let shape : tree tags values x ≡ implies s.sort s.not-sort (binder true xs b) (binder true zs k) =
        cc (s.tree_is, l.tree_is, r.tree_is, e₄, e₅) in
        clause-there c left.body l.body right.body r.body found λ d m is.
        subst QntCnf (sym shape)
        (clausifies s.sort s.not-sort xs zs b k d m is
        (new-there c left.body l.body left.list l.sorts right.list r.sorts fewer)
        (missing-there c left.body l.body left.list l.sorts right.list r.sorts right.body r.body (unless-last _ _ _ _ h₁₀)))

    -- an acceptance is within the limits
    limits-there : qnt_cnf tags values n x ≡ pass tt → WithinLimits tags values n (tree tags values x)
    unfolding qnt_cnf clausified
    limits-there e s s' xs b r is =
        need-passes tt _ _ _ _ _ e λ sides e₁ h₁.
        need-passes tt _ _ _ _ _ h₁ λ left e₂ h₂.
        need-passes tt _ _ _ _ _ h₂ λ right e₃ h₃.
        guard-passes tt _ _ _ _ _ h₃ λ e₄ h₄.
        guard-passes tt _ _ _ _ _ h₄ λ e₅ h₅.
        guard-passes tt _ _ _ _ _ h₅ λ e₆ h₆.
        guard-passes tt _ _ _ _ _ h₆ λ e₇ h₇.
        guard-passes tt _ _ _ _ _ h₇ λ e₈ h₈.
        let i = implication-tree c x t sides e₁ in
        let l = quantifier-tree c sides.0 i.left left e₂ in
        let z : tree tags values left.body ≡ b = cc (is, i.tree_is, l.tree_is) in
        (rw z at (bounded-there c left.body l.body e₇ e₈), λ p k o. rw (same-term c p left.body k l.body (o ∙ sym z)) e₆)

    -- the schema holds: what is left are the limits
    record CnfBack (b : Term) : Type 0 where
      pub left : Quantifier
      pub right : Quantifier
      pub goes_on : qnt_cnf tags values n x ≡ clausified tags values n left right
      pub follows : clause_follows tags values n left right ≡ pass tt
      pub body : is_term tags n left.body ≡ true
      pub body_is : tree tags values left.body ≡ b

    cnf-back : (s s' : Sort) (xs zs : Vars) (b k : Term) (d : Clause Vars Term) → Memᴰ d (clauses_of b) → IsClause k d
        → Among zs (with_taken xs b) → FreeAmong k (with_taken xs b) zs
        → tree tags values x ≡ implies s s' (binder true xs b) (binder true zs k) → CnfBack b
    unfolding qnt_cnf clause_follows left_and_taken ◌>>=◌ ◌>>◌ need guard unless
    cnf-back s s' xs zs b k d m is fewer used e =
        let i = implication-back x t s s' _ _ e in
        let l = quantifier-back c i.p.0 i.left true bool xs b i.left_is in
        let r = quantifier-back c i.p.1 i.right true bool zs k i.right_is in
        let new : Among (vars_at tags values r.q.list) (with_taken (vars_at tags values l.q.list) (tree tags values l.q.body)) =
        rw (r.list, l.list, l.body_is) fewer in
        let missing : FreeAmong (tree tags values r.q.body) (with_taken (vars_at tags values l.q.list) (tree tags values l.q.body)) (vars_at tags values r.q.list) =
        rw (r.list, l.list, l.body_is, r.body_is) used in
        let clause = clause-back c l.q.body l.body r.q.body r.body d (rw l.body_is m) (rw r.body_is is) in
        record {
          left = l.q;
          right = r.q;
          goes_on = rw (i.found, l.found, r.found, l.kind, r.kind);
          follows = rw (
            new-back c l.q.body l.body l.q.list l.sorts r.q.list r.sorts new,
            clause,
            missing-back c l.q.body l.body l.q.list l.sorts r.q.list r.sorts r.q.body r.body missing,
          );
          body = l.body;
          body_is = l.body_is;
        }

    unlimited-back : {T : Term} → QntCnf T → tree tags values x ≡ T → Unlimited (answer_of (qnt_cnf tags values n x)) → qnt_cnf tags values n x ≡ pass tt
    unlimited-back (clausifies s s' xs zs b k d m is fewer used) e limits =
        let w = cnf-back s s' xs zs b k d m is fewer used e in
        w.goes_on ∙ clausified-passes tags values n w.left w.right (rw w.goes_on at limits) w.follows

    within-back : {T : Term} → QntCnf T → tree tags values x ≡ T → WithinLimits tags values n (tree tags values x) → qnt_cnf tags values n x ≡ pass tt
    unfolding clausified guard ◌>>◌
    within-back (clausifies s s' xs zs b k d m is fewer used) e limits =
        let w = cnf-back s s' xs zs b k d m is fewer used e in
        let (bounded, room) = limits s s' xs b _ e in
        let (empty, few) = bounded-back c w.left.body w.body (rw w.body_is bounded) in
        let z : clausified tags values n w.left w.right ≡ pass tt = rw (room w.left.body w.body w.body_is, empty, few) w.follows in
        w.goes_on ∙ z

    -- the rule passes exactly if the schema holds, if none of 31, 13 and 32 stops it
    pub qnt-cnf-is : Unlimited (answer_of (qnt_cnf tags values n x)) → qnt_cnf tags values n x ≡ pass tt ↔ QntCnf (tree tags values x)
    qnt-cnf-is limits = (qnt-cnf-there, λ m. unlimited-back m refl limits)

    -- exactly if the schema holds within the limits
    pub qnt-cnf-within : qnt_cnf tags values n x ≡ pass tt ↔ QntCnf (tree tags values x) × WithinLimits tags values n (tree tags values x)
    qnt-cnf-within = ((λ e. (qnt-cnf-there e, limits-there e)), λ h. within-back h.0 refl h.1)
