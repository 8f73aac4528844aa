-- Rule 4, `miniscope_distribute`, at places is the schema at the tree.
--     sides-back     the two sides that rules 4 and 5 match, from the tree
-- Assumes nothing.
use Prim.Native.Nat.{ℕ, suc, ◌≤◌, ◌<◌}
use mathlib.Core.Path.{◌≡◌, refl, sym, ap, ap₂, ◌∙◌}
use mathlib.Core.Logic.{◌↔◌}
use mathlib.Core.Bool.{Bool, true, false}
use mathlib.Core.List.{List, [], ◌∷◌}
use Rattle.std.specs.Prelude.{Option, Some, None}
use lib.ListN.{length}
use native.Mathlib.Omega.{arith}
use borrow.Author.Tests.{eqb-true, eq-eqb}
use Rattle.headers.specs.WellFormed.{is_term}
use Rattle.meaning.specs.Sort.{Sort, bool}
use Rattle.meaning.specs.Term.{Vars, Term, Terms, op, tnil, tcons}
use Rattle.meaning.specs.Tree.{terms_of, tree}
use Rattle.meaning.proofs.trees.Passed.{Passed}
use Rattle.formulas.specs.Formula.{connective_tag}
use Rattle.answers.specs.Outcome.{pass, ◌>>=◌, ◌>>◌, need, guard}
use Rattle.meaning.proofs.patterns.Bindings.{vars_at}
use Rattle.meaning.proofs.patterns.Passes.{need-passes, guard-passes, then-passes}
use Rattle.meaning.proofs.patterns.Trees.{AllTerms, Sorted}
use Rattle.miniscoping.specs.MiniscopeDistribute.{Sides, sides_of, or_else, distributed, distributed_all, miniscope_distribute}
use Rattle.rules.proofs.sound.Sides.{either-sides}
use Rattle.rules.proofs.sound.MiniscopeDistribute.{operand-tree}
use Rattle.schemas.specs.Notation.{term_count}
use Rattle.schemas.specs.Schemas.{MiniscopeDistribute, distributes, equal, binder, each}
use Rattle.meaning.proofs.patterns.Back.{quantifier-back, operator-back, equality-back, equality-found, same_place, lists-same}
use Rattle.meaning.proofs.patterns.Sound.{beq_same}

-- as many terms as places
pub terms-count : (at : ℕ → Term) (us : List ℕ) → term_count (terms_of at us) ≡ length us
unfolding terms_of
terms-count at [] = refl
terms-count at (u ∷ us) = ap suc (terms-count at us)

pub each-count : (Q : Bool) (xs : Vars) (ts : Terms) → term_count (each Q xs ts) ≡ term_count ts
each-count Q xs tnil = refl
each-count Q xs (tcons t ts) = ap suc (each-count Q xs ts)

module _ {tags values rules : List ℕ} {n : ℕ} (c : Passed tags values rules n) where
  -- ---- the two sides
  pub record SidesBack (o : Option Sides) (Q : Bool) (xs : Vars) (ts us : Terms) (r : Term) : Type 0 where
    pub s : Sides
    pub found : o ≡ Some s
    pub kind : s.kind ≡ Q
    pub list : vars_at tags values s.list ≡ xs
    pub from_is : terms_of (tree tags values) s.from ≡ ts
    pub to_is : terms_of (tree tags values) s.to ≡ us
    pub sorts : Sorted tags n s.list
    pub from : AllTerms tags n s.from
    pub to : AllTerms tags n s.to
    pub right_is : tree tags values s.right ≡ r
    pub right : is_term tags n s.right ≡ true

  module _ (x : ℕ) (t : is_term tags n x ≡ true) where
    one-side-back : (tag : ℕ) → 32 ≤ tag → tag < 167 → (s s' s'' : Sort) (Q : Bool) (xs : Vars) (ts us : Terms)
        → tree tags values x ≡ equal s (binder Q xs (op tag s' ts)) (op tag s'' us) → SidesBack (sides_of tags values Q tag x) Q xs ts us (op tag s'' us)
    unfolding sides_of
    one-side-back tag low high s s' s'' Q xs ts us e =
        let eq = equality-back c x t s _ _ e in
        let l = quantifier-back c eq.p.0 eq.left Q bool xs _ eq.left_is in
        let f = operator-back c tag l.q.body low high l.body s' ts l.body_is in
        let g = operator-back c tag eq.p.1 low high eq.right s'' us eq.right_is in
        record {
          s = record { kind = Q; left = eq.p.0; right = eq.p.1; list = l.q.list; from = f.os; to = g.os };
          found = rw (equality-found c x eq.p eq.found, l.found, l.kind, beq_same Q, f.found, g.found);
          kind = refl;
          list = l.list;
          from_is = f.terms;
          to_is = g.terms;
          sorts = l.sorts;
          from = f.operands;
          to = g.operands;
          right_is = eq.right_is;
          right = eq.right;
        }

    -- an equality with an exists on the left is none with a forall
    not-forall : (tag : ℕ) (s : Sort) (xs : Vars) (b r : Term) → tree tags values x ≡ equal s (binder false xs b) r → sides_of tags values true tag x ≡ None
    unfolding sides_of
    not-forall tag s xs b r e =
        let eq = equality-back c x t s _ _ e in
        let l = quantifier-back c eq.p.0 eq.left false bool xs b eq.left_is in
        rw (equality-found c x eq.p eq.found, l.found, l.kind)

    -- many says which operator goes with forall (true) and with exists
    pub sides-back : (many : Bool → Bool) (s s' s'' : Sort) (Q : Bool) (xs : Vars) (ts us : Terms)
        → tree tags values x ≡ equal s (binder Q xs (op (connective_tag (many Q)) s' ts)) (op (connective_tag (many Q)) s'' us)
        → SidesBack (or_else (sides_of tags values true (connective_tag (many true)) x) (sides_of tags values false (connective_tag (many false)) x)) Q xs ts us (op (connective_tag (many Q)) s'' us)
    sides-back many s s' s'' Q xs ts us e = by_kind Q e
      where
        bounds : (b : Bool) → (32 ≤ connective_tag b) × (connective_tag b < 167)
        bounds true = (omega arith, omega arith)
        bounds false = (omega arith, omega arith)

        by_kind : (Q : Bool) → tree tags values x ≡ equal s (binder Q xs (op (connective_tag (many Q)) s' ts)) (op (connective_tag (many Q)) s'' us)
            → SidesBack (or_else (sides_of tags values true (connective_tag (many true)) x) (sides_of tags values false (connective_tag (many false)) x)) Q xs ts us (op (connective_tag (many Q)) s'' us)
        by_kind true e =
            let b = one-side-back (connective_tag (many true)) (bounds (many true)).0 (bounds (many true)).1 s s' s'' true xs ts us e in
            record { s = b.s; found = rw b.found; kind = b.kind; list = b.list; from_is = b.from_is; to_is = b.to_is; sorts = b.sorts; from = b.from; to = b.to; right_is = b.right_is; right = b.right }
        by_kind false e =
            let b = one-side-back (connective_tag (many false)) (bounds (many false)).0 (bounds (many false)).1 s s' s'' false xs ts us e in
            rw (not-forall (connective_tag (many true)) s xs _ _ e) b

  -- ---- the operands
  operands-tree : (s : Sides) (ts us : List ℕ) → length ts ≡ length us → AllTerms tags n us → distributed_all tags values s ts us ≡ pass tt
      → terms_of (tree tags values) us ≡ each s.kind (vars_at tags values s.list) (terms_of (tree tags values) ts)
  unfolding distributed_all terms_of
  operands-tree s [] [] l k e = refl
  operands-tree s [] (u ∷ us) l k e = absurd (omega arith)
  operands-tree s (t ∷ ts) [] l k e = absurd (omega arith)
  operands-tree s (t ∷ ts) (u ∷ us) l k e =
      then-passes tt _ _ e λ e₁ h₁. ap₂ tcons (operand-tree c s t u k.0 e₁) (operands-tree s ts us (omega arith) k.1 h₁)

  module _ (s : Sides) (sorts : Sorted tags n s.list) where
    operand-back : (t u : ℕ) → is_term tags n t ≡ true → is_term tags n u ≡ true
        → tree tags values u ≡ binder s.kind (vars_at tags values s.list) (tree tags values t) → distributed tags values s t u ≡ pass tt
    unfolding distributed ◌>>=◌ ◌>>◌ need guard
    operand-back t u k l e =
        let q = quantifier-back c u l s.kind bool _ _ e in
        rw (
          q.found,
          q.kind,
          beq_same s.kind,
          lists-same c s.list q.q.list sorts q.sorts (sym q.list),
          same_place c t q.q.body k q.body (sym q.body_is),
        )

    operands-back : (ts us : List ℕ) → AllTerms tags n ts → AllTerms tags n us
        → terms_of (tree tags values) us ≡ each s.kind (vars_at tags values s.list) (terms_of (tree tags values) ts) → distributed_all tags values s ts us ≡ pass tt
    unfolding distributed_all terms_of ◌>>◌
    operands-back [] us k l e = refl
    operands-back (t ∷ ts) [] k l e = refl
    operands-back (t ∷ ts) (u ∷ us) k l e = rw (operand-back t u k.0 l.0 (cc)) (operands-back ts us k.1 l.1 (cc))

  module _ (x : ℕ) (t : is_term tags n x ≡ true) where
    distribute-there : miniscope_distribute tags values x ≡ pass tt → MiniscopeDistribute (tree tags values x)
    unfolding miniscope_distribute
    distribute-there e =
        need-passes tt _ _ _ _ _ e λ s e₁ h₁.
        guard-passes tt _ _ _ _ _ h₁ λ e₂ h₂.
        let a = either-sides c x t (λ b. b) s e₁ in
        rw (a.tree_is, operands-tree s s.from s.to (eqb-true _ _ e₂) a.to-terms h₂)
        (distributes a.sort a.from-sort a.to-sort s.kind (vars_at tags values s.list) (terms_of (tree tags values) s.from))

    distribute-back : {T : Term} → MiniscopeDistribute T → tree tags values x ≡ T → miniscope_distribute tags values x ≡ pass tt
    unfolding miniscope_distribute ◌>>=◌ ◌>>◌ need guard
    distribute-back (distributes s s' s'' Q xs ts) e =
        let b = sides-back x t (λ b. b) s s' s'' Q xs ts (each Q xs ts) e in
        let z : each Q xs ts ≡ each b.s.kind (vars_at tags values b.s.list) (terms_of (tree tags values) b.s.from) = rw (b.kind, b.list, b.from_is) in
        let m : length b.s.from ≡ length b.s.to =
        sym (terms-count (tree tags values) b.s.from)
        ∙ (ap term_count b.from_is ∙ (sym (each-count Q xs ts) ∙ (ap term_count (sym b.to_is) ∙ terms-count (tree tags values) b.s.to))) in
        rw (b.found, eq-eqb (length b.s.from) (length b.s.to) m) (operands-back b.s b.sorts b.s.from b.s.to b.from b.to (b.to_is ∙ z))

    -- the rule passes exactly if the schema holds
    pub miniscope-distribute-is : miniscope_distribute tags values x ≡ pass tt ↔ MiniscopeDistribute (tree tags values x)
    miniscope-distribute-is = (distribute-there, λ m. distribute-back m refl)
