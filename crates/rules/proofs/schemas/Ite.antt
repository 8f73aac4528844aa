-- Rule 6, `miniscope_ite`, at places is the schema at the tree.
-- Assumes nothing.
use Prim.Native.Nat.{ℕ}
use mathlib.Core.Path.{◌≡◌, refl, sym, subst, ◌∙◌}
use mathlib.Core.Logic.{◌↔◌}
use mathlib.Core.Bool.{true}
use mathlib.Core.List.{List, [], ◌∷◌}
use Rattle.std.specs.Prelude.{Some}
use native.Mathlib.Omega.{arith}
use Rattle.headers.specs.WellFormed.{is_term}
use Rattle.meaning.specs.Sort.{Sort, bool}
use Rattle.meaning.specs.Term.{Vars, Term, tnil, tcons}
use Rattle.meaning.specs.Tree.{terms_of, tree}
use Rattle.meaning.proofs.trees.Passed.{Passed}
use Rattle.answers.specs.Outcome.{pass, ◌>>=◌, ◌>>◌, need, guard, unless}
use Rattle.meaning.proofs.patterns.Bindings.{list-eq, vars_at}
use Rattle.formulas.specs.Pattern.{operator, three_of, and_then}
use Rattle.meaning.proofs.patterns.Passes.{need-passes, guard-passes, unless-last}
use Rattle.meaning.proofs.patterns.Trees.{AllTerms, Sorted, list-unfree}
use Rattle.miniscoping.specs.MiniscopeIte.{IteSides, ite_sides, miniscope_ite}
use Rattle.rules.proofs.sound.MiniscopeIte.{sides-tree}
use Rattle.schemas.specs.Schemas.{MiniscopeIte, splits-ite, equal, binder, ite_term}
use Rattle.meaning.proofs.patterns.Back.{quantifier-back, operator-back, equality-back, equality-found, same_place, lists-same, list-unfree-back}

module _ {tags values rules : List ℕ} {n : ℕ} (c : Passed tags values rules n) where
  module _ (x : ℕ) (t : is_term tags n x ≡ true) where
    ite-there : miniscope_ite tags values n x ≡ pass tt → MiniscopeIte (tree tags values x)
    unfolding miniscope_ite
    ite-there e =
        need-passes tt _ _ _ _ _ e λ s e₁ h₁.
        guard-passes tt _ _ _ _ _ h₁ λ e₂ h₂.
        guard-passes tt _ _ _ _ _ h₂ λ e₃ h₃.
        let a = sides-tree c x t s e₁ in
        let vs = vars_at tags values s.list in
        let p = tree tags values s.test in
        let shape : tree tags values x
        ≡ equal a.sort (binder true vs (ite_term a.from-sort p a.second a.third)) (ite_term a.to-sort p (binder true vs a.second) (binder true vs a.third)) =
        cc (a.tree_is, list-eq s.list s.yes-list e₂, list-eq s.list s.no-list e₃) in
        subst MiniscopeIte (sym shape)
        (splits-ite a.sort a.from-sort a.to-sort vs p a.second a.third
        (list-unfree c s.test a.test s.list a.sorts (unless-last _ _ _ _ h₃)))

    -- ---- from trees to places
    record ThreeBack (y : ℕ) (p q r : Term) : Type 0 where
      pub are : ℕ × ℕ × ℕ
      pub found : and_then (operator tags values 41 y) three_of ≡ Some are
      pub first-is : tree tags values are.0 ≡ p
      pub second_is : tree tags values are.1 ≡ q
      pub third-is : tree tags values are.2 ≡ r
      pub first : is_term tags n are.0 ≡ true
      pub second : is_term tags n are.1 ≡ true
      pub third : is_term tags n are.2 ≡ true

    three_back : (y : ℕ) → is_term tags n y ≡ true → (s : Sort) (p q r : Term) → tree tags values y ≡ ite_term s p q r → ThreeBack y p q r
    unfolding terms_of
    three_back y k s p q r e =
        let o = operator-back c 41 y (omega arith) (omega arith) k s _ e in
        three o.os o.found o.terms o.operands
      where
        three : (os : List ℕ) → operator tags values 41 y ≡ Some os → terms_of (tree tags values) os ≡ tcons p (tcons q (tcons r tnil)) → AllTerms tags n os → ThreeBack y p q r
        three [] f d a = let z : ◌≡◌ {A = ℕ} 0 1 = cc in absurd (omega arith)
        three (u ∷ []) f d a = let z : ◌≡◌ {A = ℕ} 0 1 = cc in absurd (omega arith)
        three (u ∷ (v ∷ [])) f d a = let z : ◌≡◌ {A = ℕ} 0 1 = cc in absurd (omega arith)
        three (u ∷ (v ∷ (w ∷ []))) f d a =
            record { are = (u, v, w); found = rw f; first-is = cc; second_is = cc; third-is = cc; first = a.0; second = a.1.0; third = a.1.1.0 }
        three (u ∷ (v ∷ (w ∷ (z ∷ os)))) f d a = let y : ◌≡◌ {A = ℕ} 0 1 = cc in absurd (omega arith)

    -- the two sides are found where the tree has them, whatever the three lists are
    pub record IteBack (xs ys zs : Vars) (p : Term) : Type 0 where
      pub s : IteSides
      pub found : ite_sides tags values x ≡ Some s
      pub list : vars_at tags values s.list ≡ xs
      pub yes-list : vars_at tags values s.yes-list ≡ ys
      pub no-list : vars_at tags values s.no-list ≡ zs
      pub test-is : tree tags values s.test ≡ p
      pub test : is_term tags n s.test ≡ true
      pub sorts : Sorted tags n s.list
      pub yes-sorts : Sorted tags n s.yes-list
      pub no-sorts : Sorted tags n s.no-list

    pub sides-back : (s s' s'' : Sort) (xs ys zs : Vars) (p q r : Term)
        → tree tags values x ≡ equal s (binder true xs (ite_term s' p q r)) (ite_term s'' p (binder true ys q) (binder true zs r)) → IteBack xs ys zs p
    unfolding ite_sides
    sides-back s s' s'' xs ys zs p q r e =
        let eq = equality-back c x t s _ _ e in
        let l = quantifier-back c eq.p.0 eq.left true bool xs _ eq.left_is in
        let from = three_back l.q.body l.body s' p q r l.body_is in
        let to = three_back eq.p.1 eq.right s'' p _ _ eq.right_is in
        let y = quantifier-back c to.are.1 to.second true bool ys q to.second_is in
        let m = quantifier-back c to.are.2 to.third true bool zs r to.third-is in
        let first : tree tags values from.are.0 ≡ tree tags values to.are.0 = cc (from.first-is, to.first-is) in
        let second : tree tags values from.are.1 ≡ tree tags values y.q.body = cc (from.second_is, y.body_is) in
        let third : tree tags values from.are.2 ≡ tree tags values m.q.body = cc (from.third-is, m.body_is) in
        record {
          s = record { left = eq.p.0; list = l.q.list; test = from.are.0; yes-place = to.are.1; yes-list = y.q.list; no_place = to.are.2; no-list = m.q.list };
          found = rw (
            equality-found c x eq.p eq.found,
            l.found,
            l.kind,
            from.found,
            to.found,
            y.found,
            y.kind,
            m.found,
            m.kind,
            same_place c from.are.0 to.are.0 from.first to.first first,
            same_place c from.are.1 y.q.body from.second y.body second,
            same_place c from.are.2 m.q.body from.third m.body third,
          );
          list = l.list;
          yes-list = y.list;
          no-list = m.list;
          test-is = from.first-is;
          test = from.first;
          sorts = l.sorts;
          yes-sorts = y.sorts;
          no-sorts = m.sorts;
        }

    ite-back : {T : Term} → MiniscopeIte T → tree tags values x ≡ T → miniscope_ite tags values n x ≡ pass tt
    unfolding miniscope_ite ◌>>=◌ ◌>>◌ need guard unless
    ite-back (splits-ite s s' s'' xs p q r nf) e =
        let b = sides-back s s' s'' xs xs xs p q r e in
        rw (
          b.found,
          lists-same c b.s.list b.s.yes-list b.sorts b.yes-sorts (b.list ∙ sym b.yes-list),
          lists-same c b.s.list b.s.no-list b.sorts b.no-sorts (b.list ∙ sym b.no-list),
          list-unfree-back c b.s.test b.test b.s.list b.sorts (rw (b.test-is, b.list) nf),
        )

    -- the rule passes exactly if the schema holds
    pub miniscope-ite-is : miniscope_ite tags values n x ≡ pass tt ↔ MiniscopeIte (tree tags values x)
    miniscope-ite-is = (ite-there, λ m. ite-back m refl)
