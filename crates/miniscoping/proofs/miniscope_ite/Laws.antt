-- Laws of `MiniscopeIte` and `IteAnswer`, one for each way through the code.
-- Assumes nothing.
use Prim.Native.Nat.{ℕ}
use mathlib.Core.Path.{◌≡◌, refl, sym, ◌∙◌}
use mathlib.Core.Bool.{Bool, true, false, not, ◌&&◌, beq, cond}
use mathlib.Core.List.{List}
use Rattle.std.specs.Prelude.{Option, Some, None}
use lib.ListN.{get_or}
use lib.Dec.{eqb}
use native.Mathlib.Omega.{arith}
use borrow.Author.Tests.{eq-eqb, ne_eqb, not-true, not-false}
use Rattle.cells.specs.declared.TermPlace.{TermPlace}
use Rattle.cells.specs.ByPlace.{by-test}
use Rattle.answers.specs.Outcome.{pass, refuse, ◌>>=◌, ◌>>◌, need, guard}
use Rattle.bindings.specs.Binding.{Binding, bindings_of, same_all, first_of}
use Rattle.free_pairs.specs.BindingFree.{binding_free}
use Rattle.bindings.specs.BindingAnswer.{name_of}
use Rattle.formulas.specs.Pattern.{Quantifier, quantifier, operator, equality, and_then}
use Rattle.formulas.specs.PatternAnswer.{pairs_of, quantifier_in, two_in}
use Rattle.miniscoping.specs.MiniscopeDistribute.{of_kind}
use Rattle.miniscoping.specs.MiniscopeIte.{IteSides, agree, ite_sides, miniscope_ite}
use Rattle.miniscoping.specs.IteAnswer.{is_over, forall_over, ite_at, ite_in}
use Rattle.formulas.specs.declared.matching.Quantified.{Quantified}
use Rattle.miniscoping.specs.declared.miniscope_ite.ItePlaces.{ItePlaces}
use Rattle.bindings.proofs.Outcomes.{unless-name, unless-none}
use Rattle.cells.specs.Place.{term_at}
use Rattle.std.proofs.Common.{Bor}
use Rattle.formulas.specs.PatternAnswer.{of_count, cells_in}
use Rattle.formulas.proofs.matching.Laws.{no_three, three_operands}

-- ---- a forall over a term
module _ (tags values : List ℕ) (t u : ℕ) (list : List Binding) (r : Option Quantified) (is : and_then (quantifier tags values u) (of_kind true) ≡ quantifier_in list r) where
  pub over_none : r ≡ None → false ≡ forall_over tags values t u
  unfolding forall_over quantifier_in
  over_none e = rw (is, e)

  pub over-is : (q : Quantified) → r ≡ Some q → eqb t q.body.0 ≡ forall_over tags values t u
  unfolding forall_over quantifier_in
  over-is q e = rw (is, e)

-- a forall, as the rule and as `of_kind` say it
forall-is : (o : Option Quantifier) → and_then o (λ q. cond q.kind (Some q) None) ≡ and_then o (of_kind true)
forall-is None = refl
forall-is (Some q) = by-test q.kind (λ e. rw e) (λ e. rw e)

-- its list
list_of : (tags values : List ℕ) (x : ℕ) (q : Quantifier) → quantifier tags values x ≡ Some q → q.list ≡ bindings_of (pairs_of tags values x)
unfolding quantifier pairs_of
list_of tags values x q is =
    by-test (eqb (get_or tags x 0) 23)
    (λ e. let h = rw e at is in cc)
    (λ e. by-test (eqb (get_or tags x 0) 24)
    (λ f. let h = rw (e, f) at is in cc)
    (λ f. let h = rw (e, f) at is in absurd (let z : ◌≡◌ {A = ℕ} 0 1 = cc in omega arith)))

of_some : (o : Option Quantifier) (q : Quantifier) → and_then o (of_kind true) ≡ Some q → o ≡ Some q
of_some None q e = absurd (let z : ◌≡◌ {A = ℕ} 0 1 = cc in omega arith)
of_some (Some p) q e =
    by-test (beq p.kind true)
    (λ t. rw t at e)
    (λ t. let h = rw t at e in absurd (let z : ◌≡◌ {A = ℕ} 0 1 = cc in omega arith))

-- ---- the two quantifiers on the right, over b and c
branches : Bool → ℕ → ℕ → (List Binding → List Binding → IteSides) → Option Quantifier → Option Quantifier → Option IteSides
branches same b c make o p = and_then o λ y. and_then p λ n. agree (same && (eqb b y.body && eqb c n.body)) (make y.list n.list)

module _ (b c : ℕ) (make : List Binding → List Binding → IteSides) where
  branch-test : (o p : Option Quantifier) → branches false b c make o p ≡ None
  unfolding branches
  branch-test None p = refl
  branch-test (Some y) None = refl
  branch-test (Some y) (Some n) = refl

  branch_yes : (o p : Option Quantifier) → is_over b o ≡ false → branches true b c make o p ≡ None
  unfolding branches
  branch_yes None p e = refl
  branch_yes (Some y) None e = refl
  branch_yes (Some y) (Some n) e = rw e

  branch_no : (o p : Option Quantifier) → is_over b o ≡ true → is_over c p ≡ false → branches true b c make o p ≡ None
  unfolding branches
  branch_no None p e f = refl
  branch_no (Some y) None e f = refl
  branch_no (Some y) (Some n) e f = rw (e, f)

  branch-both : (o p : Option Quantifier) (ys ns : List Binding) → ((q : Quantifier) → o ≡ Some q → q.list ≡ ys) → ((q : Quantifier) → p ≡ Some q → q.list ≡ ns)
      → is_over b o ≡ true → is_over c p ≡ true → branches true b c make o p ≡ Some (make ys ns)
  unfolding branches
  branch-both None p ys ns hy hn e f = absurd (let z : ◌≡◌ {A = ℕ} 0 1 = cc in omega arith)
  branch-both (Some y) None ys ns hy hn e f = absurd (let z : ◌≡◌ {A = ℕ} 0 1 = cc in omega arith)
  branch-both (Some y) (Some n) ys ns hy hn e f = rw (e, f, hy y refl, hn n refl)

abbrev makes : List ℕ → List ℕ → ℕ → ℕ → ℕ → ℕ → List Binding → List Binding → IteSides
makes tags values left test y n ys ns = record {
  left = left;
  list = bindings_of (pairs_of tags values left);
  test = test;
  yes-place = y;
  yes-list = ys;
  no_place = n;
  no-list = ns;
}

-- ---- the pattern
module _ (tags values : List ℕ) (x : ℕ) (s : Option (TermPlace × TermPlace)) (is : equality tags values x ≡ two_in s) where
  pub ite-form : s ≡ None → ite_sides tags values x ≡ ite_in tags values None
  unfolding ite_sides ite_in two_in
  ite-form e = rw (is, e)

  module _ (p : TermPlace × TermPlace) (e : s ≡ Some p) (r : Option Quantified)
      (q : and_then (quantifier tags values p.0.0) (of_kind true) ≡ quantifier_in (bindings_of (pairs_of tags values p.0.0)) r) where
    pub ite-quantifier : r ≡ None → ite_sides tags values x ≡ ite_in tags values None
    unfolding ite_sides ite_in two_in quantifier_in
    ite-quantifier n = rw (is, e, forall-is (quantifier tags values p.0.0), q, n)

    module _ (a : Quantified) (there : r ≡ Some a) where
      pub ite_left : and_then (operator tags values 41 a.body.0) (of_count 3) ≡ cells_in None → ite_sides tags values x ≡ ite_in tags values None
      unfolding ite_sides ite_in two_in quantifier_in
      ite_left n = rw (is, e, forall-is (quantifier tags values p.0.0), q, there, no_three tags values 41 a.body.0 n)

      module _ (f : Bor (List ℕ)) (f-is : and_then (operator tags values 41 a.body.0) (of_count 3) ≡ cells_in (Some f)) where
        pub ite_right : and_then (operator tags values 41 p.1.0) (of_count 3) ≡ cells_in None → ite_sides tags values x ≡ ite_in tags values None
        unfolding ite_sides ite_in two_in quantifier_in
        ite_right n =
            rw
            (is, e, forall-is (quantifier tags values p.0.0), q, there, three_operands tags values 41 a.body.0 f f-is, no_three tags values 41 p.1.0 n)

        module _ (g : Bor (List ℕ)) (g-is : and_then (operator tags values 41 p.1.0) (of_count 3) ≡ cells_in (Some g)) where
          found : ite_sides tags values x
              ≡ branches (eqb (get_or f.now 0 0) (get_or g.now 0 0)) (get_or f.now 1 0) (get_or f.now 2 0)
              (makes tags values p.0.0 (get_or f.now 0 0) (get_or g.now 1 0) (get_or g.now 2 0))
              (and_then (quantifier tags values (get_or g.now 1 0)) (of_kind true)) (and_then (quantifier tags values (get_or g.now 2 0)) (of_kind true))
          unfolding ite_sides two_in quantifier_in branches
          found =
              rw (
                is,
                e,
                forall-is (quantifier tags values p.0.0),
                q,
                there,
                three_operands tags values 41 a.body.0 f f-is,
                three_operands tags values 41 p.1.0 g g-is,
                ← forall-is (quantifier tags values (get_or g.now 1 0)),
                ← forall-is (quantifier tags values (get_or g.now 2 0)),
              )

          pub ite-test : (get_or f.now 0 0 ≡ get_or g.now 0 0 → ⊥) → ite_sides tags values x ≡ ite_in tags values None
          unfolding ite_in
          ite-test n = found ∙ rw (ne_eqb _ _ n) (branch-test (get_or f.now 1 0) (get_or f.now 2 0) _ _ _)

          module _ (t-is : get_or f.now 0 0 ≡ get_or g.now 0 0) (v : Bool) (v-is : v ≡ forall_over tags values (get_or f.now 1 0) (get_or g.now 1 0)) where
            pub ite-yes : not v ≡ true → ite_sides tags values x ≡ ite_in tags values None
            unfolding ite_in forall_over
            ite-yes n = found ∙ rw (eq-eqb _ _ t-is) (branch_yes (get_or f.now 1 0) (get_or f.now 2 0) _ _ _ (sym v-is ∙ not-true v n))

            module _ (v-yes : not v ≡ false) (w : Bool) (w-is : w ≡ forall_over tags values (get_or f.now 2 0) (get_or g.now 2 0)) where
              pub ite-no : not w ≡ true → ite_sides tags values x ≡ ite_in tags values None
              unfolding ite_in forall_over
              ite-no n =
                  found
                  ∙ rw (eq-eqb _ _ t-is) (branch_no (get_or f.now 1 0) (get_or f.now 2 0) _ _ _ (sym v-is ∙ not-false v v-yes) (sym w-is ∙ not-true w n))

              pub ite-are : not w ≡ false
                  → ite_sides tags values x
                  ≡ ite_in tags values (Some (record { left = p.0; test = term_at (get_or f.now 0 0); yes = term_at (get_or g.now 1 0); no = term_at (get_or g.now 2 0) }))
              unfolding ite_in ite_at forall_over
              ite-are w-yes =
                  found
                  ∙ rw (eq-eqb _ _ t-is)
                  (branch-both (get_or f.now 1 0) (get_or f.now 2 0) _ _ _ _ _
                  (λ y h. list_of tags values (get_or g.now 1 0) y (of_some _ y h)) (λ y h. list_of tags values (get_or g.now 2 0) y (of_some _ y h))
                  (sym v-is ∙ not-false v v-yes) (sym w-is ∙ not-false w w-yes))

-- ---- the rule
module _ (tags values : List ℕ) (n x : ℕ) (r : Option ItePlaces) (is : ite_sides tags values x ≡ ite_in tags values r) where
  pub rule-form : r ≡ None → refuse 2 x 0 ≡ miniscope_ite tags values n x
  unfolding miniscope_ite ite_in need ◌>>=◌
  rule-form e = rw (is, e)

  module _ (s : ItePlaces) (e : r ≡ Some s) (list yes : List ℕ) (l-is : list ≡ pairs_of tags values s.left.0) (y-is : yes ≡ pairs_of tags values s.yes.0)
      (v : Bool) (one : v ≡ same_all (bindings_of list) (bindings_of yes)) where
    pub rule-yes : not v ≡ true → refuse 6 s.left.0 s.yes.0 ≡ miniscope_ite tags values n x
    unfolding miniscope_ite ite_in ite_at need guard ◌>>=◌ ◌>>◌
    rule-yes m = rw (is, e, ← l-is, ← y-is, ← one, not-true v m)

    module _ (v-yes : not v ≡ false) (no : List ℕ) (n-is : no ≡ pairs_of tags values s.no.0) (w : Bool) (second : w ≡ same_all (bindings_of list) (bindings_of no)) where
      pub rule-no : not w ≡ true → refuse 6 s.left.0 s.no.0 ≡ miniscope_ite tags values n x
      unfolding miniscope_ite ite_in ite_at need guard ◌>>=◌ ◌>>◌
      rule-no m = rw (is, e, ← l-is, ← y-is, ← one, not-false v v-yes, ← n-is, ← second, not-true w m)

      module _ (w-yes : not w ≡ false) (f : Option ℕ) (f-is : f ≡ name_of (first_of (binding_free tags values n s.test.0) (bindings_of list))) where
        pub rule-free : (name : ℕ) → f ≡ Some name → refuse 12 name s.test.0 ≡ miniscope_ite tags values n x
        unfolding miniscope_ite ite_in ite_at need guard ◌>>=◌ ◌>>◌
        rule-free name m =
            rw
            (is, e, ← l-is, ← y-is, ← one, not-false v v-yes, ← n-is, ← second, not-false w w-yes, unless-name 12 s.test.0 _ name (sym m ∙ f-is))

        pub rule-passes : f ≡ None → pass tt ≡ miniscope_ite tags values n x
        unfolding miniscope_ite ite_in ite_at need guard ◌>>=◌ ◌>>◌
        rule-passes m =
            rw (is, e, ← l-is, ← y-is, ← one, not-false v v-yes, ← n-is, ← second, not-false w w-yes, unless-none 12 s.test.0 _ (sym m ∙ f-is))
