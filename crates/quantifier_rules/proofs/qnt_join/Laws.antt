-- Laws of `QntJoin`: rule 1, one law for each answer.
-- Assumes nothing.
use Prim.Native.Nat.{ℕ}
use mathlib.Core.Path.{◌≡◌, sym, ◌∙◌}
use mathlib.Core.Bool.{Bool, true, false, not, beq}
use mathlib.Core.List.{List}
use lib.Dec.{eqb}
use borrow.Author.Tests.{not-true, not-false}
use Rattle.cells.specs.declared.TermPlace.{TermPlace}
use Rattle.answers.specs.Outcome.{pass, refuse, ◌>>=◌, ◌>>◌, need, guard}
use Rattle.bindings.specs.Binding.{bindings_of, same_all}
use Rattle.formulas.specs.Pattern.{equality}
use Rattle.formulas.specs.Formula.{is_forall, quantifier_tag}
use Rattle.formulas.specs.PatternAnswer.{pairs_of, quantifier_in, two_in}
use Rattle.quantifier_rules.specs.QntJoin.{joined, qnt_join}
use Rattle.formulas.specs.declared.matching.Quantified.{Quantified}
use Rattle.formulas.proofs.matching.Laws.{Reads}
use Rattle.std.specs.Prelude.{Option, Some, None}

module _ (tags values : List ℕ) (x : ℕ) (t : Option (TermPlace × TermPlace)) (form : equality tags values x ≡ two_in t) where
  pub join-form : t ≡ None → refuse 2 x 0 ≡ qnt_join tags values x
  unfolding qnt_join two_in need ◌>>=◌
  join-form e = rw (form, e)

  module _ (p : TermPlace × TermPlace) (e : t ≡ Some p) (q : Option Quantified) (left : Reads tags values p.0.0 q) where
    pub join-left : q ≡ None → refuse 3 p.0.0 0 ≡ qnt_join tags values x
    unfolding qnt_join two_in quantifier_in need ◌>>=◌
    join-left n = rw (form, e, left, n)

    module _ (a : Quantified) (q-is : q ≡ Some a) (q' : Option Quantified) (inner : Reads tags values a.body.0 q') where
      pub join-inner : q' ≡ None → refuse 3 a.body.0 0 ≡ qnt_join tags values x
      unfolding qnt_join two_in quantifier_in need ◌>>=◌
      join-inner n = rw (form, e, left, q-is, inner, n)

      module _ (b : Quantified) (q'-is : q' ≡ Some b) (q'' : Option Quantified) (right : Reads tags values p.1.0 q'') where
        pub join-right : q'' ≡ None → refuse 3 p.1.0 0 ≡ qnt_join tags values x
        unfolding qnt_join two_in quantifier_in need ◌>>=◌
        join-right n = rw (form, e, left, q-is, inner, q'-is, right, n)

        module _ (d : Quantified) (q''-is : q'' ≡ Some d) where
          -- the checks that are left once both sides and the left body are quantifiers
          checks : qnt_join tags values x
              ≡ (guard 4 (quantifier_tag (is_forall a.kind)) (quantifier_tag (is_forall b.kind)) (beq (is_forall a.kind) (is_forall b.kind))
              >> (guard 4 (quantifier_tag (is_forall b.kind)) (quantifier_tag (is_forall d.kind)) (beq (is_forall b.kind) (is_forall d.kind))
              >> (guard 5 b.body.0 d.body.0 (eqb b.body.0 d.body.0)
              >> guard 7 p.0.0 p.1.0 (same_all (joined (bindings_of (pairs_of tags values p.0.0)) (bindings_of (pairs_of tags values a.body.0))) (bindings_of (pairs_of tags values p.1.0))))))
          unfolding qnt_join two_in quantifier_in need ◌>>=◌
          checks = rw (form, e, left, q-is, inner, q'-is, right, q''-is)

          pub join-kinds : not (beq (is_forall a.kind) (is_forall b.kind)) ≡ true → (m n : ℕ) → m ≡ quantifier_tag (is_forall a.kind) → n ≡ quantifier_tag (is_forall b.kind) → refuse 4 m n ≡ qnt_join tags values x
          unfolding guard ◌>>◌
          join-kinds o m n is is' = rw (checks, not-true (beq (is_forall a.kind) (is_forall b.kind)) o, is, is')

          module _ (same : not (beq (is_forall a.kind) (is_forall b.kind)) ≡ false) where
            pub join-kinds-right : not (beq (is_forall b.kind) (is_forall d.kind)) ≡ true → (m n : ℕ) → m ≡ quantifier_tag (is_forall b.kind) → n ≡ quantifier_tag (is_forall d.kind) → refuse 4 m n ≡ qnt_join tags values x
            unfolding guard ◌>>◌
            join-kinds-right o m n is is' = rw (checks, not-false (beq (is_forall a.kind) (is_forall b.kind)) same, not-true (beq (is_forall b.kind) (is_forall d.kind)) o, is, is')

            module _ (same' : not (beq (is_forall b.kind) (is_forall d.kind)) ≡ false) (v : Bool) (v-is : v ≡ not (eqb b.body.0 d.body.0)) where
              pub join-bodies : v ≡ true → refuse 5 b.body.0 d.body.0 ≡ qnt_join tags values x
              unfolding guard ◌>>◌
              join-bodies o =
                  rw (checks, not-false (beq (is_forall a.kind) (is_forall b.kind)) same, not-false (beq (is_forall b.kind) (is_forall d.kind)) same', not-true (eqb b.body.0 d.body.0) (sym v-is ∙ o))

              module _ (bodies : v ≡ false) (s : Bool) (o i g : List ℕ) (s-is : s ≡ same_all (joined (bindings_of o) (bindings_of i)) (bindings_of g))
                  (o_is : o ≡ pairs_of tags values p.0.0) (i-is : i ≡ pairs_of tags values a.body.0) (g-is : g ≡ pairs_of tags values p.1.0) where
                agree : eqb b.body.0 d.body.0 ≡ true
                agree = not-false (eqb b.body.0 d.body.0) (sym v-is ∙ bodies)

                pub join-lists : not s ≡ true → refuse 7 p.0.0 p.1.0 ≡ qnt_join tags values x
                unfolding guard ◌>>◌
                join-lists n =
                    rw (checks, not-false (beq (is_forall a.kind) (is_forall b.kind)) same, not-false (beq (is_forall b.kind) (is_forall d.kind)) same', agree, ← o_is, ← i-is, ← g-is, ← s-is, not-true s n)

                pub join-passes : not s ≡ false → pass tt ≡ qnt_join tags values x
                unfolding guard ◌>>◌
                join-passes n =
                    rw (checks, not-false (beq (is_forall a.kind) (is_forall b.kind)) same, not-false (beq (is_forall b.kind) (is_forall d.kind)) same', agree, ← o_is, ← i-is, ← g-is, ← s-is, not-false s n)
