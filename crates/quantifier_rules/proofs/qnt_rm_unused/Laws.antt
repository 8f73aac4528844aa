-- Laws of `QntRmUnused`: rule 2, one law for each answer.
-- Assumes nothing.
use Prim.Native.Nat.{ℕ}
use mathlib.Core.Path.{◌≡◌, refl, sym, ap, ◌∙◌}
use lib.Dec.{eqb}
use mathlib.Core.Bool.{Bool, true, false, not, ◌&&◌, beq}
use mathlib.Core.List.{List}
use Rattle.std.specs.Prelude.{Option, Some, None, is_some as name_is_some}
use borrow.Author.Tests.{not-true, not-false}
use Rattle.cells.specs.declared.TermPlace.{TermPlace}
use Rattle.answers.specs.declared.Answer.{Answer}
use Rattle.answers.specs.Outcome.{pass, refuse, ◌>>=◌, ◌>>◌, need, guard, answer_of}
use Rattle.bindings.specs.Binding.{Binding, bindings_of, has, first_of}
use Rattle.free_pairs.specs.BindingFree.{binding_free}
use Rattle.bindings.specs.BindingAnswer.{name_of}
use Rattle.formulas.specs.Pattern.{equality}
use Rattle.formulas.specs.Formula.{is_forall, quantifier_tag}
use Rattle.formulas.specs.PatternAnswer.{pairs_of, with_list, quantifier_in, two_in}
use Rattle.quantifier_rules.specs.QntRmUnused.{is_some, removes, unused, body_or, qnt_rm_unused}
use Rattle.formulas.specs.declared.matching.Quantified.{Quantified}
use Rattle.formulas.proofs.matching.Laws.{Reads}
use Rattle.bindings.proofs.Outcomes.{unless-name, unless-none}

-- ---- the checks of the right side at x
module _ (tags values : List ℕ) (n : ℕ) (kind : Bool) (left : List ℕ) (body x : ℕ)
    (q : Option Quantified) (right : Reads tags values x q) where
  pub removes-none : q ≡ None → refuse 3 x 0 ≡ removes tags values n (with_list kind (bindings_of left) body) x
  unfolding removes quantifier_in need ◌>>=◌
  removes-none e = rw (right, e)

  module _ (b : Quantified) (q-is : q ≡ Some b) where
    pub removes-kinds : not (beq kind (is_forall b.kind)) ≡ true → (a a' : ℕ) → a ≡ quantifier_tag kind → a' ≡ quantifier_tag (is_forall b.kind)
        → refuse 4 a a' ≡ removes tags values n (with_list kind (bindings_of left) body) x
    unfolding removes quantifier_in need guard ◌>>=◌ ◌>>◌
    removes-kinds e a a' is is' = rw (right, q-is, not-true (beq kind (is_forall b.kind)) e, is, is')

    module _ (same : not (beq kind (is_forall b.kind)) ≡ false) (v : Bool) (v-is : v ≡ not (eqb body b.body.0)) where
      pub removes-bodies : v ≡ true → refuse 5 body b.body.0 ≡ removes tags values n (with_list kind (bindings_of left) body) x
      unfolding removes quantifier_in need guard ◌>>=◌ ◌>>◌
      removes-bodies e = rw (right, q-is, not-false (beq kind (is_forall b.kind)) same, not-true (eqb body b.body.0) (sym v-is ∙ e))

      module _ (bodies : v ≡ false) (f : Option ℕ) (g : List ℕ) (f-is : f ≡ name_of (first_of (λ a. not (has (bindings_of left) a)) (bindings_of g)))
          (g-is : g ≡ pairs_of tags values x) where
        agree : eqb body b.body.0 ≡ true
        agree = not-false (eqb body b.body.0) (sym v-is ∙ bodies)

        pub removes-new : (m : ℕ) → f ≡ Some m → refuse 8 m 0 ≡ removes tags values n (with_list kind (bindings_of left) body) x
        unfolding removes quantifier_in need guard ◌>>=◌ ◌>>◌
        removes-new m e = rw (right, q-is, not-false (beq kind (is_forall b.kind)) same, agree, ← g-is, unless-name 8 0 _ m (sym e ∙ f-is))

        module _ (e : f ≡ None) (f' : Option ℕ)
            (f'-is : f' ≡ name_of (first_of (λ a. not (has (bindings_of g) a) && binding_free tags values n body a) (bindings_of left))) where
          pub removes-missing : (m : ℕ) → f' ≡ Some m → refuse 9 m 0 ≡ removes tags values n (with_list kind (bindings_of left) body) x
          unfolding removes quantifier_in need guard ◌>>=◌ ◌>>◌
          removes-missing m e' =
              rw (right, q-is, not-false (beq kind (is_forall b.kind)) same, agree, ← g-is, unless-none 8 0 _ (sym e ∙ f-is), unless-name 9 0 _ m (sym e' ∙ f'-is))

          pub removes-passes : f' ≡ None → pass tt ≡ removes tags values n (with_list kind (bindings_of left) body) x
          unfolding removes quantifier_in need guard ◌>>=◌ ◌>>◌
          removes-passes e' =
              rw (right, q-is, not-false (beq kind (is_forall b.kind)) same, agree, ← g-is, unless-none 8 0 _ (sym e ∙ f-is), unless-none 9 0 _ (sym e' ∙ f'-is))

-- ---- the early acceptance
-- a pair is found if its name is
named : (o : Option Binding) → name_is_some (name_of o) ≡ is_some o
unfolding name_of
named None = refl
named (Some a) = refl

and-false : (b : Bool) → (b && false) ≡ false
and-false true = refl
and-false false = refl

module _ (tags values : List ℕ) (n : ℕ) (kind : Bool) (left : List ℕ) (body x : ℕ) (v : Bool) (v-is : v ≡ not (eqb body x)) where
  module _ (r : Answer) (is : r ≡ answer_of (removes tags values n (with_list kind (bindings_of left) body) x)) where
    pub body-other : v ≡ true → r ≡ answer_of (body_or tags values n (with_list kind (bindings_of left) body) x)
    unfolding body_or
    body-other e = rw (not-true (eqb body x) (sym v-is ∙ e), and-false, is)

    pub body-used : (f : Option ℕ) → f ≡ name_of (first_of (binding_free tags values n body) (bindings_of left)) → name_is_some f ≡ true
        → r ≡ answer_of (body_or tags values n (with_list kind (bindings_of left) body) x)
    unfolding body_or unused
    body-used f f-is e = rw (sym (named (first_of (binding_free tags values n body) (bindings_of left))) ∙ ap name_is_some (sym f-is) ∙ e, is)

  pub body-alone : v ≡ false → (f : Option ℕ) → f ≡ name_of (first_of (binding_free tags values n body) (bindings_of left)) → name_is_some f ≡ false
      → pass tt ≡ body_or tags values n (with_list kind (bindings_of left) body) x
  unfolding body_or unused
  body-alone same f f-is e =
      rw (sym (named (first_of (binding_free tags values n body) (bindings_of left))) ∙ ap name_is_some (sym f-is) ∙ e, not-false (eqb body x) (sym v-is ∙ same))

-- ---- the rule
module _ (tags values : List ℕ) (n x : ℕ) (t : Option (TermPlace × TermPlace)) (form : equality tags values x ≡ two_in t) where
  pub unused-form : t ≡ None → refuse 2 x 0 ≡ qnt_rm_unused tags values n x
  unfolding qnt_rm_unused two_in need ◌>>=◌
  unused-form e = rw (form, e)

  module _ (p : TermPlace × TermPlace) (e : t ≡ Some p) (q : Option Quantified) (left : Reads tags values p.0.0 q) where
    pub unused-left : q ≡ None → refuse 3 p.0.0 0 ≡ qnt_rm_unused tags values n x
    unfolding qnt_rm_unused two_in quantifier_in need ◌>>=◌
    unused-left o = rw (form, e, left, o)

    pub unused-rest : (b : Quantified) → q ≡ Some b → (g : List ℕ) → g ≡ pairs_of tags values p.0.0
        → (a : Answer) → a ≡ answer_of (body_or tags values n (with_list (is_forall b.kind) (bindings_of g) b.body.0) p.1.0) → a ≡ answer_of (qnt_rm_unused tags values n x)
    unfolding qnt_rm_unused two_in quantifier_in need ◌>>=◌
    unused-rest b q-is g g-is a is = rw (is, form, e, left, q-is, g-is)
