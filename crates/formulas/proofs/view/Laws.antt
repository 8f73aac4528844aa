-- Laws of how a term is read, one for each way out of the code.
-- Assumes nothing.
use Prim.Native.Nat.{ℕ, ◌≤◌, ◌<◌}
use mathlib.Core.Path.{◌≡◌, refl}
use mathlib.Core.Bool.{Bool, true, false, not}
use mathlib.Core.List.{List, [], ◌∷◌}
use lib.ListN.{length, get_or}
use native.Mathlib.Omega.{arith}
use lib.Dec.{ltb}
use Rattle.std.specs.List.{list_all}
use borrow.Author.Tests.{lt-ltb, le-ltb, eq-eqb, ne_eqb, not-true, not-false}
use Rattle.cells.specs.Cell.{sort_of, operands_of}
use Rattle.cells.specs.Place.{term_at}
use Rattle.formulas.specs.Formula.{all_before, equality, connective, quantifier, view_of}
use Rattle.formulas.specs.Built.{normal_view}
use Rattle.formulas.specs.declared.kinds.ConnectiveKind.TheVariants.{And, Or}
use Rattle.formulas.specs.declared.kinds.QuantifierKind.TheVariants as kind
use Rattle.formulas.specs.declared.view.View.{View}
use Rattle.formulas.specs.declared.view.View.TheVariants.{Opaque, Not, AndOr, Implies, Ite, Iff, Quantifier}
use Rattle.formulas.specs.declared.view.NormalView.TheVariants.{Literal, Connective, Forall}

pub all_before-all : (t : ℕ) (os : List ℕ) → all_before t os ≡ list_all (λ o. ltb o t) os
unfolding all_before
all_before-all t [] = refl
all_before-all t (o ∷ os) = rw (all_before-all t os)

module _ (values os : List ℕ) where
  pub equality-count : (length os ≡ 2 → ⊥) → Opaque ≡ equality values os
  unfolding equality
  equality-count n = rw (ne_eqb _ _ n)

  module _ (e : length os ≡ 2) (s : ℕ) (is : s ≡ sort_of values (get_or os 0 0)) where
    pub equality-sort : (s ≡ 0 → ⊥) → Opaque ≡ equality values os
    unfolding equality
    equality-sort n = rw (eq-eqb _ _ e, ← is, ne_eqb _ _ n)

    pub equality-bool : s ≡ 0 → Iff (term_at (get_or os 0 0)) (term_at (get_or os 1 0)) ≡ equality values os
    unfolding equality
    equality-bool z = rw (eq-eqb _ _ e, ← is, eq-eqb _ _ z)

pub ruleset equalities = (equality-count, equality-sort, equality-bool)

module _ (values : List ℕ) (tag : ℕ) (os : List ℕ) where
  pub is-and : tag ≡ 36 → AndOr And ≡ connective values tag os
  unfolding connective
  is-and e = rw (eq-eqb _ _ e)

  module _ (n36 : tag ≡ 36 → ⊥) where
    pub is-or : tag ≡ 37 → AndOr Or ≡ connective values tag os
    unfolding connective
    is-or e = rw (ne_eqb _ _ n36, eq-eqb _ _ e)

    module _ (n37 : tag ≡ 37 → ⊥) where
      pub is-equality : tag ≡ 39 → (v : View) → v ≡ equality values os → v ≡ connective values tag os
      unfolding connective
      is-equality e v q = rw (ne_eqb _ _ n36, ne_eqb _ _ n37, eq-eqb _ _ e, q)

      module _ (n39 : tag ≡ 39 → ⊥) where
        pub not-other : tag ≡ 34 → (length os ≡ 1 → ⊥) → Opaque ≡ connective values tag os
        unfolding connective
        not-other e n = rw (ne_eqb _ _ n36, ne_eqb _ _ n37, ne_eqb _ _ n39, eq-eqb _ _ e, ne_eqb _ _ n)

        pub is-not : tag ≡ 34 → length os ≡ 1 → Not (term_at (get_or os 0 0)) ≡ connective values tag os
        unfolding connective
        is-not e n = rw (ne_eqb _ _ n36, ne_eqb _ _ n37, ne_eqb _ _ n39, eq-eqb _ _ e, eq-eqb _ _ n)

        module _ (n34 : tag ≡ 34 → ⊥) where
          pub implies-other : tag ≡ 35 → (length os ≡ 2 → ⊥) → Opaque ≡ connective values tag os
          unfolding connective
          implies-other e n = rw (ne_eqb _ _ n36, ne_eqb _ _ n37, ne_eqb _ _ n39, ne_eqb _ _ n34, eq-eqb _ _ e, ne_eqb _ _ n)

          pub is-implies : tag ≡ 35 → length os ≡ 2 → Implies (term_at (get_or os 0 0)) (term_at (get_or os 1 0)) ≡ connective values tag os
          unfolding connective
          is-implies e n = rw (ne_eqb _ _ n36, ne_eqb _ _ n37, ne_eqb _ _ n39, ne_eqb _ _ n34, eq-eqb _ _ e, eq-eqb _ _ n)

          module _ (n35 : tag ≡ 35 → ⊥) where
            pub ite-other : tag ≡ 41 → (length os ≡ 3 → ⊥) → Opaque ≡ connective values tag os
            unfolding connective
            ite-other e n = rw (ne_eqb _ _ n36, ne_eqb _ _ n37, ne_eqb _ _ n39, ne_eqb _ _ n34, ne_eqb _ _ n35, eq-eqb _ _ e, ne_eqb _ _ n)

            pub is-ite : tag ≡ 41 → length os ≡ 3 → Ite (term_at (get_or os 0 0)) (term_at (get_or os 1 0)) (term_at (get_or os 2 0)) ≡ connective values tag os
            unfolding connective
            is-ite e n = rw (ne_eqb _ _ n36, ne_eqb _ _ n37, ne_eqb _ _ n39, ne_eqb _ _ n34, ne_eqb _ _ n35, eq-eqb _ _ e, eq-eqb _ _ n)

            pub no-connective : (tag ≡ 41 → ⊥) → Opaque ≡ connective values tag os
            unfolding connective
            no-connective n = rw (ne_eqb _ _ n36, ne_eqb _ _ n37, ne_eqb _ _ n39, ne_eqb _ _ n34, ne_eqb _ _ n35, ne_eqb _ _ n)

pub ruleset connectives = (is-and, is-or, is-equality, not-other, is-not, implies-other, is-implies, ite-other, is-ite, no-connective)

module _ (tag body : ℕ) where
  pub is-forall : tag ≡ 23 → Quantifier kind.Forall (term_at body) ≡ quantifier tag body
  unfolding quantifier
  is-forall e = rw (eq-eqb _ _ e)

  pub is-exists : tag ≡ 24 → Quantifier kind.Exists (term_at body) ≡ quantifier tag body
  unfolding quantifier
  is-exists e = rw (ne_eqb tag 23 (λ f. omega arith), eq-eqb _ _ e)

  pub no-quantifier : (tag ≡ 23 → ⊥) → (tag ≡ 24 → ⊥) → Opaque ≡ quantifier tag body
  unfolding quantifier
  no-quantifier n e = rw (ne_eqb _ _ n, ne_eqb _ _ e)

pub ruleset quantifiers = (is-forall, is-exists, no-quantifier)

module _ (tags values : List ℕ) (t tag : ℕ) (is-tag : tag ≡ get_or tags t 0) (run : List ℕ) (is-run : run ≡ operands_of tags values t) where
  module _ (h : tag < 32) (body : ℕ) (is-body : body ≡ get_or run 0 0) where
    pub view-late : t ≤ body → Opaque ≡ view_of tags values t
    unfolding view_of
    view-late l = rw (← is-tag, ← is-run, lt-ltb _ _ h, ← is-body, le-ltb _ _ l)

    pub view-quantifier : body < t → (v : View) → v ≡ quantifier tag body → v ≡ view_of tags values t
    unfolding view_of
    view-quantifier l v q = rw (← is-tag, ← is-run, lt-ltb _ _ h, ← is-body, lt-ltb _ _ l, q)

  module _ (h : 32 ≤ tag) (b : Bool) (is : b ≡ all_before t run) where
    pub view-not-before : not b ≡ true → Opaque ≡ view_of tags values t
    unfolding view_of
    view-not-before e = rw (← is-tag, ← is-run, le-ltb _ _ h, ← is, not-true b e)

    pub view-connective : not b ≡ false → (v : View) → v ≡ connective values tag run → v ≡ view_of tags values t
    unfolding view_of
    view-connective e v q = rw (← is-tag, ← is-run, le-ltb _ _ h, ← is, not-false b e, q)

  module _ (h : tag ≡ 23) (body : ℕ) (is-body : body ≡ get_or run 0 0) where
    pub forall-late : t ≤ body → Literal ≡ normal_view tags values t
    unfolding normal_view
    forall-late l = rw (← is-tag, ← is-run, eq-eqb _ _ h, ← is-body, le-ltb _ _ l)

    pub forall-view : body < t → Forall (term_at body) ≡ normal_view tags values t
    unfolding normal_view
    forall-view l = rw (← is-tag, ← is-run, eq-eqb _ _ h, ← is-body, lt-ltb _ _ l)

  module _ (h : tag ≡ 23 → ⊥) (b : Bool) (is : b ≡ all_before t run) where
    pub literal-late : not b ≡ true → Literal ≡ normal_view tags values t
    unfolding normal_view
    literal-late e = rw (← is-tag, ← is-run, ne_eqb _ _ h, ← is, not-true b e)

    module _ (e : not b ≡ false) where
      pub and_view : tag ≡ 36 → Connective And ≡ normal_view tags values t
      unfolding normal_view
      and_view q = rw (← is-tag, ← is-run, ne_eqb _ _ h, ← is, not-false b e, eq-eqb _ _ q)

      module _ (n : tag ≡ 36 → ⊥) where
        pub or-view : tag ≡ 37 → Connective Or ≡ normal_view tags values t
        unfolding normal_view
        or-view q = rw (← is-tag, ← is-run, ne_eqb _ _ h, ← is, not-false b e, ne_eqb _ _ n, eq-eqb _ _ q)

        pub literal-view : (tag ≡ 37 → ⊥) → Literal ≡ normal_view tags values t
        unfolding normal_view
        literal-view q = rw (← is-tag, ← is-run, ne_eqb _ _ h, ← is, not-false b e, ne_eqb _ _ n, ne_eqb _ _ q)

pub ruleset views = (view-late, view-quantifier, view-not-before, view-connective)

pub ruleset normal-views = (forall-late, forall-view, literal-late, and_view, or-view, literal-view)
