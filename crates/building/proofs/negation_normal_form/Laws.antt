-- Laws of the walkers that build the normal form: a term by how it is read; and what the walks are measured by.
-- Assumes nothing.
use Rattle.std.specs.Prelude.{Option, Some, None}
use Prim.Native.Nat.{ℕ, ◌≤◌, ◌<◌}
use mathlib.Core.Path.{◌≡◌}
use mathlib.Core.Bool.{Bool, not, cond}
use mathlib.Core.List.{List, ◌∷◌}
use lib.ListN.{take, drop}
use lib.Dec.{ltb}
use native.Mathlib.Omega.{arith}
use borrow.Author.Tests.{ltb-true, ltb-false}
use Rattle.cells.specs.declared.TermPlace.{TermPlace}
use Rattle.cells.specs.ByPlace.{by-test}
use Rattle.formulas.specs.declared.kinds.ConnectiveKind.{ConnectiveKind}
use Rattle.formulas.specs.declared.kinds.QuantifierKind.{QuantifierKind}
use Rattle.formulas.specs.declared.view.View.{View}
use Rattle.formulas.specs.declared.view.View.TheVariants.{Opaque, Not, AndOr, Implies, Ite, Iff, Quantifier}
use Rattle.formulas.specs.Formula.{is_and, is_forall, view_of, connective_tag, quantifier_tag}
use Rattle.formulas.specs.Normal.{lit, nmany, nall, flip, pair}
use Rattle.formulas.specs.Built.{Placed, put, intern}
use Rattle.building.specs.Arrays.{pool_of}
use Rattle.building.specs.Walk.{Puts, memo_of, MemoKept, places_in, normal, form_of, normal_of, run_of, entry_form, Formed, Known, operand_forms, OperandsKnown, Before, two_pairs, WalkReady}
use Rattle.building.proofs.Interning.{becomes-longer, put-becomes, intern-goes-on}
use Rattle.building.proofs.build.Laws.{pool-good}
use Rattle.building.proofs.build.Building.{memo-stays, builds-put, builds-full, builds-holds}
use Rattle.building.proofs.negation_normal_form.Forms.{many_below, normal-opaque, normal-not, normal-many, normal-implies, normal-ite, normal-iff, normal-quantifier}
use Rattle.building.proofs.build.Walks.{run-same, then-put, connective-full, connective-put}

-- ---- expand
module _ (end n : ℕ) (tags values work : List ℕ) (ready : WalkReady normal end n tags values work) (t : ℕ) (polarity : Bool) (v : View)
    (is : v ≡ view_of (take end tags) (take end values) t) where
  pub expand-opaque : v ≡ Opaque → (r : Option (TermPlace × ℕ)) (tags₁ values₁ : List ℕ) → Puts n tags values (intern (lit polarity t) (pool_of tags values n)) r tags₁ values₁
      → Formed normal end n tags values work (normal_of end tags values t polarity) r tags₁ values₁ work
  unfolding form_of
  expand-opaque e r tags₁ values₁ y =
      rw (normal-opaque (take end tags) (take end values) t v is polarity e)
      (builds-put (entry_form normal end tags values) end n tags values work ready.state ready.right (intern (lit polarity t) (pool_of tags values n))
      (intern-goes-on (lit polarity t) (pool_of tags values n) (pool-good end n tags values ready.state)) r tags₁ values₁ work y (memo-stays work))

  pub expand-not : (a : TermPlace) → v ≡ Not a → (r : Option (TermPlace × ℕ)) (tags₁ values₁ work₁ : List ℕ) → Known normal end n tags values work a.0 (not polarity) r tags₁ values₁ work₁
      → Formed normal end n tags values work (normal_of end tags values t polarity) r tags₁ values₁ work₁
  unfolding form_of
  expand-not a e r tags₁ values₁ work₁ j = rw (normal-not (take end tags) (take end values) t v is polarity a e) j.formed

  pub expand-implies : (a b : TermPlace) → v ≡ Implies a b → (r : Option (TermPlace × ℕ)) (tags₁ values₁ work₁ : List ℕ)
      → Formed normal end n tags values work (pair (not polarity) (normal_of end tags values a.0 (not polarity)) (normal_of end tags values b.0 polarity)) r tags₁ values₁ work₁
      → Formed normal end n tags values work (normal_of end tags values t polarity) r tags₁ values₁ work₁
  unfolding form_of
  expand-implies a b e r tags₁ values₁ work₁ j = rw (normal-implies (take end tags) (take end values) t v is polarity a b e) j

  pub expand-ite : (a b c : TermPlace) → v ≡ Ite a b c → (r : Option (TermPlace × ℕ)) (tags₁ values₁ work₁ : List ℕ)
      → Formed normal end n tags values work (two_pairs polarity (λ u q. normal_of end tags values u q) a.0 b.0 a.0 polarity c.0) r tags₁ values₁ work₁
      → Formed normal end n tags values work (normal_of end tags values t polarity) r tags₁ values₁ work₁
  unfolding form_of
  expand-ite a b c e r tags₁ values₁ work₁ j = rw (normal-ite (take end tags) (take end values) t v is polarity a b c e) j

  pub expand-iff : (a b : TermPlace) → v ≡ Iff a b → (r : Option (TermPlace × ℕ)) (tags₁ values₁ work₁ : List ℕ)
      → Formed normal end n tags values work (two_pairs polarity (λ u q. normal_of end tags values u q) a.0 b.0 b.0 (not polarity) a.0) r tags₁ values₁ work₁
      → Formed normal end n tags values work (normal_of end tags values t polarity) r tags₁ values₁ work₁
  unfolding form_of
  expand-iff a b e r tags₁ values₁ work₁ j = rw (normal-iff (take end tags) (take end values) t v is polarity a b e) j

  module _ (b : ConnectiveKind) (e : v ≡ AndOr b) (r₁ : Option (TermPlace × ℕ)) (tags₁ values₁ work₁ : List ℕ) (j : OperandsKnown normal end n tags values work t polarity 0 r₁ tags₁ values₁ work₁) where
    many_is : normal_of end tags values t polarity ≡ nmany (flip (is_and b) polarity) (operand_forms normal end tags values t polarity 0)
    unfolding form_of
    many_is = normal-many (take end tags) (take end values) t v is polarity b e

    pub expand-many-full : r₁ ≡ None → Formed normal end n tags values work (normal_of end tags values t polarity) None tags₁ values₁ work₁
    expand-many-full = connective-full normal end n tags values work t polarity (flip (is_and b) polarity) many_is r₁ tags₁ values₁ work₁ j

    pub expand-many : (p : TermPlace) (m : ℕ) → r₁ ≡ Some (p, m) → (r₂ : Option (TermPlace × ℕ)) (tags₂ values₂ work₂ : List ℕ)
        → Puts m tags₁ values₁ (put (pool_of tags₁ values₁ m) (connective_tag (flip (is_and b) polarity)) (0 ∷ places_in (memo_of work₁) polarity (run_of end tags₁ values₁ t))) r₂ tags₂ values₂
        → MemoKept work₁ work₂ → Formed normal end n tags values work (normal_of end tags values t polarity) r₂ tags₂ values₂ work₂
    expand-many = connective-put normal end n tags values work t polarity (flip (is_and b) polarity) many_is r₁ tags₁ values₁ work₁ j

  module _ (b : QuantifierKind) (body : TermPlace) (e : v ≡ Quantifier b body) (r₁ : Option (TermPlace × ℕ)) (tags₁ values₁ work₁ : List ℕ) (j : Known normal end n tags values work body.0 polarity r₁ tags₁ values₁ work₁) where
    abbrev inner : Placed
    inner = intern (normal_of end tags values body.0 polarity) (pool_of tags values n)

    quantifier-is : normal_of end tags values t polarity ≡ nall (flip (is_forall b) polarity) (drop 1 (run_of end tags values t)) (normal_of end tags values body.0 polarity)
    unfolding form_of
    quantifier-is = normal-quantifier (take end tags) (take end values) t v is polarity b body e

    pub expand-quantifier-full : r₁ ≡ None → Formed normal end n tags values work (normal_of end tags values t polarity) None tags₁ values₁ work₁
    unfolding intern
    expand-quantifier-full f =
        rw quantifier-is
        (builds-full (entry_form normal end tags values) end tags values work inner r₁ tags₁ values₁ work₁ j.formed f _
        (becomes-longer _ _ (put-becomes inner.pool (quantifier_tag (flip (is_forall b) polarity)) (0 ∷ inner.place ∷ drop 1 (run_of end tags values t)))))

    pub expand-quantifier : (p : TermPlace) (m : ℕ) → r₁ ≡ Some (p, m) → (r₂ : Option (TermPlace × ℕ)) (tags₂ values₂ work₂ : List ℕ)
        → Puts m tags₁ values₁ (put (pool_of tags₁ values₁ m) (quantifier_tag (flip (is_forall b) polarity)) (0 ∷ p.0 ∷ drop 1 (run_of end tags₁ values₁ t))) r₂ tags₂ values₂
        → MemoKept work₁ work₂ → Formed normal end n tags values work (normal_of end tags values t polarity) r₂ tags₂ values₂ work₂
    unfolding intern
    expand-quantifier p m f r₂ tags₂ values₂ work₂ y kept =
        let h = builds-holds (entry_form normal end tags values) end tags values work inner r₁ tags₁ values₁ work₁ j.formed p m f in
        rw (quantifier-is, ← h.place_is, ← run-same end tags values tags₁ values₁ j.formed.puts.left t)
        (then-put normal end tags values work inner r₁ tags₁ values₁ work₁ j.formed p m f (quantifier_tag (flip (is_forall b) polarity)) _ r₂ tags₂ values₂ work₂ y kept)

  -- what the calls ask of the operands
  pub many-before : (b : ConnectiveKind) → v ≡ AndOr b → Before end tags values t
  many-before b e = record { operand = many_below (take end tags) (take end values) t v is b e }

-- ---- the measures: the greater of two places
unfoldable pub max_of : ℕ → ℕ → ℕ
max_of a b = cond (ltb a b) b a

module _ (a b : ℕ) where
  pub max-left : a ≤ max_of a b
  unfolding max_of
  max-left = by-test (ltb a b) (λ e. rw e (omega (arith, ltb-true a b e))) (λ e. rw e (omega arith))

  pub max-right : b ≤ max_of a b
  unfolding max_of
  max-right = by-test (ltb a b) (λ e. rw e (omega arith)) (λ e. rw e (omega (arith, ltb-false a b e)))

  pub max-below : (t : ℕ) → a < t → b < t → max_of a b < t
  unfolding max_of
  max-below t h l = by-test (ltb a b) (λ e. rw e l) (λ e. rw e h)
