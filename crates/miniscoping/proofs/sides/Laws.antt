-- Laws of `SidesAnswer`, one for each way through the code of `sides`.
-- Assumes nothing.
use Prim.Native.Nat.{ℕ, ◌≤◌}
use mathlib.Core.Path.{◌≡◌, refl, sym, ◌∙◌}
use mathlib.Core.Bool.{Bool, true, false, beq}
use mathlib.Core.List.{List, [], ◌∷◌}
use mathlib.Core.Logic.{◌⊎◌, inl, inr}
use Rattle.std.specs.Prelude.{Option, Some, None}
use lib.ListN.{length, get_or, length-take, length-drop}
use lib.Dec.{eqb, ltb}
use native.Mathlib.Omega.{arith}
use borrow.Author.Tests.{eq-eqb, ne_eqb}
use Rattle.cells.specs.declared.TermPlace.{TermPlace}
use Rattle.cells.specs.ByPlace.{by-test}
use Rattle.cells.specs.Cell.{cells_of, operands_of}
use Rattle.bindings.specs.Binding.{Binding, bindings_of}
use Rattle.formulas.specs.Formula.{is_forall}
use Rattle.formulas.specs.Pattern.{Quantifier, quantifier, operator, equality, and_then}
use Rattle.formulas.specs.PatternAnswer.{pairs_of, quantifier_in, two_in}
use Rattle.miniscoping.specs.MiniscopeDistribute.{Sides, sides_of, or_else, of_kind}
use Rattle.miniscoping.specs.SidesAnswer.{sides_at, sides_in}
use Rattle.formulas.specs.declared.kinds.QuantifierKind.{QuantifierKind}
use Rattle.formulas.specs.declared.matching.Quantified.{Quantified}
use Rattle.miniscoping.specs.declared.sides.Places.{Places}

-- ---- a quantifier of one kind
module _ (tags values : List ℕ) (x : ℕ) (kind : Bool) (list : List Binding) (r : Option Quantified) (is : quantifier tags values x ≡ quantifier_in list r) where
  pub kind-none : r ≡ None → and_then (quantifier tags values x) (of_kind kind) ≡ quantifier_in list None
  unfolding quantifier_in
  kind-none e = rw (is, e)

  module _ (q : Quantified) (e : r ≡ Some q) where
    pub kind-is : beq (is_forall q.kind) kind ≡ true → and_then (quantifier tags values x) (of_kind kind) ≡ quantifier_in list (Some q)
    unfolding quantifier_in
    kind-is t = rw (is, e, t)

    pub kind-other : beq (is_forall q.kind) kind ≡ false → and_then (quantifier tags values x) (of_kind kind) ≡ quantifier_in list None
    unfolding quantifier_in
    kind-other t = rw (is, e, t)

-- ---- the sides for one kind and one operator
assoc : {A B C : Type 0} (o : Option A) (f : A → Option B) (g : B → Option C) → and_then o (λ a. and_then (f a) g) ≡ and_then (and_then o f) g
assoc None f g = refl
assoc (Some a) f g = refl

-- the operators under the quantifier and on the right
operators : List ℕ → List ℕ → Bool → ℕ → ℕ → ℕ → Quantifier → Option Sides
operators tags values kind tag left right q =
    and_then (operator tags values tag q.body) λ from.
    and_then (operator tags values tag right) λ to.
    Some (record { kind = kind; left = left; right = right; list = q.list; from = from; to = to })

module _ (tags values : List ℕ) (kind : Bool) (tag x : ℕ) (b : Option (TermPlace × TermPlace)) (is : equality tags values x ≡ two_in b) where
  pub sides-form : b ≡ None → sides_of tags values kind tag x ≡ sides_in tags values None
  unfolding sides_of sides_in two_in
  sides-form e = rw (is, e)

  module _ (p : TermPlace × TermPlace) (e : b ≡ Some p) (r : Option Quantified)
      (q : and_then (quantifier tags values p.0.0) (of_kind kind) ≡ quantifier_in (bindings_of (pairs_of tags values p.0.0)) r) where
    found : sides_of tags values kind tag x ≡ and_then (quantifier_in (bindings_of (pairs_of tags values p.0.0)) r) (operators tags values kind tag p.0.0 p.1.0)
    unfolding sides_of two_in operators
    found = rw (is, e, ← q) (assoc (quantifier tags values p.0.0) (of_kind kind) (operators tags values kind tag p.0.0 p.1.0))

    pub sides-kind : r ≡ None → sides_of tags values kind tag x ≡ sides_in tags values None
    unfolding sides_in quantifier_in
    sides-kind n = rw (found, n)

    module _ (a : Quantified) (there : r ≡ Some a) (b-tag : ℕ) (b-is : b-tag ≡ get_or tags a.body.0 0) where
      pub sides-left : (b-tag ≡ tag → ⊥) → sides_of tags values kind tag x ≡ sides_in tags values None
      unfolding sides_in quantifier_in operators operator
      sides-left n = rw (found, there, ← b-is, ne_eqb _ _ n)

      module _ (same : b-tag ≡ tag) (r-tag : ℕ) (r-is : r-tag ≡ get_or tags p.1.0 0) where
        pub sides-right : (r-tag ≡ tag → ⊥) → sides_of tags values kind tag x ≡ sides_in tags values None
        unfolding sides_in quantifier_in operators operator
        sides-right n = rw (found, there, ← b-is, eq-eqb _ _ same, ← r-is, ne_eqb _ _ n)

        pub sides-are : (k : QuantifierKind) → kind ≡ is_forall k → r-tag ≡ tag
            → sides_of tags values kind tag x ≡ sides_in tags values (Some (record { kind = k; left = p.0; body = a.body; right = p.1 }))
        unfolding sides_in sides_at quantifier_in operators operator
        sides-are k k-is m = rw (found, k-is, there, ← b-is, eq-eqb _ _ same, ← r-is, eq-eqb _ _ m)

-- ---- the left side is the equality's
absurd-some : {A P : Type 0} (a : A) → None ≡ Some a → P
absurd-some a e = absurd (let z : ◌≡◌ {A = ℕ} 0 1 = cc in omega arith)

left-kept : (tags values : List ℕ) (kind : Bool) (tag left right : ℕ) (o : Option Quantifier) (s : Sides) → and_then o (operators tags values kind tag left right) ≡ Some s → s.left ≡ left
unfolding operators operator
left-kept tags values kind tag left right None s e = absurd-some s e
left-kept tags values kind tag left right (Some q) s e =
    by-test (eqb (get_or tags q.body 0) tag)
    (λ f. by-test (eqb (get_or tags right 0) tag)
    (λ g. let h = rw (f, g) at e in cc)
    (λ g. absurd-some s (rw (f, g) at e)))
    (λ f. absurd-some s (rw f at e))

pub left_is : (tags values : List ℕ) (kind : Bool) (tag x : ℕ) (s : Sides) → sides_of tags values kind tag x ≡ Some s
    → (sides : ℕ × ℕ) × ((equality tags values x ≡ Some sides) × (s.left ≡ sides.0))
unfolding sides_of operators
left_is tags values kind tag x s e = by (equality tags values x) refl
  where
    by : (o : Option (ℕ × ℕ)) → equality tags values x ≡ o → (sides : ℕ × ℕ) × ((equality tags values x ≡ Some sides) × (s.left ≡ sides.0))
    by None h = absurd-some s (rw h at e)
    by (Some sides) h = (
      sides,
      (
        h,
        left-kept tags values kind tag sides.0 sides.1 (and_then (quantifier tags values sides.0) (of_kind kind)) s
            (sym (assoc (quantifier tags values sides.0) (of_kind kind) (operators tags values kind tag sides.0 sides.1)) ∙ (rw h at e)),
      ),
    )

-- ---- either kind
module _ (tags values : List ℕ) (a b x : ℕ) (m : Option Places) (is : sides_of tags values true a x ≡ sides_in tags values m) where
  pub either-forall : (p : Places) → m ≡ Some p → or_else (sides_of tags values true a x) (sides_of tags values false b x) ≡ sides_in tags values (Some p)
  unfolding sides_in
  either-forall p e = rw (is, e)

  pub either-exists : m ≡ None → (o : Option Places) → sides_of tags values false b x ≡ sides_in tags values o
      → or_else (sides_of tags values true a x) (sides_of tags values false b x) ≡ sides_in tags values o
  unfolding sides_in
  either-exists e o q = rw (is, e) q

-- ---- two lists walked together, as long as both go on: what it says where one has ended
none-of : (l : List ℕ) → length l ≡ 0 → l ≡ []
none-of [] h = refl
none-of (a ∷ l) h = absurd (omega arith)

pub one-ended : {S T : Type 0} {P : S → Type 0} {Q : T → Type 0} (ts us : List ℕ) → ((x : S) × ((length ts ≡ 0) × P x)) ⊎ ((y : T) × ((length us ≡ 0) × Q y)) → (ts ≡ []) ⊎ (us ≡ [])
one-ended ts us (inl (x, (h, p))) = inl (none-of ts h)
one-ended ts us (inr (x, (h, p))) = inr (none-of us h)

-- ---- a header's count bounds its operands
pub count_most : (tags values : List ℕ) (x : ℕ) → length (operands_of tags values x) ≤ get_or values x 0
unfolding operands_of cells_of
count_most tags values x =
    by-test (ltb (get_or tags x 0) 22)
    (λ e. rw e (omega arith))
    (λ e. rw (e, length-drop, length-take) (omega arith))
