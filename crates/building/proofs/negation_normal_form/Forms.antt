-- Laws of a term's normal form, one for each way that a term is read; and the operands' places, which stand before the term.
-- Assumes nothing.
use Prim.Native.Nat.{ℕ, zero, suc, ◌<◌}
use mathlib.Core.Path.{◌≡◌, refl, ◌∙◌}
use mathlib.Core.Bool.{Bool, true, false, not, ◌&&◌, cond}
use mathlib.Core.List.{List, [], ◌∷◌}
use lib.ListN.{length, get_or, drop}
use lib.Dec.{ltb, eqb}
use native.Mathlib.Omega.{arith}
use borrow.Author.Tests.{ltb-true, lt-ltb, eqb-true}
use Rattle.cells.specs.ByPlace.{by_place-is}
use Rattle.cells.specs.Place.{term_at}
use Rattle.cells.specs.declared.TermPlace.{TermPlace}
use Rattle.cells.specs.Cell.{sort_of, operands_of}
use Rattle.formulas.specs.declared.kinds.ConnectiveKind.{ConnectiveKind}
use Rattle.formulas.specs.declared.kinds.ConnectiveKind.TheVariants.{And, Or}
use Rattle.formulas.specs.declared.kinds.QuantifierKind.{QuantifierKind}
use Rattle.formulas.specs.declared.kinds.QuantifierKind.TheVariants.{Forall, Exists}
use Rattle.formulas.specs.declared.view.View.{View}
use Rattle.formulas.specs.declared.view.View.TheVariants.{Opaque, Not, AndOr, Implies, Ite, Iff, Quantifier}
use Rattle.formulas.specs.Formula.{is_and, is_forall, Form, opaque, all_before, equality, connective, quantifier, view_of, forms_of, form_by, form}
use Rattle.formulas.specs.Normal.{lit, nmany, nall, flip, pair, nnf, nnfs}
use Rattle.formulas.specs.Built.{normals_of}
use Rattle.building.specs.Walk.{two_pairs}

-- ---- operands stand before the term
all-at : (t : ℕ) (os : List ℕ) → all_before t os ≡ true → (i : ℕ) → i < length os → get_or os i 0 < t
unfolding all_before
all-at t [] e i h = absurd (omega arith)
all-at t (u ∷ us) e zero h = ltb-true u t (first (ltb u t) (all_before t us) e)
  where
    first : (a b : Bool) → (a && b) ≡ true → a ≡ true
    first true b e = refl
    first false b e = cc
all-at t (u ∷ us) e (suc i) h = all-at t us (rest (ltb u t) (all_before t us) e) i (omega arith)
  where
    rest : (a b : Bool) → (a && b) ≡ true → b ≡ true
    rest true b e = e
    rest false b e = cc

-- the terms that are read stand before t
abbrev Below : View → List ℕ → ℕ → Type 0
Below Opaque os t = Unit {0}
Below (Not a) os t = a.0 < t
Below (AndOr b) os t = (i : ℕ) → i < length os → get_or os i 0 < t
Below (Implies a b) os t = (a.0 < t) × (b.0 < t)
Below (Ite a b c) os t = (a.0 < t) × (b.0 < t) × (c.0 < t)
Below (Iff a b) os t = (a.0 < t) × (b.0 < t)
Below (Quantifier b body) os t = body.0 < t

-- by a test, either way
either : (b : Bool) (v w : View) (os : List ℕ) (t : ℕ) → (b ≡ true → Below v os t) → (b ≡ false → Below w os t) → Below (cond b v w) os t
either true v w os t y n = y refl
either false v w os t y n = n refl

module _ (values : List ℕ) (tag t : ℕ) (os : List ℕ) (all : all_before t os ≡ true) where
  at : (i k : ℕ) → eqb (length os) k ≡ true → i < k → get_or os i 0 < t
  at i k e h = all-at t os all i (omega (arith, eqb-true (length os) k e))

  equality-below : Below (equality values os) os t
  unfolding equality
  equality-below =
      either (eqb (length os) 2) _ Opaque os t
      (λ e. either (eqb (sort_of values (get_or os 0 0)) 0) (Iff (term_at (get_or os 0 0)) (term_at (get_or os 1 0))) Opaque os t
      (λ s. (at 0 2 e (omega arith), at 1 2 e (omega arith))) (λ s. tt))
      (λ e. tt)

  connective-below : Below (connective values tag os) os t
  unfolding connective
  connective-below =
      either (eqb tag 36) (AndOr And) _ os t (λ e. all-at t os all)
      (λ e. either (eqb tag 37) (AndOr Or) _ os t (λ e. all-at t os all)
      (λ e. either (eqb tag 39) (equality values os) _ os t (λ e. equality-below)
      (λ e. either (eqb tag 34) (cond (eqb (length os) 1) (Not (term_at (get_or os 0 0))) Opaque) _ os t
      (λ e. either (eqb (length os) 1) (Not (term_at (get_or os 0 0))) Opaque os t (λ k. at 0 1 k (omega arith)) (λ k. tt))
      (λ e. either (eqb tag 35) (cond (eqb (length os) 2) (Implies (term_at (get_or os 0 0)) (term_at (get_or os 1 0))) Opaque) _ os t
      (λ e. either (eqb (length os) 2) (Implies (term_at (get_or os 0 0)) (term_at (get_or os 1 0))) Opaque os t (λ k. (at 0 2 k (omega arith), at 1 2 k (omega arith))) (λ k. tt))
      (λ e. either (eqb tag 41) (cond (eqb (length os) 3) (Ite (term_at (get_or os 0 0)) (term_at (get_or os 1 0)) (term_at (get_or os 2 0))) Opaque) Opaque os t
      (λ e. either (eqb (length os) 3) (Ite (term_at (get_or os 0 0)) (term_at (get_or os 1 0)) (term_at (get_or os 2 0))) Opaque os t
      (λ k. (at 0 3 k (omega arith), at 1 3 k (omega arith), at 2 3 k (omega arith))) (λ k. tt))
      (λ e. tt))))))

quantifier-below : (tag body t : ℕ) (os : List ℕ) → body < t → Below (quantifier tag body) os t
unfolding quantifier
quantifier-below tag body t os h =
    either (eqb tag 23) (Quantifier Forall (term_at body)) _ os t (λ e. h) (λ e. either (eqb tag 24) (Quantifier Exists (term_at body)) Opaque os t (λ e. h) (λ e. tt))

module _ (tags values : List ℕ) (t : ℕ) where
  abbrev run : List ℕ
  run = operands_of tags values t

  view-below : Below (view_of tags values t) run t
  unfolding view_of
  view-below =
      either (ltb (get_or tags t 0) 32) _ _ run t
      (λ e. either (ltb (get_or run 0 0) t) (quantifier (get_or tags t 0) (get_or run 0 0)) Opaque run t
      (λ h. quantifier-below (get_or tags t 0) (get_or run 0 0) t run (ltb-true _ _ h)) (λ h. tt))
      (λ e. either (all_before t run) (connective values (get_or tags t 0) run) Opaque run t (λ h. connective-below values (get_or tags t 0) t run h) (λ h. tt))

  module _ (v : View) (is : v ≡ view_of tags values t) where
    seen : (w : View) → v ≡ w → Below w run t
    seen w e = rw (← e, is) view-below

    pub not-below : (a : TermPlace) → v ≡ Not a → a.0 < t
    not-below a e = seen (Not a) e

    pub many_below : (b : ConnectiveKind) → v ≡ AndOr b → (i : ℕ) → i < length (operands_of tags values t) → get_or (operands_of tags values t) i 0 < t
    many_below b e = seen (AndOr b) e

    pub implies-below : (a b : TermPlace) → v ≡ Implies a b → (a.0 < t) × (b.0 < t)
    implies-below a b e = seen (Implies a b) e

    pub ite-below : (a b c : TermPlace) → v ≡ Ite a b c → (a.0 < t) × (b.0 < t) × (c.0 < t)
    ite-below a b c e = seen (Ite a b c) e

    pub iff-below : (a b : TermPlace) → v ≡ Iff a b → (a.0 < t) × (b.0 < t)
    iff-below a b e = seen (Iff a b) e

    pub quantifier-body : (b : QuantifierKind) (body : TermPlace) → v ≡ Quantifier b body → body.0 < t
    quantifier-body b body e = seen (Quantifier b body) e

    -- ---- the form, by how the term is read
    abbrev rec : ℕ → Form (List ℕ) ℕ
    rec u = cond (ltb u t) (form tags values u) (opaque 0)

    rec-is : (u : ℕ) → u < t → rec u ≡ form tags values u
    rec-is u h = rw (lt-ltb u t h)

    form-is : (w : View) → v ≡ w → form tags values t ≡ form_by w t run rec
    unfolding form
    form-is w e =
        by_place-is (λ u f. form_by (view_of tags values u) u (operands_of tags values u) f) (opaque 0) t
        ∙ rw (← is, e)

    forms-are : (os : List ℕ) → ((i : ℕ) → i < length os → get_or os i 0 < t) → (p : Bool)
        → nnfs (forms_of rec os) p ≡ normals_of (λ u. nnf (form tags values u) p) os
    forms-are [] h p = refl
    forms-are (u ∷ os) h p =
        rw (rec-is u (h 0 (omega arith)), forms-are os (λ i l. h (suc i) (omega arith)) p)

    module _ (p : Bool) where
      pub normal-opaque : v ≡ Opaque → nnf (form tags values t) p ≡ lit p t
      unfolding form_by
      normal-opaque e = rw (form-is Opaque e)

      pub normal-not : (a : TermPlace) → v ≡ Not a → nnf (form tags values t) p ≡ nnf (form tags values a.0) (not p)
      unfolding form_by
      normal-not a e = rw (form-is (Not a) e, rec-is a.0 (not-below a e))

      pub normal-many : (b : ConnectiveKind) → v ≡ AndOr b
          → nnf (form tags values t) p ≡ nmany (flip (is_and b) p) (normals_of (λ u. nnf (form tags values u) p) (operands_of tags values t))
      unfolding form_by
      normal-many b e = rw (form-is (AndOr b) e, forms-are run (many_below b e) p)

      pub normal-implies : (a b : TermPlace) → v ≡ Implies a b
          → nnf (form tags values t) p ≡ pair (not p) (nnf (form tags values a.0) (not p)) (nnf (form tags values b.0) p)
      unfolding form_by
      normal-implies a b e =
          let (h, l) = implies-below a b e in
          rw (form-is (Implies a b) e, rec-is a.0 h, rec-is b.0 l)

      pub normal-ite : (a b c : TermPlace) → v ≡ Ite a b c
          → nnf (form tags values t) p ≡ two_pairs p (λ u q. nnf (form tags values u) q) a.0 b.0 a.0 p c.0
      unfolding form_by
      normal-ite a b c e =
          let (h, l, k) = ite-below a b c e in
          rw (form-is (Ite a b c) e, rec-is a.0 h, rec-is b.0 l, rec-is c.0 k)

      pub normal-iff : (a b : TermPlace) → v ≡ Iff a b
          → nnf (form tags values t) p ≡ two_pairs p (λ u q. nnf (form tags values u) q) a.0 b.0 b.0 (not p) a.0
      unfolding form_by
      normal-iff a b e =
          let (h, l) = iff-below a b e in
          rw (form-is (Iff a b) e, rec-is a.0 h, rec-is b.0 l)

      pub normal-quantifier : (b : QuantifierKind) (body : TermPlace) → v ≡ Quantifier b body
          → nnf (form tags values t) p ≡ nall (flip (is_forall b) p) (drop 1 (operands_of tags values t)) (nnf (form tags values body.0) p)
      unfolding form_by
      normal-quantifier b body e = rw (form-is (Quantifier b body) e, rec-is body.0 (quantifier-body b body e))
