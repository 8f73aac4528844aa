-- A term in normal form, read back from its place.
--     read-literal, read-forall, read-connective     the form at a place, by how the term there is read
--     run-before, before_at                          a connective's operands stand before it
--     connective-within                              a connective stands in the pool
-- Assumes nothing.
use Prim.Native.Nat.{ℕ, zero, suc, ◌<◌}
use mathlib.Core.Path.{◌≡◌, refl, sym, ap, ◌∙◌}
use mathlib.Core.Bool.{true, false, cond}
use mathlib.Core.List.{List, [], ◌∷◌}
use lib.ListN.{length, get_or, drop, replicate, get_or-eq_default}
use lib.Dec.{ltb, leb, eqb}
use native.Mathlib.Omega.{arith}
use borrow.Author.Tests.{ltb-true, leb-true, leb-false, lt-ltb}
use Rattle.cells.specs.declared.TermPlace.{TermPlace}
use Rattle.cells.specs.Cell.{operands_of}
use Rattle.cells.specs.ByPlace.{by-test, by_place-is}
use Rattle.formulas.specs.declared.kinds.ConnectiveKind.{ConnectiveKind}
use Rattle.formulas.specs.declared.view.NormalView.{NormalView}
use Rattle.formulas.specs.declared.view.NormalView.TheVariants.{Literal, Connective, Forall}
use Rattle.formulas.specs.Formula.{is_and, all_before}
use Rattle.formulas.specs.Normal.{Normal, lit, nmany, nall}
use Rattle.formulas.specs.Built.{normal_view, normals_of, normal_by, normal_at, form_at}

-- ---- a view is one of three
pub no-literal : (b : ConnectiveKind) → Connective b ≡ Literal → ⊥
no-literal b e = let z : ◌≡◌ {A = ℕ} 0 1 = cc in omega arith

pub no-forall : (b : ConnectiveKind) (body : TermPlace) → Connective b ≡ Forall body → ⊥
no-forall b body e = let z : ◌≡◌ {A = ℕ} 0 1 = cc in omega arith

false-true : false ≡ true → ⊥
false-true e = let z : ◌≡◌ {A = ℕ} 0 1 = cc in omega arith

-- ---- a fresh memo
pub zeros : (k u : ℕ) → get_or {A = ℕ} (replicate k 0) u 0 ≡ 0
zeros zero u = refl
zeros (suc k) zero = refl
zeros (suc k) (suc u) = zeros k u

-- ---- a run that stands before x
module _ (x u : ℕ) (us : List ℕ) (h : all_before x (u ∷ us) ≡ true) where
  pub before_head : u < x
  unfolding all_before
  before_head = by-test (ltb u x) (λ e. ltb-true u x e) (λ e. absurd (false-true (rw e at h)))

  pub before-tail : all_before x us ≡ true
  unfolding all_before
  before-tail = rw (lt-ltb u x before_head) at h

pub before_at : (x : ℕ) (us : List ℕ) → all_before x us ≡ true → (i : ℕ) → i < length us → get_or us i 0 < x
before_at x [] h i l = absurd (omega arith)
before_at x (u ∷ us) h zero l = before_head x u us h
before_at x (u ∷ us) h (suc i) l = before_at x us (before-tail x u us h) i (omega arith)

-- its forms are those of its places
normals-below : (f : ℕ → Normal (List ℕ) ℕ) (d : Normal (List ℕ) ℕ) (x : ℕ) (us : List ℕ) → all_before x us ≡ true
    → normals_of (λ u. cond (ltb u x) (f u) d) us ≡ normals_of f us
normals-below f d x [] h = refl
normals-below f d x (u ∷ us) h = rw (lt-ltb u x (before_head x u us h), normals-below f d x us (before-tail x u us h))

-- ---- the form at x
module _ (tags values : List ℕ) (x : ℕ) where
  form-is : form_at tags values x
      ≡ normal_by (normal_view tags values x) x (operands_of tags values x) (λ u. cond (ltb u x) (form_at tags values u) (lit true 0))
  unfolding normal_at
  form-is = by_place-is (λ y rec. normal_by (normal_view tags values y) y (operands_of tags values y) rec) (lit true 0) x

  -- how a connective is read: by a tag that is not 23, with all operands before it
  module _ (b : ConnectiveKind) (e : Connective b ≡ normal_view tags values x) where
    no-binder : eqb (get_or tags x 0) 23 ≡ false
    unfolding normal_view
    no-binder =
        by-test (eqb (get_or tags x 0) 23)
        (λ q. absurd (by-test (ltb (get_or (operands_of tags values x) 0 0) x)
        (λ l. no-forall b _ (rw (q, l) at e))
        (λ l. no-literal b (rw (q, l) at e))))
        (λ q. q)

    all-before : all_before x (operands_of tags values x) ≡ true
    unfolding normal_view
    all-before = by-test (all_before x (operands_of tags values x)) (λ q. q) (λ q. absurd (no-literal b (rw (no-binder, q) at e)))

    tag-not-zero : get_or tags x 0 ≡ 0 → ⊥
    unfolding normal_view
    tag-not-zero z = no-literal b (rw (all-before, z) at e)

  module _ (v : NormalView) (is : v ≡ normal_view tags values x) where
    pub read-literal : v ≡ Literal → form_at tags values x ≡ lit true x
    unfolding normal_by
    read-literal e = rw (form-is, ← is, e)

    pub read-forall : (body : TermPlace) → v ≡ Forall body
        → form_at tags values x ≡ nall true (drop 1 (operands_of tags values x)) (cond (ltb body.0 x) (form_at tags values body.0) (lit true 0))
    unfolding normal_by
    read-forall body e = rw (form-is, ← is, e)

    module _ (b : ConnectiveKind) (e : v ≡ Connective b) where
      pub run-before : all_before x (operands_of tags values x) ≡ true
      run-before = all-before b (sym e ∙ is)

      pub read-connective : form_at tags values x ≡ nmany (is_and b) (normals_of (form_at tags values) (operands_of tags values x))
      unfolding normal_by
      read-connective = rw (form-is, ← is, e) (ap (nmany (is_and b)) (normals-below _ _ x _ run-before))

      pub connective-within : x < length tags
      connective-within =
          by-test (leb (length tags) x)
          (λ q. absurd (tag-not-zero b (sym e ∙ is) (get_or-eq_default tags 0 (leb-true (length tags) x q))))
          (λ q. leb-false (length tags) x q)
