-- Laws of the walkers that build the taken-out form: a term by how it is read, and the whole walk.
-- Assumes nothing.
use Rattle.std.specs.Prelude.{Option, Some, None}
use Prim.Native.Nat.{ℕ, ◌<◌}
use mathlib.Core.Path.{◌≡◌, refl, sym, ◌∙◌}
use mathlib.Core.Bool.{true}
use mathlib.Core.List.{List, [], ◌∷◌}
use lib.ListN.{get_or, take}
use lib.Dec.{ltb, eqb}
use native.Mathlib.Omega.{arith}
use borrow.Author.Tests.{ltb-true, lt-ltb}
use Rattle.cells.specs.Place.{term_at}
use Rattle.cells.specs.declared.TermPlace.{TermPlace}
use Rattle.cells.specs.ByPlace.{by-test}
use Rattle.cells.specs.Cell.{operands_of}
use Rattle.formulas.specs.declared.kinds.ConnectiveKind.{ConnectiveKind}
use Rattle.formulas.specs.declared.kinds.ConnectiveKind.TheVariants.{And}
use Rattle.formulas.specs.declared.view.NormalView.{NormalView}
use Rattle.formulas.specs.declared.view.NormalView.TheVariants.{Literal, Connective, Forall}
use Rattle.formulas.specs.Formula.{is_and, all_before, connective_tag}
use Rattle.formulas.specs.Normal.{Normal, lit, nmany, prenex, prenexes}
use Rattle.formulas.specs.Built.{put, intern, normals_of, normal_view, taken_out_form}
use Rattle.building.specs.Arrays.{pool_of}
use Rattle.building.specs.Walk.{Puts, memo_of, MemoKept, places_in, taken_out, form_of, run_of, entry_form, Formed, Known, operand_forms, OperandsKnown, Before, NormalBuilt, WalkReady}
use Rattle.formulas.proofs.Reading.{before_at, read-literal, read-forall, read-connective, run-before}
use Rattle.building.proofs.build.Building.{builds-stood}
use Rattle.building.proofs.build.Walks.{connective-full, connective-put, whole-built}

-- the body of a forall stands before it
pub body-before : (tags values : List ℕ) (x : ℕ) (body : TermPlace) → Forall body ≡ normal_view tags values x → body.0 < x
unfolding normal_view
body-before tags values x body e =
    by-test (eqb (get_or tags x 0) 23)
    (λ q. by-test (ltb (get_or (operands_of tags values x) 0 0) x)
    (λ l. let z : body ≡ term_at (get_or (operands_of tags values x) 0 0) = let y = rw (q, l) at e in cc in rw z (ltb-true _ _ l))
    (λ l. absurd (other Literal (rw (q, l) at e) refl)))
    (λ q. by-test (all_before x (operands_of tags values x))
    (λ l. by-test (eqb (get_or tags x 0) 36)
    (λ k. absurd (connected And (rw (q, l, k) at e)))
    (λ k. by-test (eqb (get_or tags x 0) 37)
    (λ m. absurd (connected _ (rw (q, l, k, m) at e)))
    (λ m. absurd (other Literal (rw (q, l, k, m) at e) refl))))
    (λ l. absurd (other Literal (rw (q, l) at e) refl)))
  where
    other : (v : NormalView) → Forall body ≡ v → v ≡ Literal → ⊥
    other v e f = let z : ◌≡◌ {A = ℕ} 0 1 = cc in omega arith

    connected : (b : ConnectiveKind) → Forall body ≡ Connective b → ⊥
    connected b e = let z : ◌≡◌ {A = ℕ} 0 1 = cc in omega arith

prenexes-are : (f : ℕ → Normal (List ℕ) ℕ) (us : List ℕ) → prenexes (normals_of f us) ≡ normals_of (λ u. prenex (f u)) us
prenexes-are f [] = refl
prenexes-are f (u ∷ us) = rw (prenexes-are f us)

-- ---- take_out
module _ (end n : ℕ) (tags values work : List ℕ) (ready : WalkReady taken_out end n tags values work) (x : ℕ) (within : x < end) (v : NormalView)
    (is : v ≡ normal_view (take end tags) (take end values) x) where
  pub take-literal : v ≡ Literal → Formed taken_out end n tags values work (form_of taken_out end tags values x true) (Some ((term_at x), n)) tags values work
  unfolding form_of intern
  take-literal e =
      rw (read-literal (take end tags) (take end values) x v is e)
      (builds-stood (entry_form taken_out end tags values) end n tags values work ready.state ready.right (lit true x) x
      (omega (arith, ready.state.source)) refl)

  pub forall_below : (body : TermPlace) → v ≡ Forall body → body.0 < x
  forall_below body e = body-before (take end tags) (take end values) x body (sym e ∙ is)

  pub take-forall : (body : TermPlace) → v ≡ Forall body → (r : Option (TermPlace × ℕ)) (tags₁ values₁ work₁ : List ℕ) → Known taken_out end n tags values work body.0 true r tags₁ values₁ work₁
      → Formed taken_out end n tags values work (form_of taken_out end tags values x true) r tags₁ values₁ work₁
  unfolding form_of
  take-forall body e r tags₁ values₁ work₁ j =
      rw (read-forall (take end tags) (take end values) x v is body e, lt-ltb body.0 x (forall_below body e)) j.formed

  module _ (b : ConnectiveKind) (e : v ≡ Connective b) where
    pub connective-before : Before end tags values x
    connective-before = record { operand = before_at x (run_of end tags values x) (run-before (take end tags) (take end values) x v is b e) }

    connective-is : form_of taken_out end tags values x true ≡ nmany (is_and b) (operand_forms taken_out end tags values x true 0)
    unfolding form_of
    connective-is = rw (read-connective (take end tags) (take end values) x v is b e, prenexes-are)

    module _ (r₁ : Option (TermPlace × ℕ)) (tags₁ values₁ work₁ : List ℕ) (j : OperandsKnown taken_out end n tags values work x true 0 r₁ tags₁ values₁ work₁) where
      pub take-full : r₁ ≡ None → Formed taken_out end n tags values work (form_of taken_out end tags values x true) None tags₁ values₁ work₁
      take-full = connective-full taken_out end n tags values work x true (is_and b) connective-is r₁ tags₁ values₁ work₁ j

      pub take_put : (p : TermPlace) (m : ℕ) → r₁ ≡ Some (p, m) → (r₂ : Option (TermPlace × ℕ)) (tags₂ values₂ work₂ : List ℕ)
          → Puts m tags₁ values₁ (put (pool_of tags₁ values₁ m) (connective_tag (is_and b)) (0 ∷ places_in (memo_of work₁) true (run_of end tags₁ values₁ x))) r₂ tags₂ values₂
          → MemoKept work₁ work₂ → Formed taken_out end n tags values work (form_of taken_out end tags values x true) r₂ tags₂ values₂ work₂
      take_put = connective-put taken_out end n tags values work x true (is_and b) connective-is r₁ tags₁ values₁ work₁ j

-- ---- the whole
pub taken-built : (n : ℕ) (tags values work : List ℕ) (x : ℕ) (r : Option (TermPlace × ℕ)) (tags' values' work' : List ℕ)
    → Known taken_out n n tags values work x true r tags' values' work' → NormalBuilt n tags values (taken_out_form (pool_of tags values n) x) r tags' values'
unfolding taken_out_form form_of
taken-built n tags values work x = whole-built taken_out n tags values work x true
