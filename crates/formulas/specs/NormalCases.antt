-- The normal form of `ite` at both polarities, by computation: `(and (or (not p) q) (or p r))`, and
-- `(or (and p (not q)) (and (not p) (not r)))`.
-- Rests on Formula and Normal.
use Rattle.std.specs.Prelude.{ℕ, ◌≡◌, refl, true, false, List}
use Rattle.formulas.specs.Formula.{opaque, ite}
use Rattle.formulas.specs.Normal.{lit, pair, nnf}

module _ (p q r : ℕ) where
  pub ite-true : nnf {B = List ℕ} (ite (opaque p) (opaque q) (opaque r)) true ≡ pair true (pair false (lit false p) (lit true q)) (pair false (lit true p) (lit true r))
  ite-true = refl

  pub ite-false : nnf {B = List ℕ} (ite (opaque p) (opaque q) (opaque r)) false ≡ pair false (pair true (lit true p) (lit false q)) (pair true (lit false p) (lit false r))
  ite-false = refl
