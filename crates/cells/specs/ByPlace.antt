-- Recursion over the places of a pool: what a step makes of a place may ask for the places before it.
--     by_place step d t     the step at t, with the answers before t, and d for a place that does not stand before t
--     by_place-is           that, as an equation
-- Rests on the library alone.
use Prim.Native.Nat.{ℕ, zero, suc, ◌<◌}
use Rattle.std.specs.Prelude.{◌≡◌, refl, Bool, true, false, cond, ltb}
use Rattle.std.proofs.Math.Path.{ap, fun_ext}
use Rattle.std.proofs.Common.{arith}
use borrow.Author.Tests.{ltb-true}

-- by cases on a test, with the test's equation
pub by-test : {P : Type 0} (b : Bool) → (b ≡ true → P) → (b ≡ false → P) → P
by-test true y n = y refl
by-test false y n = n refl

module _ {A : Type 0} (step : ℕ → (ℕ → A) → A) (d : A) where
  -- the same, going down at most f places
  unfoldable pub down_to : ℕ → ℕ → A
  down_to zero t = d
  down_to (suc f) t = step t (λ u. cond (ltb u t) (down_to f u) d)

  unfoldable pub by_place : ℕ → A
  by_place t = down_to (suc t) t

  -- any number of places that is over t will do
  fuel : (f g t : ℕ) → t < f → t < g → down_to f t ≡ down_to g t
  unfolding down_to
  fuel zero g t hf hg = absurd (omega arith)
  fuel (suc f) zero t hf hg = absurd (omega arith)
  fuel (suc f) (suc g) t hf hg =
      ap (step t)
      (fun_ext (λ u. by-test (ltb u t)
      (λ e. rw e (fuel f g u (omega (arith, ltb-true u t e)) (omega (arith, ltb-true u t e))))
      (λ e. rw e)))

  pub by_place-is : (t : ℕ) → by_place t ≡ step t (λ u. cond (ltb u t) (by_place u) d)
  unfolding by_place down_to
  by_place-is t =
      ap (step t)
      (fun_ext (λ u. by-test (ltb u t)
      (λ e. rw e (fuel t (suc u) u (ltb-true u t e) (omega arith)))
      (λ e. rw e)))
