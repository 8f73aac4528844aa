-- Laws of the loop that copies cells.
-- Assumes nothing.
use Prim.Native.Nat.{ℕ, ◌+◌, ◌≤◌, ◌<◌}
use mathlib.Core.Path.{◌≡◌, refl, ◌∙◌}
use mathlib.Core.List.{List}
use lib.ListN.{length, get_or, set, length-set}
use lib.Seq.{get_or-set_same, get_or-set_other, ext_get_or}
use lib.Dec.{eqb}
use native.Mathlib.Omega.{arith}
use borrow.Author.Tests.{eqb-true, eqb-false}
use Rattle.cells.specs.ByPlace.{by-test}

-- the first i cells are copied
pub record Copying (from to₀ to : List ℕ) (i : ℕ) : Type 0 where
  pub long : length to ≡ length to₀
  pub done : (j : ℕ) → j < i → get_or to j 0 ≡ get_or from j 0

pub copy_start : (from to : List ℕ) → Copying from to to 0
copy_start from to = record { long = refl; done = λ j l. absurd (omega arith) }

module _ (from to₀ to : List ℕ) (i : ℕ) (w : Copying from to₀ to i) (size : length to₀ ≡ length from) where
  pub copy_more : i < length from → Copying from to₀ (set to i (get_or from i 0)) (i + 1)
  copy_more h = record {
    long = length-set to i (get_or from i 0) ∙ w.long;
    done = λ j l.
        by-test (eqb j i)
        (λ o. let z : j ≡ i = eqb-true j i o in rw (z, get_or-set_same to i (get_or from i 0) 0 (omega (arith, w.long))))
        (λ o. get_or-set_other to i j (get_or from i 0) 0 (eqb-false j i o) ∙ w.done j (omega (arith, eqb-false j i o)));
  }

  pub copy-end : length from ≤ i → to ≡ from
  copy-end h = ext_get_or 0 to from (w.long ∙ size) (λ j l. w.done j (omega (arith, w.long)))
