-- Laws of `sets`, bytes stored one after another.
-- Assumes nothing.
use Prim.Native.Nat.{ℕ, suc, ◌+◌}
use mathlib.Core.Path.{◌≡◌}
use mathlib.Core.List.{List, [], ◌∷◌, ◌++◌}
use lib.ListN.{length, set}
use lib.Seq.{sets}
use native.Mathlib.Omega.{arith}
use native.Mathlib.Numerals.{unary_clauses}

-- one text after another
pub sets-append : (s t : List ℕ) (l : List ℕ) (i : ℕ) → sets (sets l i s) (i + length s) t ≡ sets l i (s ++ t)
sets-append [] t l i = simp unary_clauses
sets-append (a ∷ s) t l i =
    let e : i + suc (length s) ≡ suc i + length s = omega arith in
    rw e (sets-append s t (set l i a) (suc i))
