-- Laws of the range from j up to k: at its end, and before it.
-- Assumes nothing.
use Prim.Native.Nat.{ℕ, suc, ◌+◌, ◌-◌, ◌≤◌, ◌<◌}
use mathlib.Core.Path.{◌≡◌}
use native.Mathlib.Omega.{arith}

pub no_more : (k j : ℕ) → k ≤ j → k - j ≡ 0
no_more k j h = omega arith

pub one_more : (k j : ℕ) → j < k → k - j ≡ suc (k - (j + 1))
one_more k j h = omega arith
