-- Tests at every position of a range, or at some.
-- Rests on the library alone.
use Rattle.std.specs.Prelude.{ℕ, zero, suc, ◌-◌, Bool, true, ◌&&◌}

-- the test holds at f positions from j on
unfoldable pub every_in : (ℕ → Bool) → ℕ → ℕ → Bool
every_in test zero j = true
every_in test (suc f) j = test j && every_in test f (suc j)

-- the test holds at every position from j on, below k
unfoldable pub every : (ℕ → Bool) → ℕ → ℕ → Bool
every test j k = every_in test (k - j) j
