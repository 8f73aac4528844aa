-- A number in decimal, as ASCII digits without zeroes in front.
-- Rests on the library alone.
use Rattle.std.specs.Prelude.{ℕ, zero, suc, ◌+◌, ◌/◌, ◌%◌, cond, List, [], ◌∷◌, ◌++◌, ltb}

-- at most f digits
unfoldable pub decimal_in : ℕ → ℕ → List ℕ
decimal_in zero n = []
decimal_in (suc f) n = cond (ltb n 10) ((48 + n) ∷ []) (decimal_in f (n / 10) ++ ((48 + n % 10) ∷ []))

-- n + 1 digits are enough
unfoldable pub decimal : ℕ → List ℕ
decimal n = decimal_in (suc n) n
