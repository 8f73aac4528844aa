-- The headers of a pool in order: one at 0, and after a header at p with n cells the next at p + 1 + n.
-- 01, "Pool": "Headers and their cells fill 0 to N-1 exactly."
-- Rests on the library alone.
use Rattle.std.specs.Prelude.{ℕ, zero, suc, ◌+◌, ◌-◌, Bool, cond, List, [], ◌∷◌, get_or, leb, Option, Some, None}

-- the first header from p on, below n, at which the test holds, among at most f headers
unfoldable pub first_in : List ℕ → ℕ → (ℕ → Bool) → ℕ → ℕ → Option ℕ
first_in values n test zero p = None
first_in values n test (suc f) p =
    cond (leb n p) None
    (cond (test p) (Some p)
    (first_in values n test f (p + (1 + get_or values p 0))))

-- the same among all headers: there are at most n - p
unfoldable pub first_from : List ℕ → ℕ → (ℕ → Bool) → ℕ → Option ℕ
first_from values n test p = first_in values n test (n - p) p

-- the first header of the pool at which the test holds
unfoldable pub first_header : List ℕ → ℕ → (ℕ → Bool) → Option ℕ
first_header values n test = first_from values n test 0

-- the headers from p on, below n, at most f of them
unfoldable pub headers_in : List ℕ → ℕ → ℕ → ℕ → List ℕ
headers_in values n zero p = []
headers_in values n (suc f) p = cond (leb n p) [] (p ∷ headers_in values n f (p + (1 + get_or values p 0)))

-- the same, all of them
unfoldable pub headers_from : List ℕ → ℕ → ℕ → List ℕ
headers_from values n p = headers_in values n (n - p) p
