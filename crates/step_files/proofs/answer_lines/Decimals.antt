-- Laws of `decimal`: `io::decimal`'s digits are these, and a u32 has at most ten.
-- Assumes nothing.
use Prim.Native.Nat.{ℕ, zero, suc, ◌-◌, ◌*◌, ◌/◌, ◌%◌, ◌^◌, ◌≤◌, ◌<◌}
use mathlib.Core.Path.{◌≡◌}
use lib.Dec.{leb}
use native.Mathlib.Omega.{arith}
use native.Mathlib.Numerals.{unary_clauses}
use native.Mathlib.Nat.{pow-suc, pow-le-pow_right, one-le-pow}
use borrow.Author.Tests.{lt-ltb, le-ltb, leb-true, leb-false}
use Rattle.io.specs.Digits.{last_digits, IsDigitCount}
use Rattle.cells.specs.ByPlace.{by-test}
use Rattle.step_files.specs.Decimal.{decimal, decimal_in}

-- a number of k + 1 digits, the first of them not 0 if there are more
digits_in : (k n f : ℕ) → n < f → n < 10 ^ suc k → (0 < k → 10 ^ k ≤ n) → last_digits 10 (suc k) n ≡ decimal_in f n
unfolding decimal_in
digits_in k n zero hf h first = absurd (omega arith)
digits_in zero n (suc f) hf h first =
    let small : n < 10 = omega arith in
    let e : n % 10 ≡ n = omega arith in
    rw (e, lt-ltb n 10 small)
digits_in (suc k) n (suc f) hf h first =
    let one : 1 ≤ 10 ^ k = one-le-pow k 10 (omega arith) in
    let e : 10 ^ suc k ≡ 10 ^ k * 10 = pow-suc 10 k in
    let e' : 10 ^ suc (suc k) ≡ 10 ^ suc k * 10 = pow-suc 10 (suc k) in
    let big : 10 ^ suc k ≤ n = first (omega arith) in
    let ten : 10 ≤ n = omega arith in
    let digit : n % 10 < 10 = omega arith in
    rw (le-ltb n 10 ten, lt-ltb (n % 10) 10 digit, digits_in k (n / 10) f (omega arith) (omega arith) (λ _. omega arith))

pub digits_are : (n r : ℕ) → IsDigitCount 10 1 n r → last_digits 10 r n ≡ decimal n
unfolding decimal
digits_are n zero (least, h, first) = absurd (omega arith)
digits_are n (suc k) (least, h, first) = digits_in k n (suc n) (omega arith) h (λ more. simp unary_clauses at (first (omega arith)))

pub ten-digits : (n r : ℕ) → IsDigitCount 10 1 n r → n < 4294967296 → r ≤ 10
ten-digits n r few h =
    by-test (leb r 10)
    (λ e. leb-true r 10 e)
    (λ e.
    let more : 10 < r = leb-false r 10 e in
    let big : 10 ^ 10 ≤ 10 ^ (r - 1) = pow-le-pow_right {n = 10} (omega arith) {i = 10} {j = r - 1} (omega arith) in
    let first : 10 ^ (r - 1) ≤ n = few.2 (omega arith) in
    absurd (omega arith))
