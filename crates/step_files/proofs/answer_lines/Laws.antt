-- Laws of `Text`, one for each function.
-- Assumes nothing.
use Prim.Native.Nat.{ℕ, ◌+◌, ◌-◌, ◌≤◌, ◌<◌}
use mathlib.Core.Path.{◌≡◌, refl, ◌∙◌}
use mathlib.Core.List.{List, [], ◌∷◌, ◌++◌, append_assoc}
use lib.ListN.{length, set, length-append}
use lib.Seq.{sets-eq, drop-drop}
use borrow.Rule.Slice.PartMut.{put_mid}
use native.Mathlib.Omega.{arith}
use Rattle.io.specs.Digits.{last_digits, IsDigitCount}
use Rattle.answers.specs.declared.Answer.{Answer}
use Rattle.step_files.specs.Decimal.{decimal}
use Rattle.step_files.specs.Text.{field, line, LinePut}
use Rattle.step_files.proofs.answer_lines.Decimals.{digits_are, ten-digits}
use Rattle.step_files.proofs.answer_lines.Sets.{sets-append}

-- the digits are copied
pub number_put : (n m r at : ℕ) (text out : List ℕ) → m ≡ n → IsDigitCount 10 1 m r → text ≡ last_digits 10 r m → r ≡ length text
    → at + 10 ≤ length out → n < 4294967296 → LinePut (decimal n) 10 at out (at + r) (put_mid at (at + r - at) out text)
number_put n m r at text out same few are size room h =
    let e : text ≡ decimal n = are ∙ digits_are m r few ∙ rw same in
    let ten : r ≤ 10 = ten-digits m r few (omega arith) in
    let end : at + (at + r - at) ≡ at + length text = omega arith in
    record {
      end = rw (← e) (omega arith);
      short = rw (← e) (omega arith);
      out-is = rw (← e, sets-eq text out at (omega arith), drop-drop, end, append_assoc);
    }

-- one text after another
pub put-append : {s t : List ℕ} {m k at : ℕ} {out : List ℕ} {r : ℕ} {mid : List ℕ} {r' : ℕ} {out' : List ℕ}
    → LinePut s m at out r mid → LinePut t k r mid r' out' → LinePut (s ++ t) (m + k) at out r' out'
put-append {s} {t} {m} {k} {at} {out} p q =
    record {
      end = rw length-append (omega arith);
      short = rw length-append (omega arith);
      out-is = q.out-is ∙ rw (p.out-is, p.end) (sets-append s t out at);
    }

-- the byte after a number
pub field_put : (n after at r : ℕ) (out mid : List ℕ) → LinePut (decimal n) 10 at out r mid
    → LinePut (field n after) 11 at out (r + 1) (set mid r after)
unfolding field
field_put n after at r out mid p = put-append {t = after ∷ []} {k = 1} p (record { end = omega arith; short = omega arith; out-is = refl })

-- the four numbers of a line
pub line-put : (k at r₁ r₂ r₃ r₄ : ℕ) (a : Answer) (out₀ out₁ out₂ out₃ out₄ : List ℕ) → LinePut (field k 32) 11 at out₀ r₁ out₁
    → LinePut (field a.code 32) 11 r₁ out₁ r₂ out₂ → LinePut (field a.first 32) 11 r₂ out₂ r₃ out₃
    → LinePut (field a.second 10) 11 r₃ out₃ r₄ out₄ → LinePut (line k a) 44 at out₀ r₄ out₄
unfolding line
line-put k at r₁ r₂ r₃ r₄ a out₀ out₁ out₂ out₃ out₄ p q s t = put-append (put-append (put-append p q) s) t
