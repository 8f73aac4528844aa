-- The three numbers that are written are read back as the answer.
-- Assumes nothing.
use Prim.Native.Nat.{ℕ}
use mathlib.Core.Path.{◌≡◌, refl}
use mathlib.Core.List.{List, [], ◌∷◌}
use lib.ListN.{length, set}
use native.Mathlib.Omega.{arith}
use Rattle.answers.specs.declared.Answer.{Answer}
use Rattle.weldrika.specs.AnswerArray.{answer_in}

pub put_is : (out : List ℕ) (a : Answer) → length out ≡ 3 → answer_in (set (set (set out 0 a.code) 1 a.first) 2 a.second) ≡ a
put_is [] a e = absurd (omega arith)
put_is (x ∷ []) a e = absurd (omega arith)
put_is (x ∷ (y ∷ [])) a e = absurd (omega arith)
put_is (x ∷ (y ∷ (z ∷ []))) a e = refl
put_is (x ∷ (y ∷ (z ∷ (w ∷ l)))) a e = absurd (omega arith)
