-- Laws of `Words`: a word past the end, and the words of a run.
-- Assumes nothing.
use Prim.Native.Nat.{ℕ, zero, suc, ◌+◌, ◌*◌, ◌/◌, ◌<◌}
use mathlib.Core.Path.{◌≡◌, refl, ap}
use mathlib.Core.List.{List}
use lib.ListN.{length, get_or, get_or-eq_default}
use lib.Seq.{ext_get_or}
use native.Mathlib.Omega.{arith}
use native.Mathlib.Numerals.{unary_clauses}
use Rattle.step_files.specs.Words.{word_at, words_from}

-- ---- past the end
pub word-past : (bytes : List ℕ) (i : ℕ) → length bytes / 4 < i → 0 ≡ word_at bytes i
unfolding word_at
word-past bytes i h =
    rw (
      get_or-eq_default bytes 0 {n = 4 * i} (omega arith),
      get_or-eq_default bytes 0 {n = 4 * i + 1} (omega arith),
      get_or-eq_default bytes 0 {n = 4 * i + 2} (omega arith),
      get_or-eq_default bytes 0 {n = 4 * i + 3} (omega arith),
    )

-- ---- the words of a run
pub length-words : (bytes : List ℕ) (start k : ℕ) → length (words_from bytes start k) ≡ k
unfolding words_from
length-words bytes start zero = refl
length-words bytes start (suc k) = ap suc (length-words bytes (suc start) k)

pub get_d_words : (bytes : List ℕ) (start k i : ℕ) → i < k → get_or (words_from bytes start k) i 0 ≡ word_at bytes (start + i)
unfolding words_from
get_d_words bytes start zero i h = absurd (omega arith)
get_d_words bytes start (suc k) zero h = simp unary_clauses
get_d_words bytes start (suc k) (suc i) h =
    let e : start + suc i ≡ suc start + i = omega arith in
    rw e (get_d_words bytes (suc start) k i (omega arith))

-- a list that holds the words of a run is that run
pub words_are : (bytes : List ℕ) (start k : ℕ) (out : List ℕ) → length out ≡ k
    → ((j : ℕ) → j < k → get_or out j 0 ≡ word_at bytes (start + j)) → out ≡ words_from bytes start k
words_are bytes start k out e at =
    ext_get_or 0 out _ (rw length-words e) (λ j h. rw (get_d_words bytes start k j (omega arith)) (at j (omega arith)))
