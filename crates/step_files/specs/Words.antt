-- u32 little-endian words of a list of bytes, which is read as 0 past its end.
-- Rests on the library alone.
use Rattle.std.specs.Prelude.{ℕ, zero, suc, ◌+◌, ◌*◌, List, [], ◌∷◌, get_or}

-- the word at i, counted in words
unfoldable pub word_at : List ℕ → ℕ → ℕ
word_at bytes i =
    get_or bytes (4 * i) 0 + 256 * get_or bytes (4 * i + 1) 0
    + 65536 * get_or bytes (4 * i + 2) 0 + 16777216 * get_or bytes (4 * i + 3) 0

-- the k words from position start on
unfoldable pub words_from : List ℕ → ℕ → ℕ → List ℕ
words_from bytes start zero = []
words_from bytes start (suc k) = word_at bytes start ∷ words_from bytes (suc start) k
