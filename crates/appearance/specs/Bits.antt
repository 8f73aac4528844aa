-- Rows of bits in a list of words: bit k of the row that starts at `from` is bit k % 32 of the word at from + k / 32. A word past the
-- list's end is 0.
--     test_bit w b                   bit b of a word, the lowest is bit 0
--     in_row a from k                bit k of a row
--     with_bit, without_bit           the list with that bit set, with it clear
--     meets a from b start words    two rows of this many words have a bit in common
-- Rests on the library alone.
use Rattle.std.specs.Prelude.{ℕ, zero, suc, ◌+◌, ◌/◌, ◌%◌, ◌^◌, Bool, false, not, ◌||◌, cond, List, get_or, set, eqb}
use Rattle.std.specs.Int.Bits.{bit_and, bit_or, bit_xor}

unfoldable pub test_bit : ℕ → ℕ → Bool
test_bit w zero = eqb (w % 2) 1
test_bit w (suc b) = test_bit (w / 2) b

unfoldable pub in_row : List ℕ → ℕ → ℕ → Bool
in_row a from k = test_bit (get_or a (from + k / 32) 0) (k % 32)

unfoldable pub with_bit : List ℕ → ℕ → ℕ → List ℕ
with_bit a from k = set a (from + k / 32) (bit_or (get_or a (from + k / 32) 0) (2 ^ (k % 32)))

-- a word without a bit
unfoldable pub cleared : ℕ → ℕ → ℕ
cleared w b = cond (eqb (bit_and w (2 ^ b)) 0) w (bit_xor w (2 ^ b))

unfoldable pub without_bit : List ℕ → ℕ → ℕ → List ℕ
without_bit a from k = set a (from + k / 32) (cleared (get_or a (from + k / 32) 0) (k % 32))

-- two words have a bit in common
unfoldable pub common : ℕ → ℕ → Bool
common x y = not (eqb (bit_and x y) 0)

unfoldable pub meets : List ℕ → ℕ → List ℕ → ℕ → ℕ → Bool
meets a from b start zero = false
meets a from b start (suc words) = common (get_or a from 0) (get_or b start 0) || meets a (from + 1) b (start + 1) words
