-- A line of the output, and what the functions that write state of the bytes written.
-- 01, "The step file": "prints per step its number from 1, the answer and its two numbers."
-- Rests on answers' struct `Answer` and on Decimal.
use Rattle.std.specs.Prelude.{ℕ, ◌+◌, ◌≤◌, ◌≡◌, List, [], ◌∷◌, ◌++◌, length}
use Rattle.std.proofs.lemmas.List.Edits.{sets}
use Rattle.step_files.specs.Decimal.{decimal}
use Rattle.answers.specs.declared.Answer.{Answer}

-- a number and the byte after it
unfoldable pub field : ℕ → ℕ → List ℕ
field n after = decimal n ++ (after ∷ [])

-- four numbers with a space between, and a newline
unfoldable pub line : ℕ → Answer → List ℕ
line k a = field k 32 ++ field a.code 32 ++ field a.first 32 ++ field a.second 10

-- the text stands in the array from position at on and ends at r, before `most` more bytes; the array's other bytes are as they were
pub record LinePut (text : List ℕ) (most at : ℕ) (out : List ℕ) (r : ℕ) (out' : List ℕ) : Type 0 where
  pub end : r ≡ at + length text
  pub short : length text ≤ most
  pub out-is : out' ≡ sets out at text
