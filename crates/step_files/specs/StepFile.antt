-- The text that answers a step file, over the list of the file's bytes.
-- 01, "The step file": "u32 little-endian: N, R (steps, at most 256); N tags, N values; R rule codes, R conclusion places. The program
-- `steps`, with arrays of 8,192 cells, reads standard input and prints per step its number from 1, the answer and its two numbers. N or R
-- too large prints `0 30 0 0`, else a wrong length `0 14 0 0`, and nothing more. Under 8 bytes is a wrong length, N unread."
-- Rests on answers' Answer and struct `Answer`, on rules' Step, and on Words and Text.
use Rattle.std.specs.Prelude.{ℕ, zero, suc, ◌+◌, ◌-◌, ◌*◌, ◌≡◌, ◌||◌, cond, List, [], ◌∷◌, ◌++◌, length, drop, replicate, ltb, eqb}
use Rattle.step_files.specs.Words.{word_at, words_from}
use Rattle.answers.specs.Answer.{ill_formed, bad_arrays}
use Rattle.answers.specs.declared.Answer.{Answer}
use Rattle.rules.specs.Step.{step_answer, Follows}
use Rattle.step_files.specs.Text.{line}

-- an array of 8,192 cells: n words of the file from position start on, and zeroes
unfoldable pub cells_from : List ℕ → ℕ → ℕ → List ℕ
cells_from bytes start n = words_from bytes start n ++ replicate (8192 - n) 0

module _ (bytes : List ℕ) where
  -- N
  abbrev pub cell_count : ℕ
  cell_count = word_at bytes 0

  -- R
  abbrev pub step_count : ℕ
  step_count = word_at bytes 1

  abbrev pub file_tags : List ℕ
  file_tags = cells_from bytes 2 cell_count

  abbrev pub file_values : List ℕ
  file_values = cells_from bytes (2 + cell_count) cell_count

  -- the rule and the conclusion of step j, counted from 0
  abbrev pub rule_of : ℕ → ℕ
  rule_of j = word_at bytes (2 + 2 * cell_count + j)

  abbrev pub place_of : ℕ → ℕ
  place_of j = word_at bytes (2 + 2 * cell_count + step_count + j)

  -- the table of sort rules in use; S-2: one that would not load answers each step of a file of the right length
  module _ (table : List ℕ) where
    -- the answer to step j, always over the arrays that the file gives: no step reaches a later one
    unfoldable pub answer_to : ℕ → Answer
    answer_to j = step_answer file_tags file_values table cell_count (rule_of j) (place_of j ∷ [])

    -- what an acceptance of step j says of its conclusion: demand 3, as `check` says it of a step alone
    abbrev pub StepFollows : ℕ → Type 0
    StepFollows j = Follows file_tags file_values table cell_count (rule_of j) (place_of j ∷ []) (answer_to j)

    -- the lines of the first k steps
    unfoldable pub lines : ℕ → List ℕ
    lines zero = []
    lines (suc k) = lines k ++ line (suc k) (answer_to k)

    unfoldable pub file_text : List ℕ
    file_text =
        cond (ltb (length bytes) 8) (line 0 (ill_formed 0))
        (cond (ltb 8192 cell_count || ltb 256 step_count) (line 0 bad_arrays)
        (cond (eqb (length bytes) (4 * (2 + 2 * cell_count + 2 * step_count))) (lines step_count)
        (line 0 (ill_formed 0))))

    -- what is written into a lent array: the text, for which 11,264 bytes are enough (256 lines of at most 44), and nothing into a shorter one
    unfoldable pub written : List ℕ → List ℕ
    written out = cond (ltb (length out) 11264) [] file_text

    -- r bytes are written at the front of the array, and the rest of it is as it was; a step whose line says 0 is true
    pub record Answered (out : List ℕ) (r : ℕ) (out' : List ℕ) : Type 0 where
      pub end : r ≡ length (written out)
      pub out-is : out' ≡ written out ++ drop r out
      pub follows : (j : ℕ) → StepFollows j
