-- Files that are not answered step by step, and how numbers stand in a file and in a line; each line is shown by computation.
--
--     7 bytes                                  0 14 0 0
--     N 8,193, and nothing after R             0 30 0 0: the limits come before the length
--     R 257, and nothing after it              0 30 0 0
--     N 1, and nothing after R                 0 14 0 0
--     the first four also under a table without entries, which would not load: the file's own refusals come first
--     no cells and one step, under it          1 40 135 0: each step has the table's refusal
--     the bytes 1, 2, 3, 4                     the word 67,305,985: the lowest byte first
--     step 12, refused with 5 and 30, 7        12 5 30 7
--
-- Rests on answers' Answer, on sort_table's TableAnswer, on pool's Check, on rules' Step, and on Decimal, Words, Text and StepFile.
use Rattle.std.specs.Prelude.{ℕ, ◌≡◌, refl, List, [], ◌∷◌}
use Rattle.step_files.specs.Words.{word_at, words_from}
use Rattle.answers.specs.Answer.{refused}
use Rattle.step_files.specs.Decimal.{decimal_in, decimal}
use Rattle.step_files.specs.Text.{field, line}
use Rattle.sort_table.specs.TableAnswer.{table_answer}
use Rattle.pool.specs.Check.{arrays_fit, and_then, check_pool}
use Rattle.rules.specs.Step.{step_answer}
use Rattle.step_files.specs.StepFile.{cells_from, answer_to, lines, file_text}

-- `0 14 0 0` and `0 30 0 0` in ASCII, with the newline
abbrev says14 : List ℕ
says14 = 48 ∷ 32 ∷ 49 ∷ 52 ∷ 32 ∷ 48 ∷ 32 ∷ 48 ∷ 10 ∷ []

abbrev says30 : List ℕ
says30 = 48 ∷ 32 ∷ 51 ∷ 48 ∷ 32 ∷ 48 ∷ 32 ∷ 48 ∷ 10 ∷ []

pub under-8-bytes : file_text (1 ∷ 0 ∷ 0 ∷ 0 ∷ 0 ∷ 0 ∷ 0 ∷ []) [] ≡ says14
unfolding file_text word_at line field decimal decimal_in
under-8-bytes = refl

pub cells-before-length : file_text (1 ∷ 32 ∷ 0 ∷ 0 ∷ 0 ∷ 0 ∷ 0 ∷ 0 ∷ []) [] ≡ says30
unfolding file_text word_at line field decimal decimal_in
cells-before-length = refl

pub steps-before-length : file_text (0 ∷ 0 ∷ 0 ∷ 0 ∷ 1 ∷ 1 ∷ 0 ∷ 0 ∷ []) [] ≡ says30
unfolding file_text word_at line field decimal decimal_in
steps-before-length = refl

pub cells-missing : file_text (1 ∷ 0 ∷ 0 ∷ 0 ∷ 0 ∷ 0 ∷ 0 ∷ 0 ∷ []) [] ≡ says14
unfolding file_text word_at line field decimal decimal_in
cells-missing = refl

pub table-refused : file_text (0 ∷ 0 ∷ 0 ∷ 0 ∷ 1 ∷ 0 ∷ 0 ∷ 0 ∷ 1 ∷ 0 ∷ 0 ∷ 0 ∷ 0 ∷ 0 ∷ 0 ∷ 0 ∷ []) []
    ≡ 49 ∷ 32 ∷ 52 ∷ 48 ∷ 32 ∷ 49 ∷ 51 ∷ 53 ∷ 32 ∷ 48 ∷ 10 ∷ []
unfolding file_text lines answer_to step_answer check_pool arrays_fit table_answer and_then cells_from words_from word_at line field decimal decimal_in
table-refused = refl

pub lowest-byte-first : word_at (1 ∷ 2 ∷ 3 ∷ 4 ∷ []) 0 ≡ 67305985
unfolding word_at
lowest-byte-first = refl

pub a-line : line 12 (refused 5 30 7) ≡ 49 ∷ 50 ∷ 32 ∷ 53 ∷ 32 ∷ 51 ∷ 48 ∷ 32 ∷ 55 ∷ 10 ∷ []
unfolding line field decimal decimal_in
a-line = refl
