-- A step file's tags may be read straight into bytes, each narrowed: the answers to its steps are the same.
--     file-bytes       the tags of a file, narrowed: its words, each narrowed, and zeroes
--     file-checked     the pool check on them
--     file-answer      the answer to a step on them
-- Assumes nothing.
use Prim.Native.Nat.{ℕ, ◌-◌}
use mathlib.Core.Path.{◌≡◌}
use mathlib.Core.List.{List, [], ◌∷◌, ◌++◌}
use lib.ListN.{replicate}
use Rattle.cells.specs.Limits.{cell_limit}
use Rattle.pool.specs.Check.{check_pool}
use Rattle.rules.specs.Step.{step_answer}
use Rattle.tag_layouts.specs.Narrowed.{narrowed}
use Rattle.tag_layouts.proofs.Alike.{narrowed-padded}
use Rattle.tag_layouts.proofs.SameOutcomes.{narrowed-outcomes}
use Rattle.step_files.specs.Words.{words_from}
use Rattle.step_files.specs.StepFile.{cells_from, cell_count, file_tags, file_values, rule_of, place_of, answer_to}

pub file-bytes : (bytes : List ℕ) (start n : ℕ) → narrowed (cells_from bytes start n) ≡ narrowed (words_from bytes start n) ++ replicate (cell_limit - n) 0
unfolding cells_from
file-bytes bytes start n = narrowed-padded (words_from bytes start n) (cell_limit - n)

module _ (bytes table : List ℕ) where
  pub file-checked : check_pool (narrowed (file_tags bytes)) (file_values bytes) table (cell_count bytes)
      ≡ check_pool (file_tags bytes) (file_values bytes) table (cell_count bytes)
  file-checked = (narrowed-outcomes (file_tags bytes) (file_values bytes)).pool table (cell_count bytes)

  pub file-answer : (j : ℕ) → step_answer (narrowed (file_tags bytes)) (file_values bytes) table (cell_count bytes) (rule_of bytes j) (place_of bytes j ∷ []) ≡ answer_to bytes table j
  unfolding answer_to
  file-answer j = (narrowed-outcomes (file_tags bytes) (file_values bytes)).step table (cell_count bytes) (rule_of bytes j) (place_of bytes j ∷ [])
