-- An accepted step of a file is true.
--     file-follows           what `check`'s contract says of a step holds of each step of a file
--     accepted-step-true     so its conclusion is true in every reading, whatever the values are, under every table
-- Assumes what demand 3 does.
use Prim.Native.Nat.{ℕ}
use mathlib.Core.Path.{◌≡◌, refl}
use mathlib.Core.Bool.{true}
use mathlib.Core.List.{List, [], ◌∷◌}
use Rattle.meaning.specs.Term.{Term}
use Rattle.meaning.specs.Truth.{Assignment, Reading, Local, True}
use Rattle.clausification.specs.NoCapture.{NoCapture}
use Rattle.rules.specs.Step.{conclusion_term}
use Rattle.rules.proofs.Accepted.{step_follows}
use Rattle.rules.proofs.Numbered.{every-reading}
use Rattle.step_files.specs.StepFile.{cell_count, file_tags, file_values, rule_of, place_of, answer_to, StepFollows, Answered}

module _ (bytes table : List ℕ) where
  pub file-follows : (j : ℕ) → StepFollows bytes table j
  unfolding answer_to
  file-follows j = step_follows (file_tags bytes) (file_values bytes) table (cell_count bytes) (rule_of bytes j) (place_of bytes j ∷ []) (answer_to bytes table j) refl

  -- the conclusion of step j
  abbrev pub conclusion_of : ℕ → Term
  conclusion_of j = conclusion_term (file_tags bytes) (file_values bytes) table (cell_count bytes) (rule_of bytes j) (place_of bytes j ∷ [])

  pub accepted-step-true : {out out' : List ℕ} {r : ℕ} → Answered bytes table out r out' → (j : ℕ) → (answer_to bytes table j).code ≡ 0
      → (rule_of bytes j ≡ 3 → NoCapture (conclusion_of j))
      → (R : Reading) → Local R → (ρ : Assignment R.Value) → True R (conclusion_of j) ρ ≡ true
  accepted-step-true a j e premise R local ρ = every-reading (conclusion_of j) (a.follows j e premise) R local ρ
