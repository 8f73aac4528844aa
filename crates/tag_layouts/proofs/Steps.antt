-- The check of a step: its whole outcome, from the answer and the cells.
--     step_of      the schema and the truth of an accepted step follow from its answer
--     step-fit     a step that is not refused with 30 has arrays that fit
-- Assumes nothing.
use Prim.Native.Nat.{ℕ}
use mathlib.Core.Path.{◌≡◌}
use mathlib.Core.Bool.{true}
use mathlib.Core.List.{List}
use Rattle.cells.specs.ByPlace.{by-test}
use Rattle.answers.specs.declared.Answer.{Answer}
use Rattle.pool.specs.Check.{arrays_fit, check_pool, and_then}
use Rattle.rules.specs.Step.{step_answer, cells_left, Step}
use Rattle.rules.proofs.Accepted.{step_follows}
use Rattle.rules.proofs.Schema.{step_is}

module _ (tags values table : List ℕ) (n rule : ℕ) (conclusion : List ℕ) (r : Answer) where
  pub step_of : (tags' values' : List ℕ) → r ≡ step_answer tags values table n rule conclusion
      → tags' ≡ cells_left tags values table n rule conclusion r tags → values' ≡ cells_left tags values table n rule conclusion r values
      → Step tags values table n rule conclusion r tags' values'
  step_of tags' values' is t-are v-are = record {
    answer = is;
    tags-are = t-are;
    values-are = v-are;
    accepts = step_is tags values table n rule conclusion r is;
    follows = step_follows tags values table n rule conclusion r is;
  }

  pub step-fit : r ≡ step_answer tags values table n rule conclusion → (r.code ≡ 30 → ⊥) → arrays_fit tags values n ≡ true
  unfolding step_answer and_then check_pool
  step-fit is h = by-test (arrays_fit tags values n) (λ e. e) (λ e. absurd (h (rw (is, e))))
