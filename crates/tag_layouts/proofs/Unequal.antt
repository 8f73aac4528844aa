-- Arrays of different lengths: every call answers 30, and nothing changes. A call on u32 tags tests this before it takes the first cells, since
-- two arrays that are both longer than cell_limit have first cells of one length.
--     pool-unequal, term-unequal, sort-unequal     the answers
--     free-unequal, step-unequal, normal-unequal, clauses-unequal     the whole outcomes
-- Assumes nothing.
use Prim.Native.Nat.{ℕ}
use mathlib.Core.Path.{◌≡◌, refl}
use mathlib.Core.Bool.{Bool, ◌&&◌}
use mathlib.Core.List.{List}
use lib.ListN.{length}
use lib.Dec.{leb, eqb}
use borrow.Author.Tests.{ne_eqb}
use Rattle.cells.specs.ByPlace.{by-test}
use Rattle.answers.specs.Answer.{bad_arrays}
use Rattle.pool.specs.Check.{arrays_fit, check_pool, and_then, check_term}
use Rattle.pool.specs.Calls.{sort_answer, free_answer, mark_left, FreeVars}
use Rattle.normal_form.specs.Calls.{array_left, normal_answer, NormalForm, clause_answer, list_left, count_left, ClauseList}
use Rattle.rules.specs.Step.{step_answer, cells_left, Step}
use Rattle.tag_layouts.proofs.Steps.{step_of}

module _ (tags values : List ℕ) (h : length tags ≡ length values → ⊥) (rules : List ℕ) (n : ℕ) where
  pub pool-unequal : check_pool tags values rules n ≡ bad_arrays
  unfolding check_pool arrays_fit
  pool-unequal = rw (ne_eqb (length tags) (length values) h)

  pub term-unequal : (t : ℕ) → check_term tags values rules n t ≡ bad_arrays
  unfolding check_term and_then
  term-unequal t = rw pool-unequal

  pub sort-unequal : (t : ℕ) → sort_answer tags values rules n t ≡ bad_arrays
  unfolding sort_answer and_then
  sort-unequal t = rw (term-unequal t)

  pub free-unequal : (t : ℕ) (marks : List ℕ) → FreeVars tags values rules n t marks bad_arrays marks
  unfolding free_answer mark_left
  free-unequal t marks = record {
    answer = rw (term-unequal t) (by-test (leb n (length marks)) (λ e. rw e) (λ e. rw e));
    size = refl;
    at = λ v l. refl;
  }

  pub step-unequal : (rule : ℕ) (conclusion : List ℕ) → Step tags values rules n rule conclusion bad_arrays tags values
  unfolding step_answer and_then cells_left
  step-unequal rule conclusion =
      step_of tags values rules n rule conclusion bad_arrays tags values (rw pool-unequal)
      (by-test (eqb rule 3) (λ e. rw e) (λ e. rw e)) (by-test (eqb rule 3) (λ e. rw e) (λ e. rw e))

  pub normal-unequal : (t : ℕ) (polarity : Bool) → NormalForm tags values rules n t polarity bad_arrays tags values
  unfolding normal_answer and_then array_left
  normal-unequal t polarity = record { answer = rw (term-unequal t); tags-are = refl; values-are = refl }

  pub clauses-unequal : (t : ℕ) (literals ends : List ℕ) → ClauseList tags values rules n t literals ends bad_arrays 0 tags values literals ends
  unfolding clause_answer and_then array_left list_left count_left
  clauses-unequal t literals ends = record {
    answer = rw (term-unequal t) (by-test (leb 8192 (length literals) && leb 2048 (length ends)) (λ e. rw e) (λ e. rw e));
    new-count = refl;
    tags-are = refl;
    values-are = refl;
    literals-are = refl;
    ends-are = refl;
  }
