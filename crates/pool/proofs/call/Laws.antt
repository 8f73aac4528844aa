-- Laws of the calls on a pool, one for each way out.
-- Assumes nothing.
use Prim.Native.Nat.{ℕ, ◌≤◌, ◌<◌}
use mathlib.Core.Path.{◌≡◌, refl, ◌∙◌}
use mathlib.Core.List.{List}
use lib.ListN.{length, replicate, get_or-replicate, length-replicate}
use borrow.Author.Tests.{le-leb, lt-leb, eq-eqb, ne_eqb}
use Rattle.answers.specs.Answer.{accepted, bad_arrays}
use Rattle.cells.specs.Cell.{sort_of}
use Rattle.free_variables.specs.Free.{Marked}
use Rattle.pool.specs.Check.{check_term}
use Rattle.pool.proofs.checks.Laws.{stop, go_on}
use Rattle.pool.specs.Calls.{sort_answer, free_answer, mark_left, FreeVars}
use Rattle.answers.specs.declared.Answer.{Answer}

-- ---- the sort of a term
module _ (tags values rules : List ℕ) (n t : ℕ) where
  module _ (a : Answer) (is : a ≡ check_term tags values rules n t) where
    pub sort-refused : (a.code ≡ 0 → ⊥) → a ≡ sort_answer tags values rules n t
    unfolding sort_answer
    sort-refused h = rw (← is) (stop a _ h)

    pub sort-is : a.code ≡ 0 → (s : ℕ) → s ≡ sort_of values t → (made : Answer) → made ≡ accepted s 0 → made ≡ sort_answer tags values rules n t
    unfolding sort_answer
    sort-is h s e made q = q ∙ rw (← is, e) (go_on a _ h)

-- ---- the free variables
module _ (tags values rules : List ℕ) (n t : ℕ) (marks : List ℕ) where
  pub marks-short : length marks < n → (made : Answer) → made ≡ bad_arrays → FreeVars tags values rules n t marks made marks
  unfolding free_answer mark_left
  marks-short h made q = record { answer = rw (lt-leb _ _ h) q; size = refl; at = λ v _. rw q }

  module _ (l : n ≤ length marks) (a : Answer) (is : a ≡ check_term tags values rules n t) where
    answered : a ≡ free_answer tags values rules n t (length marks)
    unfolding free_answer
    answered = rw (le-leb _ _ l, is)

    pub marks-kept : a.code ≡ 30 → FreeVars tags values rules n t marks a marks
    unfolding mark_left
    marks-kept h = record { answer = answered; size = refl; at = λ v _. rw (eq-eqb _ _ h) }

    module _ (h : a.code ≡ 30 → ⊥) (marks' : List ℕ) where
      pub marks-cleared : (a.code ≡ 0 → ⊥) → marks' ≡ replicate (length marks) 0 → FreeVars tags values rules n t marks a marks'
      unfolding mark_left
      marks-cleared o e = record {
        answer = answered;
        size = rw (e, length-replicate);
        at = λ v b. rw (ne_eqb _ _ h, ne_eqb _ _ o, e, get_or-replicate {A = ℕ} (length marks) v 0 0 b);
      }

      pub marks-made : a.code ≡ 0 → Marked tags values n t (length marks) marks' → FreeVars tags values rules n t marks a marks'
      unfolding mark_left
      marks-made o m = record {
        answer = answered;
        size = m.size;
        at = λ v b. rw (ne_eqb _ _ h, eq-eqb _ _ o) (m.at v b);
      }
