-- The ways out of a call on u32 tags, a law for each: what the code has learnt on that way gives the outcome at the call's own arrays.
--     reading-exits          pool check, check of a term, sort, free variables
--     normal-form-exits, clause-list-exits, step-exits
--     lent-parts             the lengths of the parts that are lent
-- Assumes nothing.
use Prim.Native.Nat.{ℕ, ◌≤◌}
use mathlib.Core.Path.{◌≡◌, sym, ap, ◌∙◌}
use mathlib.Core.Bool.{Bool}
use mathlib.Core.List.{List, ◌++◌}
use lib.ListN.{length, take, drop, length-append}
use lib.Seq.{length-take-le}
use native.Mathlib.Omega.{arith}
use Rattle.answers.specs.Answer.{bad_arrays}
use Rattle.answers.specs.declared.Answer.{Answer}
use Rattle.descriptions.specs.Description.{zero_from, Cut}
use Rattle.pool.specs.Check.{check_pool, check_term}
use Rattle.pool.specs.Calls.{sort_answer, FreeVars}
use Rattle.normal_form.specs.Promise.{NormalFormPromise, ClauseListPromise}
use Rattle.normal_form.proofs.Promises.{normal-form-promise, clause-list-promise}
use Rattle.rules.specs.Step.{Step}
use Rattle.tag_layouts.specs.Narrowed.{NarrowedInto}
use Rattle.tag_layouts.specs.WrittenBack.{written_back, BackFits}
use Rattle.tag_layouts.proofs.Alike.{byte-length}
use Rattle.tag_layouts.proofs.Unequal.{pool-unequal, term-unequal, sort-unequal, free-unequal, normal-unequal, clauses-unequal, step-unequal}
use Rattle.tag_layouts.proofs.Calls as calls
use Rattle.tag_layouts.proofs.Calls.{check-pool-call, check-term-call, sort-call, free-vars-call}

-- ---- arrays of different lengths
module _ (tags values : List ℕ) (r : Answer) (made : r ≡ bad_arrays) (h : length tags ≡ length values → ⊥) (n : ℕ) where
  pub pool-apart : (rules : List ℕ) → r ≡ check_pool tags values rules n
  pool-apart rules = made ∙ sym (pool-unequal tags values h rules n)

  pub term-apart : (rules : List ℕ) (t : ℕ) → r ≡ check_term tags values rules n t
  term-apart rules t = made ∙ sym (term-unequal tags values h rules n t)

  pub sort-apart : (rules : List ℕ) (t : ℕ) → r ≡ sort_answer tags values rules n t
  sort-apart rules t = made ∙ sym (sort-unequal tags values h rules n t)

  pub free-apart : (rules : List ℕ) (t : ℕ) (marks : List ℕ) → FreeVars tags values rules n t marks r marks
  free-apart rules t marks = rw made (free-unequal tags values h rules n t marks)

  pub normal-form-apart : (rules : List ℕ) (t : ℕ) (polarity : Bool) → NormalFormPromise tags values rules n t polarity r tags values
  normal-form-apart rules t polarity = rw made (normal-form-promise (normal-unequal tags values h rules n t polarity))

  pub clause-list-apart : (rules : List ℕ) (t : ℕ) (literals ends : List ℕ) → ClauseListPromise tags values rules n t literals ends r 0 tags values literals ends
  clause-list-apart rules t literals ends = rw made (clause-list-promise (clauses-unequal tags values h rules n t literals ends))

  pub step-apart : (table : List ℕ) (rule : ℕ) (conclusion : List ℕ) → Step tags values table n rule conclusion r tags values
  step-apart table rule conclusion = rw made (step-unequal tags values h table n rule conclusion)

pub ruleset reading-exits = (pool-apart, term-apart, sort-apart, free-apart, check-pool-call, check-term-call, sort-call, free-vars-call)

-- ---- arrays of one length, the first k lent
left-fits : (k : ℕ) (left rest : List ℕ) → length left ≡ k → k ≤ length (left ++ rest)
left-fits k left rest e = rw length-append (omega arith)

module _ (tags values bytes : List ℕ) (k : ℕ) (into : NarrowedInto tags k bytes) where
  pub lent-bytes : k ≡ length (take k bytes)
  lent-bytes = into.size ∙ sym (ap length into.bytes-are ∙ byte-length tags)

  module _ (z : length tags ≡ length values) where
    pub lent-values : k ≡ length (take k values)
    lent-values = sym (length-take-le k values (omega (arith, into.size)))

    -- ---- the normal form
    module _ (rules : List ℕ) (n t : ℕ) (polarity : Bool) (r : Answer) (left-tags left : List ℕ)
        (f : NormalFormPromise (take k bytes) (take k values) rules n t polarity r left-tags left) where
      pub normal-form-kept : r.code ≡ 30 → NormalFormPromise tags values rules n t polarity r tags (left ++ drop k values)
      normal-form-kept e =
          calls.normal-form-promised tags values bytes z k into rules n t polarity r left-tags left f left tags _ (calls.build-kept r n k tags values left-tags left left e)

      pub normal-form-written : (r.code ≡ 30 → ⊥) → (rest tags' values' : List ℕ) → tags' ≡ written_back n tags (take k (left-tags ++ rest))
          → values' ≡ zero_from k (left ++ drop k values) → NormalFormPromise tags values rules n t polarity r tags' values'
      normal-form-written h rest tags' values' t-are v-are =
          calls.normal-form-promised tags values bytes z k into rules n t polarity r left-tags left f rest tags' values'
          (calls.build-written r n k tags values left-tags rest left h tags' values' t-are v-are)

      -- the part of the array of bytes that was lent
      pub normal-form-left : (rest : List ℕ) → k ≤ length (left-tags ++ rest)
      normal-form-left rest = left-fits k left-tags rest (calls.normal-form-size tags values bytes z k into rules n t polarity r left-tags left f.cells)

      pub normal-form-part : (rest : List ℕ) → k ≡ length (take k (left-tags ++ rest))
      normal-form-part rest = sym (length-take-le k (left-tags ++ rest) (normal-form-left rest))

      pub normal-form-back : (r.code ≡ 30 → ⊥) → (rest : List ℕ) → BackFits n tags (take k (left-tags ++ rest))
      normal-form-back h rest = calls.normal-form-room tags values bytes z k into rules n t polarity r left-tags left f.cells rest h

    -- ---- the clause list
    module _ (rules : List ℕ) (n t : ℕ) (literals ends : List ℕ) (r : Answer) (m : ℕ) (left-tags left literals' ends' : List ℕ)
        (f : ClauseListPromise (take k bytes) (take k values) rules n t literals ends r m left-tags left literals' ends') where
      pub clause-list-kept : r.code ≡ 30 → ClauseListPromise tags values rules n t literals ends r m tags (left ++ drop k values) literals' ends'
      clause-list-kept e =
          calls.clause-list-promised tags values bytes z k into rules n t literals ends r m left-tags left literals' ends' f left tags _
          (calls.build-kept r n k tags values left-tags left left e)

      pub clause-list-written : (r.code ≡ 30 → ⊥) → (rest tags' values' : List ℕ) → tags' ≡ written_back n tags (take k (left-tags ++ rest))
          → values' ≡ zero_from k (left ++ drop k values) → ClauseListPromise tags values rules n t literals ends r m tags' values' literals' ends'
      clause-list-written h rest tags' values' t-are v-are =
          calls.clause-list-promised tags values bytes z k into rules n t literals ends r m left-tags left literals' ends' f rest tags' values'
          (calls.build-written r n k tags values left-tags rest left h tags' values' t-are v-are)

      pub clause-list-left : (rest : List ℕ) → k ≤ length (left-tags ++ rest)
      clause-list-left rest =
          left-fits k left-tags rest (calls.clause-list-size tags values bytes z k into rules n t literals ends r m left-tags left literals' ends' f.cells)

      pub clause-list-part : (rest : List ℕ) → k ≡ length (take k (left-tags ++ rest))
      clause-list-part rest = sym (length-take-le k (left-tags ++ rest) (clause-list-left rest))

      pub clause-list-back : (r.code ≡ 30 → ⊥) → (rest : List ℕ) → BackFits n tags (take k (left-tags ++ rest))
      clause-list-back h rest = calls.clause-list-room tags values bytes z k into rules n t literals ends r m left-tags left literals' ends' f.cells rest h

    -- ---- the check of a step
    module _ (table : List ℕ) (n rule : ℕ) (conclusion : List ℕ) (r : Answer) (left-tags left : List ℕ)
        (f : Step (take k bytes) (take k values) table n rule conclusion r left-tags left) where
      pub step-read : (rule ≡ 3 → ⊥) → Step tags values table n rule conclusion r tags (left ++ drop k values)
      step-read h =
          calls.step_call tags values bytes z k into table n rule conclusion r left-tags left f tags _ (calls.step_other r rule n k tags values left h)

      pub step-refused : r.code ≡ 30 → Step tags values table n rule conclusion r tags (left ++ drop k values)
      step-refused e =
          calls.step_call tags values bytes z k into table n rule conclusion r left-tags left f tags _ (calls.step_kept r rule n k tags values left e)

      pub step_cut : rule ≡ 3 → (r.code ≡ 30 → ⊥) → (tags' values' : List ℕ) → Cut n tags (left ++ drop k values) tags' values'
          → Step tags values table n rule conclusion r tags' values'
      step_cut e h tags' values' cut =
          calls.step_call tags values bytes z k into table n rule conclusion r left-tags left f tags' values'
          (calls.step-zeroed r rule n k tags values left e h tags' values' cut)

pub ruleset lent-parts = (lent-bytes, lent-values)

pub ruleset normal-form-exits = (normal-form-apart, normal-form-kept, normal-form-written, normal-form-left, normal-form-part, normal-form-back)

pub ruleset clause-list-exits = (clause-list-apart, clause-list-kept, clause-list-written, clause-list-left, clause-list-part, clause-list-back)

pub ruleset step-exits = (step-apart, step-read, step-refused, step_cut)
