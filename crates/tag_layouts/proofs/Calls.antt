-- The calls on u32 tags, one theorem for each: from the outcome of the call on bytes, and from what the code then writes, the outcome at the
-- call's own arrays. The call on bytes was lent the first k of an array of bytes, which are the narrowed first tags, and the first k values.
-- The tables of sort rules are any.
--     check-pool-call, check-term-call, sort-call, free-vars-call     these write nothing
--     normal-form-call, clause-list-call                              these build
--     normal-form-promised, clause-list-promised                      and what their cells say
--     step_call                                                       the check of a step
--     normal-form-size, clause-list-size                              they keep the length of the bytes that they were lent
--     normal-form-room, clause-list-room                              what writing back asks for
--     build-kept, build-written, step_other, step_kept, step-zeroed   what the code writes, at each way out
-- Arrays of different lengths are refused before: Unequal.antt.
-- Assumes nothing.
use Prim.Native.Nat.{ℕ, ◌-◌, min}
use mathlib.Core.Path.{◌≡◌, refl, sym, ap, ◌∙◌}
use mathlib.Core.Bool.{Bool, not, ◌&&◌, cond}
use mathlib.Core.List.{List, ◌++◌}
use lib.ListN.{length, take, drop, replicate, length-append, length-drop}
use lib.Seq.{length-take-le, take_at, take-append-le}
use lib.Dec.{eqb}
use native.Mathlib.Omega.{arith}
use borrow.Author.Tests.{eqb-true, eqb-false}
use Rattle.cells.specs.ByPlace.{by-test}
use Rattle.cells.specs.Limits.{cell_limit}
use Rattle.descriptions.specs.Description.{zero_from, Cut}
use Rattle.answers.specs.declared.Answer.{Answer}
use Rattle.pool.specs.Check.{check_pool, check_term}
use Rattle.pool.specs.Calls.{sort_answer, FreeVars}
use Rattle.formulas.specs.Built.{Placed}
use Rattle.normal_form.specs.Calls.{array_left, NormalForm, ClauseList}
use Rattle.normal_form.specs.Promise.{NormalFormPromise, ClauseListPromise}
use Rattle.normal_form.proofs.Promises.{normal-form-promise, clause-list-promise}
use Rattle.normal_form.proofs.Clausal.{zero-kept}
use Rattle.normal_form.proofs.call.Laws.{left-30}
use Rattle.rules.specs.Step.{step_answer, cells_left, Step}
use Rattle.tag_layouts.specs.Narrowed.{first_cells, byte_tags, NarrowedInto}
use Rattle.tag_layouts.specs.WrittenBack.{written_back, BackFits, tags_after, values_after, BuildWritten, StepWritten}
use Rattle.tag_layouts.specs.SameOutcomes.{SameOutcomes}
use Rattle.tag_layouts.proofs.SameOutcomes.{byte-outcomes}
use Rattle.tag_layouts.proofs.Alike.{byte-length, first-length}
use Rattle.tag_layouts.proofs.Arrays.{first-slice, first-whole, lent-part}
use Rattle.tag_layouts.proofs.WrittenBack.{zero-length}
use Rattle.tag_layouts.proofs.Building.{first-fit, Builds, array-lengths, arrays-after, normal-builds, normal-is, clauses-build, clauses-are, clauses-bytes}
use Rattle.tag_layouts.proofs.Steps.{step_of, step-fit}

-- ---- what the code writes
module _ (a : Answer) (n k : ℕ) (tags values bytes rest left : List ℕ) where
  pub build-kept : a.code ≡ 30 → BuildWritten a n k tags values bytes rest left tags (left ++ drop k values)
  build-kept e = record { kept = λ z. (refl, refl); written = λ h. absurd (h e) }

  pub build-written : (a.code ≡ 30 → ⊥) → (tags' values' : List ℕ) → tags' ≡ written_back n tags (take k (bytes ++ rest))
      → values' ≡ zero_from k (left ++ drop k values) → BuildWritten a n k tags values bytes rest left tags' values'
  build-written h tags' values' t v = record { kept = λ e. absurd (h e); written = λ z. (t, v) }

module _ (a : Answer) (rule n k : ℕ) (tags values left : List ℕ) where
  pub step_other : (rule ≡ 3 → ⊥) → StepWritten a rule n k tags values left tags (left ++ drop k values)
  step_other h = record { other = λ z. (refl, refl); kept = λ z. (refl, refl); zeroed = λ e. absurd (h e) }

  pub step_kept : a.code ≡ 30 → StepWritten a rule n k tags values left tags (left ++ drop k values)
  step_kept e = record { other = λ z. (refl, refl); kept = λ z. (refl, refl); zeroed = λ z h. absurd (h e) }

  pub step-zeroed : rule ≡ 3 → (a.code ≡ 30 → ⊥) → (tags' values' : List ℕ) → Cut n tags (left ++ drop k values) tags' values'
      → StepWritten a rule n k tags values left tags' values'
  step-zeroed e h tags' values' cut = record { other = λ z. absurd (z e); kept = λ z. absurd (h z); zeroed = λ y z. cut }

-- ---- the calls
module _ (tags values bytes : List ℕ) (z : length tags ≡ length values) (k : ℕ) (into : NarrowedInto tags k bytes) where
  first-values : take k values ≡ first_cells values
  first-values = first-slice values k (into.size ∙ ap (min cell_limit) z)

  first-size : k ≡ length (first_cells values)
  first-size = into.size ∙ (ap (min cell_limit) z ∙ sym (first-length values))

  same : SameOutcomes tags values (byte_tags tags) (first_cells values)
  same = byte-outcomes tags values z

  pub check-pool-call : (rules : List ℕ) (n : ℕ) (r : Answer) → r ≡ check_pool (take k bytes) (take k values) rules n → r ≡ check_pool tags values rules n
  check-pool-call rules n r e = (rw (into.bytes-are, first-values) at e) ∙ same.pool rules n

  pub check-term-call : (rules : List ℕ) (n t : ℕ) (r : Answer) → r ≡ check_term (take k bytes) (take k values) rules n t → r ≡ check_term tags values rules n t
  check-term-call rules n t r e = (rw (into.bytes-are, first-values) at e) ∙ same.term rules n t

  pub sort-call : (rules : List ℕ) (n t : ℕ) (r : Answer) → r ≡ sort_answer (take k bytes) (take k values) rules n t → r ≡ sort_answer tags values rules n t
  sort-call rules n t r e = (rw (into.bytes-are, first-values) at e) ∙ same.sort rules n t

  pub free-vars-call : (rules : List ℕ) (n t : ℕ) (marks : List ℕ) (r : Answer) (marks' : List ℕ)
      → FreeVars (take k bytes) (take k values) rules n t marks r marks' → FreeVars tags values rules n t marks r marks'
  free-vars-call rules n t marks r marks' f = same.free-vars rules n t marks r marks' (rw (into.bytes-are, first-values) at f)

  -- values that were lent and left as they were
  whole : (left : List ℕ) → left ≡ first_cells values → left ++ drop k values ≡ values
  whole left e = rw (e, first-size) (first-whole values)

  -- ---- calls that build
  module _ (n : ℕ) (r : Answer) (o o₀ : Placed) (b : Builds tags values n r o o₀) (left-tags left-values : List ℕ)
      (tags-left : left-tags ≡ array_left r (byte_tags tags) n o₀.pool.tags)
      (values-left : left-values ≡ array_left r (first_cells values) n o₀.pool.values) where
    tags-long : length left-tags ≡ k
    tags-long = ap length tags-left ∙ ((array-lengths tags values n r o o₀ b).0 ∙ (byte-length tags ∙ sym into.size))

    values-long : length left-values ≡ k
    values-long = ap length values-left ∙ ((array-lengths tags values n r o o₀ b).1 ∙ sym first-size)

    room : (rest : List ℕ) → (r.code ≡ 30 → ⊥) → BackFits n tags (take k (left-tags ++ rest))
    room rest h =
        let w = b.within h in
        rw (lent-part k left-tags rest tags-long)
        (record { within = omega (arith, tags-long, w.in_bytes, byte-length tags, into.size); short = omega (arith, tags-long, into.size) })

    module _ (rest tags' values' : List ℕ) (w : BuildWritten r n k tags values left-tags rest left-values tags' values') where
      tags-are : tags' ≡ array_left r tags n o.pool.tags
      unfolding tags_after
      tags-are =
          by-test (eqb r.code 30)
          (λ e. (w.kept (eqb-true _ 30 e)).0 ∙ left-30 r tags n o.pool.tags (eqb-true _ 30 e))
          (λ e.
          let after : tags_after r n tags left-tags ≡ array_left r tags n o.pool.tags = rw tags-left (arrays-after tags values n r o o₀ b).0 in
          let back : written_back n tags left-tags ≡ array_left r tags n o.pool.tags = rw e at after in
          (w.written (eqb-false _ 30 e)).0 ∙ rw (lent-part k left-tags rest tags-long) back)

      zeroes-past : left-values ++ replicate (length values - length left-values) 0 ≡ zero_from k (left-values ++ drop k values)
      unfolding zero_from
      zeroes-past =
          let e : length (left-values ++ drop k values) - k ≡ length values - length left-values =
          rw (length-append, length-drop) (omega (arith, values-long)) in
          rw (take_at left-values (drop k values) k values-long, e)

      values-are : values' ≡ array_left r values n o.pool.values
      unfolding values_after
      values-are =
          by-test (eqb r.code 30)
          (λ e.
          let e₁ : r.code ≡ 30 = eqb-true _ 30 e in
          (w.kept e₁).1
          ∙ (whole left-values (values-left ∙ sym (left-30 r (first_cells values) n o₀.pool.values e₁)) ∙ left-30 r values n o.pool.values e₁))
          (λ e.
          let after : values_after r values left-values ≡ array_left r values n o.pool.values = rw values-left (arrays-after tags values n r o o₀ b).1 in
          (w.written (eqb-false _ 30 e)).1 ∙ (sym zeroes-past ∙ (rw e at after)))

  -- ---- the normal form
  module _ (rules : List ℕ) (n t : ℕ) (polarity : Bool) (r : Answer) (left-tags left-values : List ℕ)
      (f : NormalForm (take k bytes) (take k values) rules n t polarity r left-tags left-values) where
    lent-form : NormalForm (byte_tags tags) (first_cells values) rules n t polarity r left-tags left-values
    lent-form = rw (into.bytes-are, first-values) at f

    pub normal-form-size : length left-tags ≡ k
    normal-form-size =
        let g = lent-form in
        tags-long n r _ _ (normal-builds tags values z rules n t polarity r (normal-is tags values z rules n t polarity r g.answer))
        left-tags left-values g.tags-are g.values-are

    pub normal-form-room : (rest : List ℕ) → (r.code ≡ 30 → ⊥) → BackFits n tags (take k (left-tags ++ rest))
    normal-form-room =
        let g = lent-form in
        room n r _ _ (normal-builds tags values z rules n t polarity r (normal-is tags values z rules n t polarity r g.answer))
        left-tags left-values g.tags-are g.values-are

    pub normal-form-call : (rest tags' values' : List ℕ) → BuildWritten r n k tags values left-tags rest left-values tags' values'
        → NormalForm tags values rules n t polarity r tags' values'
    normal-form-call rest tags' values' w =
        let g = lent-form in
        let is = normal-is tags values z rules n t polarity r g.answer in
        let b = normal-builds tags values z rules n t polarity r is in
        record {
          answer = is;
          tags-are = tags-are n r _ _ b left-tags left-values g.tags-are g.values-are rest tags' values' w;
          values-are = values-are n r _ _ b left-tags left-values g.tags-are g.values-are rest tags' values' w;
        }

  pub normal-form-promised : (rules : List ℕ) (n t : ℕ) (polarity : Bool) (r : Answer) (left-tags left-values : List ℕ)
      → NormalFormPromise (take k bytes) (take k values) rules n t polarity r left-tags left-values
      → (rest tags' values' : List ℕ) → BuildWritten r n k tags values left-tags rest left-values tags' values'
      → NormalFormPromise tags values rules n t polarity r tags' values'
  normal-form-promised rules n t polarity r left-tags left-values f rest tags' values' w =
      normal-form-promise (normal-form-call rules n t polarity r left-tags left-values f.cells rest tags' values' w)

  -- ---- the clause list
  module _ (rules : List ℕ) (n t : ℕ) (literals ends : List ℕ) (r : Answer) (m : ℕ) (left-tags left-values literals' ends' : List ℕ)
      (f : ClauseList (take k bytes) (take k values) rules n t literals ends r m left-tags left-values literals' ends') where
    lent-list : ClauseList (byte_tags tags) (first_cells values) rules n t literals ends r m left-tags left-values literals' ends'
    lent-list = rw (into.bytes-are, first-values) at f

    pub clause-list-size : length left-tags ≡ k
    clause-list-size =
        let g = lent-list in
        tags-long n r _ _ (clauses-build tags values z rules n t literals ends r (clauses-are tags values z rules n t (length literals) (length ends) r g.answer))
        left-tags left-values g.tags-are g.values-are

    pub clause-list-room : (rest : List ℕ) → (r.code ≡ 30 → ⊥) → BackFits n tags (take k (left-tags ++ rest))
    clause-list-room =
        let g = lent-list in
        room n r _ _ (clauses-build tags values z rules n t literals ends r (clauses-are tags values z rules n t (length literals) (length ends) r g.answer))
        left-tags left-values g.tags-are g.values-are

    pub clause-list-call : (rest tags' values' : List ℕ) → BuildWritten r n k tags values left-tags rest left-values tags' values'
        → ClauseList tags values rules n t literals ends r m tags' values' literals' ends'
    clause-list-call rest tags' values' w =
        let g = lent-list in
        let h = clauses-bytes tags values z rules n t literals ends r m left-tags left-values literals' ends' g in
        let b = clauses-build tags values z rules n t literals ends r h.answer in
        record {
          answer = h.answer;
          new-count = h.new-count;
          tags-are = tags-are n r _ _ b left-tags left-values g.tags-are g.values-are rest tags' values' w;
          values-are = values-are n r _ _ b left-tags left-values g.tags-are g.values-are rest tags' values' w;
          literals-are = h.literals-are;
          ends-are = h.ends-are;
        }

  pub clause-list-promised : (rules : List ℕ) (n t : ℕ) (literals ends : List ℕ) (r : Answer) (m : ℕ) (left-tags left-values literals' ends' : List ℕ)
      → ClauseListPromise (take k bytes) (take k values) rules n t literals ends r m left-tags left-values literals' ends'
      → (rest tags' values' : List ℕ) → BuildWritten r n k tags values left-tags rest left-values tags' values'
      → ClauseListPromise tags values rules n t literals ends r m tags' values' literals' ends'
  clause-list-promised rules n t literals ends r m left-tags left-values literals' ends' f rest tags' values' w =
      clause-list-promise (clause-list-call rules n t literals ends r m left-tags left-values literals' ends' f.cells rest tags' values' w)

  -- ---- the check of a step
  module _ (table : List ℕ) (n rule : ℕ) (conclusion : List ℕ) (r : Answer) (left-tags left-values : List ℕ)
      (f : Step (take k bytes) (take k values) table n rule conclusion r left-tags left-values)
      (tags' values' : List ℕ) (w : StepWritten r rule n k tags values left-values tags' values') where
    is : r ≡ step_answer tags values table n rule conclusion
    is = (rw (into.bytes-are, first-values) at f.answer) ∙ same.step table n rule conclusion

    left_is : left-values ≡ cond (eqb rule 3 && not (eqb r.code 30)) (zero_from n (first_cells values)) (first_cells values)
    unfolding cells_left
    left_is = rw first-values at f.values-are

    -- the values that rule 3 has zeroed from n on, with those past the first ones
    zeroed : (r.code ≡ 30 → ⊥) → left-values ≡ zero_from n (first_cells values) → zero_from n (left-values ++ drop k values) ≡ zero_from n values
    unfolding zero_from
    zeroed h e =
        let fit = first-fit tags values n (step-fit tags values table n rule conclusion r is h) in
        let long : length left-values ≡ k = ap length e ∙ (zero-length n (first_cells values) fit.in-values ∙ sym first-size) in
        zero-kept n values (left-values ++ drop k values)
        (length-append left-values (drop k values) ∙ rw length-drop (omega (arith, long)))
        (take-append-le n left-values (drop k values) (omega (arith, long, fit.in-values, first-size))
        ∙ (ap (take n) e ∙ (take_at (take n (first_cells values)) _ n (length-take-le n (first_cells values) fit.in-values) ∙ fit.front)))

    cells_are : (tags' ≡ cells_left tags values table n rule conclusion r tags) × (values' ≡ cells_left tags values table n rule conclusion r values)
    unfolding cells_left
    cells_are =
        by-test (eqb rule 3)
        (λ a. by-test (eqb r.code 30)
        (λ e.
        let (t, v) = w.kept (eqb-true _ 30 e) in
        (rw (a, e) t, rw (a, e) (v ∙ whole left-values (rw (a, e) at left_is))))
        (λ e.
        let cut = w.zeroed (eqb-true rule 3 a) (eqb-false _ 30 e) in
        (rw (a, e) cut.tags-are, rw (a, e) (cut.values-are ∙ zeroed (eqb-false _ 30 e) (rw (a, e) at left_is)))))
        (λ a.
        let (t, v) = w.other (eqb-false rule 3 a) in
        (rw a t, rw a (v ∙ whole left-values (rw a at left_is))))

    pub step_call : Step tags values table n rule conclusion r tags' values'
    step_call = step_of tags values table n rule conclusion r tags' values' is cells_are.0 cells_are.1
