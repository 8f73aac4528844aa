-- No answer of a public call tells alike pools apart.
--     term-alike, sort-alike, free-alike, step-alike, normal-alike, clause-alike     the answers
--     after-pool, after-term     what comes after the pool check, and after the check of a term, for answers to come
-- Assumes nothing.
use Prim.Native.Nat.{ℕ, ◌<◌}
use mathlib.Core.Path.{◌≡◌, sym, ap, ◌∙◌}
use mathlib.Core.Bool.{Bool, true, ◌&&◌, cond}
use mathlib.Core.List.{List}
use lib.ListN.{get_or}
use lib.Dec.{leb, eqb}
use native.Mathlib.Omega.{arith}
use borrow.Author.Tests.{eqb-true}
use Rattle.cells.specs.ByPlace.{by-test}
use Rattle.cells.specs.Cell.{sort_of}
use Rattle.headers.specs.WellFormed.{is_sort_tag, is_term_tag, is_term}
use Rattle.answers.specs.Answer.{bad_arrays}
use Rattle.answers.specs.declared.Answer.{Answer}
use Rattle.pool.specs.Check.{check_pool, and_then, check_term}
use Rattle.pool.specs.Calls.{sort_answer, free_answer}
use Rattle.meaning.specs.Term.{stated}
use Rattle.meaning.proofs.trees.Passed.{Passed, pool-passes, pool-accepts, term-accepts, term-passes, one-sort, sort-of-term, sort-place-of}
use Rattle.meaning.proofs.places.SameTree.{sort-kept, tree-kept}
use Rattle.meaning.proofs.patterns.Trees.{term-below}
use Rattle.normal_form.specs.Calls.{normal_answer, clause_answer}
use Rattle.normal_form.proofs.Passes.{passed-checks}
use Rattle.rules.specs.Step.{step_answer}
use Rattle.tag_layouts.specs.Narrowed.{Alike}
use Rattle.tag_layouts.proofs.PoolCheck.{pool-alike}
use Rattle.tag_layouts.proofs.UsedCells.{used, term-same}
use Rattle.tag_layouts.proofs.Rules.{rule-same}

module _ (tags values tags' values' : List ℕ) (s : Alike tags values tags' values') (rules : List ℕ) (n : ℕ) where
  pub after-pool : (next next' : Answer) → (Passed tags values rules n → next' ≡ next)
      → and_then (check_pool tags' values' rules n) next' ≡ and_then (check_pool tags values rules n) next
  unfolding and_then
  after-pool next next' f =
      rw (pool-alike tags values tags' values' s rules n)
      (by-test (eqb (check_pool tags values rules n).code 0)
      (λ e. rw (e, f (pool-passes tags values rules n (pool-accepts tags values rules n (eqb-true _ 0 e)))))
      (λ e. rw e))

  pub term-alike : (t : ℕ) → check_term tags' values' rules n t ≡ check_term tags values rules n t
  unfolding check_term
  term-alike t = after-pool _ _ (λ c. rw (term-same c tags' values' (used tags' values' s c) t))

  pub after-term : (t : ℕ) (next next' : Answer) → (Passed tags values rules n → is_term tags n t ≡ true → next' ≡ next)
      → and_then (check_term tags' values' rules n t) next' ≡ and_then (check_term tags values rules n t) next
  unfolding and_then
  after-term t next next' f =
      rw (term-alike t)
      (by-test (eqb (check_term tags values rules n t).code 0)
      (λ e. let (c, h) = term-passes tags values rules n t (term-accepts tags values rules n t (eqb-true _ 0 e)) in rw (e, f c h))
      (λ e. rw e))

  -- ---- the sort: sorts are read as trees, and a sort has one place
  pub passed-alike : Passed tags values rules n → Passed tags' values' rules n
  passed-alike c = pool-passes tags' values' rules n (pool-alike tags values tags' values' s rules n ∙ passed-checks tags values rules n c)

  sort-place-same : Passed tags values rules n → (t : ℕ) → is_term tags n t ≡ true → sort_of values' t ≡ sort_of values t
  sort-place-same c t h =
      let u = used tags' values' s c in
      let c' = passed-alike c in
      let (l, m) = term-below c t h in
      let m' : is_term_tag (get_or tags' t 0) ≡ true = rw (u.same.tags-same t l) m in
      let (a, b) = sort-place-of c t l m in
      let (a', b') = sort-place-of c' t l m' in
      let w : sort_of values' t < n = omega arith in
      let b'' : is_sort_tag (get_or tags (sort_of values' t) 0) ≡ true = rw (u.same.tags-same (sort_of values' t) w) at b' in
      one-sort c (sort_of values' t) (sort_of values t) w (omega arith) b'' b
      (sym (sort-kept n tags values tags' values' u.same c.formed (sort_of values' t) w b'')
      ∙ (sym (sort-of-term c' t l m') ∙ (ap stated (tree-kept n tags values tags' values' u.same c.formed t l m) ∙ sort-of-term c t l m)))

  pub sort-alike : (t : ℕ) → sort_answer tags' values' rules n t ≡ sort_answer tags values rules n t
  unfolding sort_answer
  sort-alike t = after-term t _ _ (λ c h. rw (sort-place-same c t h))

  pub free-alike : (t k : ℕ) → free_answer tags' values' rules n t k ≡ free_answer tags values rules n t k
  unfolding free_answer
  free-alike t k = rw (term-alike t)

  pub step-alike : (rule : ℕ) (conclusion : List ℕ) → step_answer tags' values' rules n rule conclusion ≡ step_answer tags values rules n rule conclusion
  unfolding step_answer
  step-alike rule conclusion =
      after-pool _ _ (λ c.
      let u = used tags' values' s c in
      rw (term-same c tags' values' u (get_or conclusion 0 0))
      (by-test (is_term tags n (get_or conclusion 0 0)) (λ e. rw (e, rule-same c tags' values' u rule (get_or conclusion 0 0) e)) (λ e. rw e)))

  -- ---- calls that build: they are defined on the used cells and the room
  pub normal-alike : (t : ℕ) (polarity : Bool) → normal_answer tags' values' rules n t polarity ≡ normal_answer tags values rules n t polarity
  unfolding normal_answer
  normal-alike t polarity =
      after-term t _ _ (λ c h. let u = used tags' values' s c in rw (u.tags-used, u.values-used, u.room))

  pub clause-alike : (t l e : ℕ) → clause_answer tags' values' rules n t l e ≡ clause_answer tags values rules n t l e
  unfolding clause_answer
  clause-alike t l e =
      ap (λ (a : Answer). cond (leb 8192 l && leb 2048 e) a bad_arrays)
      (after-term t _ _ (λ c h. let u = used tags' values' s c in rw (u.tags-used, u.values-used, u.room)))
