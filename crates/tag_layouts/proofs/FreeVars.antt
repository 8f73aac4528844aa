-- The free-variables call: its whole outcome, marks and all, does not tell alike pools apart.
--     free-vars-alike
-- Assumes nothing.
use Prim.Native.Nat.{ℕ}
use mathlib.Core.Path.{◌≡◌, sym, ap, ◌∙◌}
use mathlib.Core.Bool.{true}
use mathlib.Core.List.{List}
use lib.ListN.{length}
use lib.Dec.{leb, eqb}
use native.Mathlib.Omega.{arith}
use borrow.Author.Tests.{eqb-true}
use Rattle.cells.specs.ByPlace.{by-test}
use Rattle.headers.specs.WellFormed.{is_term}
use Rattle.answers.specs.declared.Answer.{Answer}
use Rattle.pool.specs.Calls.{free_answer, mark_left, FreeVars}
use Rattle.meaning.proofs.trees.Passed.{Passed, term-accepts, term-passes}
use Rattle.tag_layouts.specs.Narrowed.{Alike}
use Rattle.tag_layouts.proofs.UsedCells.{used, mark-same}
use Rattle.tag_layouts.proofs.Answers.{free-alike}

module _ (tags values tags' values' : List ℕ) (s : Alike tags values tags' values') (rules : List ℕ) (n t : ℕ) where
  free-passed : (k : ℕ) → (free_answer tags values rules n t k).code ≡ 0 → Passed tags values rules n × (is_term tags n t ≡ true)
  unfolding free_answer
  free-passed k e =
      by-test (leb n k)
      (λ o. term-passes tags values rules n t (term-accepts tags values rules n t (rw o at e)))
      (λ o. let z : ◌≡◌ {A = ℕ} 30 0 = rw o at e in absurd (omega arith))

  pub free-vars-alike : (marks : List ℕ) (r : Answer) (marks₁ : List ℕ) → FreeVars tags' values' rules n t marks r marks₁
      → FreeVars tags values rules n t marks r marks₁
  unfolding mark_left
  free-vars-alike marks r marks₁ f = record { answer = is; size = f.size; at = λ v h. f.at v h ∙ left v }
    where
      is : r ≡ free_answer tags values rules n t (length marks)
      is = f.answer ∙ free-alike tags values tags' values' s rules n t (length marks)

      left : (v : ℕ) → mark_left r tags' values' n t marks v ≡ mark_left r tags values n t marks v
      left v =
          by-test (eqb r.code 0)
          (λ o.
          let (c, h) = free-passed (length marks) (sym (ap (λ (a : Answer). a.code) is) ∙ eqb-true _ 0 o) in
          rw (mark-same c tags' values' (used tags' values' s c) t h v))
          (λ o. rw o)
