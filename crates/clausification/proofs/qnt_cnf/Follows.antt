-- Laws of the comparison of the right quantifier with the clauses: one for each answer, and that it reads the pool alone.
-- Assumes nothing.
use Rattle.std.specs.Prelude.{Some, None, Option}
use Prim.Native.Nat.{ℕ, ◌<◌}
use mathlib.Core.Path.{◌≡◌, refl, sym, ap, ap₂, fun_ext, ◌∙◌}
use mathlib.Core.Bool.{Bool, true, false, not, ◌&&◌}
use mathlib.Core.List.{List, [], ◌∷◌, ◌++◌}
use native.Mathlib.Omega.{arith}
use borrow.Author.Tests.{not-true, not-false}
use Rattle.cells.specs.Place.{term_at}
use Rattle.cells.specs.ByPlace.{by-test}
use Rattle.headers.specs.WellFormed.{first_bad}
use Rattle.descriptions.proofs.description.Growth.{Same}
use Rattle.formulas.specs.Normal.{taken}
use Rattle.formulas.specs.Built.{normal_at, form_at}
use Rattle.building.specs.Arrays.{normal_in}
use Rattle.answers.specs.Outcome.{Outcome, pass, refuse, ◌>>◌, guard, unless}
use Rattle.bindings.specs.Binding.{Binding, bindings_of, has, first_of}
use Rattle.free_pairs.specs.BindingFree.{binding_free}
use Rattle.bindings.specs.BindingAnswer.{name_of}
use Rattle.formulas.specs.PatternAnswer.{pairs_of}
use Rattle.bindings.proofs.Outcomes.{answers-refused, answers-accepted, unless-name, unless-none}
use Rattle.clausification.specs.QntCnf.{is_clause, any_clause, taken_from, clauses_from, left_and_taken, clause_follows}
use Rattle.clausification.specs.TakenSearch.{is_sought}
use Rattle.clausification.specs.declared.taken_search.Sought.TheVariants.{Missing}
use Rattle.clausification.specs.Promises.{forall_at, follows_in}
use Rattle.clausification.proofs.Kept.{pairs-kept, clause-kept, binding-kept}

-- ---- the first of two lists
module _ (test : Binding → Bool) (bs : List Binding) where
  first-left : (as' : List Binding) (m : ℕ) → Some m ≡ name_of (first_of test as') → Some m ≡ name_of (first_of test (as' ++ bs))
  unfolding first_of name_of
  first-left [] m e = absurd (let z : ◌≡◌ {A = ℕ} 0 1 = cc in omega arith)
  first-left (a ∷ as') m e = by-test (test a) (λ o. rw o (rw o at e)) (λ o. rw o (first-left as' m (rw o at e)))

  first-right : (as' : List Binding) → None ≡ name_of (first_of test as') → first_of test (as' ++ bs) ≡ first_of test bs
  unfolding first_of name_of
  first-right [] e = refl
  first-right (a ∷ as') e =
      by-test (test a)
      (λ o. let d : None ≡ Some a.name = rw o at e in absurd (let z : ◌≡◌ {A = ℕ} 0 1 = cc in omega arith))
      (λ o. rw o (first-right as' (rw o at e)))

-- ---- 8, 10, 9
module _ (tags values : List ℕ) (n x l r body : ℕ) (cs : List (List ℕ)) (left right : List ℕ)
    (left_is : left ≡ pairs_of tags values l) (right_is : right ≡ pairs_of tags values r)
    (f : Option ℕ) (f-is : f ≡ name_of (first_of (λ a. not (has (bindings_of left ++ taken bindings_of (form_at tags values x)) a)) (bindings_of right))) where
  pub follows-new : (m : ℕ) → f ≡ Some m → refuse 8 m 0 ≡ follows_in tags values n x l r body cs
  unfolding follows_in ◌>>◌
  follows-new m e = rw (← left_is, ← right_is, unless-name 8 0 _ m (sym e ∙ f-is))

  module _ (e : f ≡ None) (b : Bool) (b-is : b ≡ any_clause (is_clause tags values body) cs) where
    pub follows-absent : not b ≡ true → refuse 10 body 0 ≡ follows_in tags values n x l r body cs
    unfolding follows_in guard ◌>>◌
    follows-absent o = rw (← left_is, ← right_is, unless-none 8 0 _ (sym e ∙ f-is), ← b-is, not-true b o)

    module _ (o : not b ≡ false) (g : Option ℕ)
        (g-is : g ≡ name_of (first_of (λ a. not (has (bindings_of right) a) && binding_free tags values n body a) (bindings_of left))) where
      -- the last check, once the others pass
      last : follows_in tags values n x l r body cs
          ≡ unless 9 (λ (a : Binding). a.name) 0 (first_of (λ a. not (has (bindings_of right) a) && binding_free tags values n body a)
          (bindings_of left ++ taken bindings_of (form_at tags values x)))
      unfolding follows_in guard ◌>>◌
      last = rw (← left_is, ← right_is, unless-none 8 0 _ (sym e ∙ f-is), ← b-is, not-false b o)

      pub follows-missing : (m : ℕ) → g ≡ Some m → refuse 9 m 0 ≡ follows_in tags values n x l r body cs
      follows-missing m i = sym (last ∙ unless-name 9 0 _ m (first-left _ _ (bindings_of left) m (sym i ∙ g-is)))

      module _ (i : g ≡ None) (h : Option ℕ)
          (h-is : h ≡ name_of (first_of (is_sought tags values n (bindings_of right) (Missing (term_at body))) (taken bindings_of (form_at tags values x)))) where
        taken-last : follows_in tags values n x l r body cs
            ≡ unless 9 (λ (a : Binding). a.name) 0 (first_of (is_sought tags values n (bindings_of right) (Missing (term_at body))) (taken bindings_of (form_at tags values x)))
        unfolding is_sought
        taken-last = last ∙ ap (unless 9 (λ (a : Binding). a.name) 0) (first-right _ _ (bindings_of left) (sym i ∙ g-is))

        pub follows-taken : (m : ℕ) → h ≡ Some m → refuse 9 m 0 ≡ follows_in tags values n x l r body cs
        follows-taken m j = sym (taken-last ∙ unless-name 9 0 _ m (sym j ∙ h-is))

        pub follows-passes : h ≡ None → pass tt ≡ follows_in tags values n x l r body cs
        follows-passes j = sym (taken-last ∙ unless-none 9 0 _ (sym j ∙ h-is))

pub ruleset comparison = (answers-refused, answers-accepted, follows-new, follows-absent, follows-missing, follows-taken, follows-passes)

-- ---- over arrays whose first n cells are the pool's, with the left body's normal form at x
module _ (n : ℕ) (tags values tags' values' : List ℕ) (s : Same n tags values tags' values') (formed : first_bad tags values n ≡ None)
    (l left r right x : ℕ) (below-l : l < n) (below-r : r < n) (below-body : right < n)
    (form : form_at tags' values' x ≡ normal_at (normal_in tags values n left true).pool (normal_in tags values n left true).place) where
  abbrev lefts : List Binding
  lefts = bindings_of (pairs_of tags values l) ++ taken_from tags values n left

  abbrev rights : List Binding
  rights = bindings_of (pairs_of tags values r)

  abbrev follows : List (List ℕ) → (List ℕ → Bool) → (Binding → Bool) → Outcome (Unit {0})
  follows cs is-clause is-free =
      unless 8 (λ (a : Binding). a.name) 0 (first_of (λ a. not (has lefts a)) rights)
      >> (guard 10 right 0 (any_clause is-clause cs)
      >> unless 9 (λ (a : Binding). a.name) 0 (first_of (λ a. not (has rights a) && is-free a) lefts))

  pub follows-kept : (cs : List (List ℕ)) → cs ≡ clauses_from tags values n left
      → follows_in tags' values' n x l r right cs ≡ clause_follows tags values n (forall_at tags values l left) (forall_at tags values r right)
  unfolding follows_in clause_follows left_and_taken taken_from
  follows-kept cs is =
      rw (pairs-kept n tags values tags' values' s formed l below-l, pairs-kept n tags values tags' values' s formed r below-r, form, is)
      (ap₂ (follows (clauses_from tags values n left)) (fun_ext (λ c. clause-kept n tags values tags' values' s formed right below-body c))
      (fun_ext (λ a. binding-kept n tags values tags' values' s formed right below-body a)))
