-- What the functions of rule 3 promise each other.
-- Rests on answers' Outcome, Refusal and enum `Refusal`, on the library's `Result`, on bindings' Binding, on descriptions' Description, on
-- free_pairs' BindingFree, on pool's Check, on formulas' Pattern, Normal, Built and PatternAnswer, on building's Walk, and on QntCnf.
use Rattle.std.specs.Prelude.{Result, ℕ, ◌<◌, ◌≡◌, true, not, ◌&&◌, List, ◌++◌}
use Rattle.formulas.specs.Built.{form_at}
use Rattle.descriptions.specs.Description.{zero_from}
use Rattle.pool.specs.Check.{check_pool}
use Rattle.answers.specs.Refusal.{answer_of_check}
use Rattle.answers.specs.declared.refusal.Refusal.{Refusal}
use Rattle.formulas.specs.Normal.{taken}
use Rattle.building.specs.Walk.{Left}
use Rattle.answers.specs.Outcome.{Outcome, ◌>>◌, guard, unless, answer_of}
use Rattle.bindings.specs.Binding.{Binding, bindings_of, has, first_of}
use Rattle.free_pairs.specs.BindingFree.{binding_free}
use Rattle.formulas.specs.Pattern.{Quantifier}
use Rattle.formulas.specs.PatternAnswer.{pairs_of, with_list}
use Rattle.clausification.specs.QntCnf.{is_clause, any_clause, qnt_cnf}

-- the forall at x, whose body is this
abbrev pub forall_at : List ℕ → List ℕ → ℕ → ℕ → Quantifier
forall_at tags values x body = with_list true (bindings_of (pairs_of tags values x)) body

-- the list of the quantifier at l, then the variables taken out of the term in normal form at x
abbrev pub left_in : List ℕ → List ℕ → ℕ → ℕ → List Binding
left_in tags values l x = bindings_of (pairs_of tags values l) ++ taken bindings_of (form_at tags values x)

-- `clause_follows` over any arrays: 8, 10 and 9 for the right quantifier at r with its body, against the clauses cs
unfoldable pub follows_in : List ℕ → List ℕ → ℕ → ℕ → ℕ → ℕ → ℕ → List (List ℕ) → Outcome (Unit {0})
follows_in tags values n x l r body cs = do
  unless 8 (λ (a : Binding). a.name) 0 (first_of (λ a. not (has (left_in tags values l x) a)) (bindings_of (pairs_of tags values r)))
  guard 10 body 0 (any_clause (is_clause tags values body) cs)
  unless 9 (λ (a : Binding). a.name) 0
      (first_of (λ a. not (has (bindings_of (pairs_of tags values r)) a) && binding_free tags values n body a) (left_in tags values l x))

-- the places of two quantifiers, at l and r, and of their bodies in a pool that has passed its checks
pub record ForallSides (tags values : List ℕ) (n l left r right : ℕ) : Type 0 where
  pub table : List ℕ
  pub passed : (check_pool tags values table n).code ≡ 0
  pub left-place : l < n
  pub left_body : left < n
  pub right-place : r < n
  pub right-body : right < n

-- the answer of a check, which leaves the pool's cells as they are
pub record Leaves (n : ℕ) (tags values : List ℕ) (o : Outcome (Unit {0})) (r : Result (Unit {0}) Refusal) (tags' values' : List ℕ) : Type 0 where
  pub answer : answer_of_check r ≡ answer_of o
  pub left : Left n tags values tags' values'

-- the rule's answer r; "`qnt_cnf` .. zeroes those past N with every answer"
pub record Clausified (tags values : List ℕ) (n x : ℕ) (r : Result (Unit {0}) Refusal) (tags' values' : List ℕ) : Type 0 where
  pub answer : answer_of_check r ≡ answer_of (qnt_cnf tags values n x)
  pub tags-are : tags' ≡ zero_from n tags
  pub values-are : values' ≡ zero_from n values
