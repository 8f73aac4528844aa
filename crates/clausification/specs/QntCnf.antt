-- Rule 3, `qnt_cnf`: `(or (not (forall L phi)) (forall R c))`, where c is a clause of phi.
-- 01: "form `(or (not l) r)`; 3 for each, 4 unless forall for each; 31; 13; 32; 8; 10; 9 for the first variable of the left or taken-out list
-- that is free in the clause and not bound right. A one-literal clause is the literal, a longer one an `or`."
-- Rests on answers' Outcome, on cells' Cell, on bindings' Binding, on free_pairs' BindingFree, on formulas' Formula, Pattern, Normal, Built,
-- Clauses and ClauseLists, and on building's Arrays.
use Rattle.std.specs.Prelude.{ℕ, Bool, true, false, not, ◌&&◌, ◌||◌, cond, List, [], ◌∷◌, ◌++◌, map, length, get_or, eqb, leb, Option, Some}
use Rattle.cells.specs.Cell.{operands_of, same_cells}
use Rattle.formulas.specs.Normal.{Normal, taken}
use Rattle.formulas.specs.Clauses.{cnf, empty_or, literal_total}
use Rattle.formulas.specs.Built.{normal_at}
use Rattle.formulas.specs.ClauseLists.{clause_places}
use Rattle.building.specs.Arrays.{fits, normal_in, clausal_in, clausal_form_in}
use Rattle.answers.specs.Outcome.{Outcome, ◌>>=◌, ◌>>◌, need, guard, unless}
use Rattle.bindings.specs.Binding.{Binding, bindings_of, has, first_of}
use Rattle.free_pairs.specs.BindingFree.{binding_free}
use Rattle.formulas.specs.Pattern.{Quantifier, quantifier, operator, one_of, two_of, and_then}
use Rattle.formulas.specs.Formula.{quantifier_tag}

-- `(or (not l) r)`: l and r
unfoldable pub implication : List ℕ → List ℕ → ℕ → Option (ℕ × ℕ)
implication tags values x =
    and_then (and_then (operator tags values 37 x) two_of) λ sides.
    and_then (and_then (operator tags values 34 sides.0) one_of) λ l.
    Some (l, sides.1)

-- "32 over 2,048 clauses or 8,192 literals"
unfoldable pub within_limits : List (List (Normal (List ℕ) ℕ)) → Bool
within_limits cs = leb (length cs) 2048 && leb (literal_total cs) 8192

-- the term at x is the clause of these literal places: "A one-literal clause is the literal, a longer one an `or`"
unfoldable pub is_clause : List ℕ → List ℕ → ℕ → List ℕ → Bool
is_clause tags values x c =
    cond (eqb (length c) 1) (eqb (get_or c 0 0) x) (eqb (get_or tags x 0) 37 && same_cells (operands_of tags values x) c)

-- one of the clauses passes a test
unfoldable pub any_clause : (List ℕ → Bool) → List (List ℕ) → Bool
any_clause test [] = false
any_clause test (c ∷ cs) = test c || any_clause test cs

module _ (tags values : List ℕ) (n : ℕ) where
  -- the variables taken out of the term at t, outer before inner, operands left to right: those bound by a forall that is reached "through
  -- `and`, `or` and forall from the normal form .. at true polarity"
  unfoldable pub taken_from : ℕ → List Binding
  taken_from t = taken bindings_of (normal_at (normal_in tags values n t true).pool (normal_in tags values n t true).place)

  -- the clauses of the term at t, as the places of their literals
  unfoldable pub clauses_from : ℕ → List (List ℕ)
  clauses_from t = map clause_places (cnf (clausal_form_in tags values n t))

  -- the left list, then the variables taken out
  unfoldable pub left_and_taken : Quantifier → List Binding
  left_and_taken left = left.list ++ taken_from left.body

  -- "8 new variable (name)": the first of the right list that is in neither list; "10 clause absent (place)": of the right body; "9 missing
  -- variable (name)"
  unfoldable pub clause_follows : Quantifier → Quantifier → Outcome (Unit {0})
  clause_follows left right = do
    unless 8 (λ (a : Binding). a.name) 0 (first_of (λ a. not (has (left_and_taken left) a)) right.list)
    guard 10 right.body 0 (any_clause (is_clause tags values right.body) (clauses_from left.body))
    unless 9 (λ (a : Binding). a.name) 0 (first_of (λ a. not (has right.list a) && binding_free tags values n right.body a) (left_and_taken left))

  -- 31, 13 and 32, before the clauses are looked at
  unfoldable pub clausified : Quantifier → Quantifier → Outcome (Unit {0})
  clausified left right = do
    guard 31 0 0 (fits (clausal_in tags values n left.body).pool (length tags))
    guard 13 0 0 (not (empty_or (clausal_form_in tags values n left.body)))
    guard 32 0 0 (within_limits (cnf (clausal_form_in tags values n left.body)))
    clause_follows left right

  unfoldable pub qnt_cnf : ℕ → Outcome (Unit {0})
  qnt_cnf x = do
    sides ← need 2 x 0 (implication tags values x)
    left ← need 3 sides.0 0 (quantifier tags values sides.0)
    right ← need 3 sides.1 0 (quantifier tags values sides.1)
    guard 4 23 (quantifier_tag left.kind) left.kind
    guard 4 23 (quantifier_tag right.kind) right.kind
    clausified left right
