-- Free variables: whether the variable at v occurs free in the term at t.
-- 01, "Sorts and free variables": "a variable is name with sort; binders remove their pairs". 02, S-3: "A let's free variables now also
-- include those free in its values, as SMT-LIB 2.6 has it" (SMT-LIB 2.6, 3.6.1: the values stand outside the let's names): those of all its
-- values, and its body's minus the let's names with their values' sorts.
-- No two headers of a checked pool describe the same thing, so that the variable v is the place v, and a sort is its place.
-- Rests on cells' ByPlace and Cell.
use Rattle.std.specs.Prelude.{ℕ, ◌+◌, ◌<◌, ◌≡◌, Bool, true, false, ◌&&◌, ◌||◌, cond, List, [], ◌∷◌, length, get_or, drop, ltb, eqb}
use Rattle.cells.specs.Cell.{sort_of, operands_of}
use Rattle.cells.specs.ByPlace.{by_place}

-- a list of pairs has this name with this sort; sort-at says which sort a pair's second cell gives
unfoldable pub pair_in : (ℕ → ℕ) → ℕ → ℕ → List ℕ → Bool
pair_in sort-at name sort [] = false
pair_in sort-at name sort (a ∷ []) = false
pair_in sort-at name sort (a ∷ (b ∷ rest)) = (eqb a name && eqb (sort-at b) sort) || pair_in sort-at name sort rest

-- forall, exists, choice, lambda: the pairs hold sorts. The run is the body and then the pairs
unfoldable pub bound_by : List ℕ → ℕ → List ℕ → Bool
bound_by values v run = pair_in (λ s. s) (get_or values (v + 2) 0) (sort_of values v) (drop 1 run)

-- let: the pairs hold values, of whose sorts the names are
unfoldable pub let_binds : List ℕ → ℕ → List ℕ → Bool
let_binds values v run = pair_in (sort_of values) (get_or values (v + 2) 0) (sort_of values v) (drop 1 run)

-- one of a list passes
unfoldable pub any_of : (ℕ → Bool) → List ℕ → Bool
any_of test [] = false
any_of test (u ∷ us) = test u || any_of test us

-- the values of a let's pairs of name and value
unfoldable pub values_in : List ℕ → List ℕ
values_in [] = []
values_in (a ∷ []) = []
values_in (a ∷ (b ∷ rest)) = b ∷ values_in rest

-- the values of a let's operand run, which is its body and then the pairs
unfoldable pub let_values : List ℕ → List ℕ
let_values run = values_in (drop 1 run)

-- under a binder: the body's, unless the pairs bind v
unfoldable pub under_pairs : (ℕ → Bool) → Bool → List ℕ → Bool
under_pairs rec bound run = cond bound false (rec (get_or run 0 0))

-- v is free in the term at t, where rec says it of the terms before t
unfoldable pub free_step : List ℕ → List ℕ → ℕ → ℕ → (ℕ → Bool) → Bool
free_step tags values v t rec =
    cond (eqb t v) true  -- the variable itself
    (cond (ltb (get_or tags t 0) 22) false  -- a constant, another variable
    (cond (ltb (get_or tags t 0) 23) (any_of rec (operands_of tags values t))  -- an application: function and arguments
    (cond (ltb (get_or tags t 0) 27) (under_pairs rec (bound_by values v (operands_of tags values t)) (operands_of tags values t))
    (cond (ltb (get_or tags t 0) 28)
    (any_of rec (let_values (operands_of tags values t)) || under_pairs rec (let_binds values v (operands_of tags values t)) (operands_of tags values t))
    (any_of rec (operands_of tags values t))))))  -- an operator: its operands

unfoldable pub is_free : List ℕ → List ℕ → ℕ → ℕ → Bool
is_free tags values v t = by_place (free_step tags values v) false t

-- the mark of the place v: 1 at a free variable of the term at t, and 0 elsewhere
unfoldable pub mark_of : List ℕ → List ℕ → ℕ → ℕ → ℕ → ℕ
mark_of tags values n t v = cond (ltb v n && (eqb (get_or tags v 0) 21 && is_free tags values v t)) 1 0

-- the marks that a lent array of k elements holds
pub record Marked (tags values : List ℕ) (n t k : ℕ) (marks : List ℕ) : Type 0 where
  pub size : length marks ≡ k
  pub at : (v : ℕ) → v < k → get_or marks v 0 ≡ mark_of tags values n t v
