-- The free variables of a term in the order in which they appear, at the places of a pool.
--     occurrences_at tags values t     the places of the variables that occur free in the term at t, in order, with repeats
--     appearing_at tags values t       the same, each variable once
-- 02, S-6: "a list, each variable once, in the order of its first free occurrence, operands left to right, a let's values before its body.
-- An application's function precedes its arguments." 01, "Sorts and free variables": "binders remove their pairs". So a binder's pairs are
-- no occurrences, an occurrence that they bind does not count, and a let's values stand outside its names, as in Free.
-- Rests on cells' ByPlace and Cell, and on Free and Once.
use Rattle.std.specs.Prelude.{ℕ, cond, List, [], ◌∷◌, ◌++◌, get_or, ltb, eqb}
use Rattle.cells.specs.Cell.{operands_of}
use Rattle.cells.specs.ByPlace.{by_place}
use Rattle.free_variables.specs.Free.{bound_by, let_binds, let_values}
use Rattle.free_variables.specs.Once.{leave_out, firsts}

-- the lists of a run's terms, one after another
unfoldable pub joined : (ℕ → List ℕ) → List ℕ → List ℕ
joined rec [] = []
joined rec (u ∷ us) = rec u ++ joined rec us

-- of the term with this tag and operand run at t, where rec gives the lists of the terms before t
unfoldable pub occurrences_from : List ℕ → ℕ → ℕ → List ℕ → (ℕ → List ℕ) → List ℕ
occurrences_from values t tag run rec =
    cond (ltb tag 21) []  -- a sort, a constant
    (cond (ltb tag 22) (t ∷ [])  -- a variable
    (cond (ltb tag 23) (joined rec run)  -- an application: function and arguments
    (cond (ltb tag 27) (leave_out (λ v. bound_by values v run) (rec (get_or run 0 0)))  -- a binder: its body
    (cond (ltb tag 28) (joined rec (let_values run) ++ leave_out (λ v. let_binds values v run) (rec (get_or run 0 0)))
    (joined rec run)))))  -- an operator: its operands

unfoldable pub occurrences_step : List ℕ → List ℕ → ℕ → (ℕ → List ℕ) → List ℕ
occurrences_step tags values t rec = occurrences_from values t (get_or tags t 0) (operands_of tags values t) rec

unfoldable pub occurrences_at : List ℕ → List ℕ → ℕ → List ℕ
occurrences_at tags values t = by_place (occurrences_step tags values) [] t

unfoldable pub appearing_at : List ℕ → List ℕ → ℕ → List ℕ
appearing_at tags values t = firsts eqb (occurrences_at tags values t)

-- of the term at u, which stands before t; none of any other place
unfoldable pub occurrences_below : List ℕ → List ℕ → ℕ → ℕ → List ℕ
occurrences_below tags values t u = cond (ltb u t) (occurrences_at tags values u) []
