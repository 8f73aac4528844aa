-- Rule 5, `miniscope_split`: `(= (forall L (or ..)) (or ..))`, or with exists and `and`; each operand on the right is the left one, or the
-- left one under a quantifier over some of the pairs of L.
-- 01: "2, 11, then by operand: equal passes, else 2, 5, 8, each outer pair used at most once, also where the outer list repeats it; then
-- 12."
-- Rests on answers' Outcome, on bindings' Binding and Used, on free_pairs' BindingFree, on formulas' Pattern, and on MiniscopeDistribute.
use Rattle.std.specs.Prelude.{ℕ, Bool, true, false, cond, List, [], ◌∷◌, length, eqb}
use Rattle.answers.specs.Outcome.{Outcome, pass, ◌>>=◌, ◌>>◌, need, guard, unless}
use Rattle.bindings.specs.Binding.{Binding, first_of}
use Rattle.free_pairs.specs.BindingFree.{binding_free}
use Rattle.formulas.specs.Pattern.{quantifier, and_then}
use Rattle.bindings.specs.Used.{use_all}
use Rattle.miniscoping.specs.MiniscopeDistribute.{Sides, sides_of, or_else, of_kind}

module _ (tags values : List ℕ) where
  -- what the right operand at u, for the left operand at t, leaves of the outer pairs
  unfoldable pub split_off : Bool → List Binding → ℕ → ℕ → Outcome (List Binding)
  split_off kind rest t u = do
    q ← need 2 u 0 (and_then (quantifier tags values u) (of_kind kind))
    guard 5 t q.body (eqb t q.body)
    use_all q.list rest

  unfoldable pub split_one : Bool → List Binding → ℕ → ℕ → Outcome (List Binding)
  split_one kind rest t u = cond (eqb t u) (pass rest) (split_off kind rest t u)

  unfoldable pub split_all : Bool → List Binding → List ℕ → List ℕ → Outcome (Unit {0})
  split_all kind rest [] us = pass tt
  split_all kind rest (t ∷ ts) [] = pass tt
  split_all kind rest (t ∷ ts) (u ∷ us) = do
    left ← split_one kind rest t u
    split_all kind left ts us

-- the operands, then "12 variable still free (name, term)": the first outer pair that is free in the right side
unfoldable pub split_sides : List ℕ → List ℕ → ℕ → Sides → Outcome (Unit {0})
split_sides tags values n s = do
  split_all tags values s.kind s.list s.from s.to
  unless 12 (λ (a : Binding). a.name) s.right (first_of (binding_free tags values n s.right) s.list)

unfoldable pub miniscope_split : List ℕ → List ℕ → ℕ → ℕ → Outcome (Unit {0})
miniscope_split tags values n x = do
  s ← need 2 x 0 (or_else (sides_of tags values true 37 x) (sides_of tags values false 36 x))
  guard 11 (length s.from) (length s.to) (eqb (length s.from) (length s.to))
  split_sides tags values n s
