-- Binding lists of quantifiers. A variable is its name with its sort; here the sort is its place.
-- Rests on the library alone.
use Rattle.std.specs.Prelude.{ℕ, Bool, true, false, ◌&&◌, ◌||◌, cond, List, [], ◌∷◌, eqb, Option, Some, None}

pub record Binding : Type 0 where
  pub name : ℕ
  pub sort : ℕ

-- "pairs of name and sort"
unfoldable pub bindings_of : List ℕ → List Binding
bindings_of [] = []
bindings_of (a ∷ []) = []
bindings_of (a ∷ (s ∷ rest)) = record { name = a; sort = s } ∷ bindings_of rest

unfoldable pub same : Binding → Binding → Bool
same a b = eqb a.name b.name && eqb a.sort b.sort

unfoldable pub has : List Binding → Binding → Bool
has [] a = false
has (b ∷ bs) a = same b a || has bs a

-- two lists are equal "only pair by pair in order"
unfoldable pub same_all : List Binding → List Binding → Bool
same_all [] [] = true
same_all [] (b ∷ bs) = false
same_all (a ∷ as') [] = false
same_all (a ∷ as') (b ∷ bs) = same a b && same_all as' bs

-- the first of a list that passes a test
unfoldable pub first_of : (Binding → Bool) → List Binding → Option Binding
first_of test [] = None
first_of test (a ∷ rest) = cond (test a) (Some a) (first_of test rest)
