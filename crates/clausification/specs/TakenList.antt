-- The variables that are taken out of a term in normal form, as one walk collects them: what the walk, its array and its memo promise.
-- The array and the memo are no part of a public contract.
-- Rests on bindings' Binding, and on formulas' Normal and Built.
use Rattle.std.specs.Prelude.{ℕ, ◌≤◌, ◌≡◌, true, ◌||◌, List, get_or, drop, Option, Some, None}
use Rattle.formulas.specs.Normal.{taken, takens}
use Rattle.formulas.specs.Built.{normals_of, form_at}
use Rattle.bindings.specs.Binding.{Binding, bindings_of, has}

-- the pairs that stand from k on
unfoldable pub pairs_from : List ℕ → ℕ → List Binding
pairs_from cells k = bindings_of (drop k cells)

module _ (tags values : List ℕ) where
  -- the variables that are taken out of the term at x
  unfoldable pub taken_at : ℕ → List Binding
  taken_at x = taken bindings_of (form_at tags values x)

  -- and of the terms of a run
  unfoldable pub taken_in : List ℕ → List Binding
  taken_in run = takens bindings_of (normals_of (form_at tags values) run)

-- a list has the pairs of two others, and no pair besides
pub record Joins (all some more : List Binding) : Type 0 where
  pub has-is : (a : Binding) → has all a ≡ (has some a || has more a)

-- the pairs from k on, and those of a list, stand from j on
pub record Joined (cells : List ℕ) (k : ℕ) (more : List Binding) (cells' : List ℕ) (j : ℕ) : Type 0 where
  pub within : j ≤ k
  pub joins : Joins (pairs_from cells' j) (pairs_from cells k) more

-- a list was put before the pairs from k on, or there was no room
abbrev pub PairsPut : List ℕ → ℕ → List Binding → List ℕ → Option ℕ → Type 0
PairsPut cells k more cells' (Some j) = Joined cells k more cells' j
PairsPut cells k more cells' None = Unit {0}

-- the memo: a list has every variable that is taken out of a term whose entry is 1; any other entry says nothing
pub record CollectedMemo (tags values seen : List ℕ) (list : List Binding) : Type 0 where
  pub at : (u : ℕ) → get_or seen u 0 ≡ 1 → (a : Binding) → has (taken_at tags values u) a ≡ true → has list a ≡ true

pub record Gathered (tags values cells : List ℕ) (k : ℕ) (seen' cells' : List ℕ) (more : List Binding) (j : ℕ) : Type 0 where
  pub joined : Joined cells k more cells' j
  pub right : CollectedMemo tags values seen' (pairs_from cells' j)

-- these variables stand before the pairs from k on, with a right memo, or there is no room
abbrev pub GatheredOr : List ℕ → List ℕ → List ℕ → ℕ → List ℕ → List ℕ → List Binding → Option ℕ → Type 0
GatheredOr tags values cells k seen' cells' more (Some j) = Gathered tags values cells k seen' cells' more j
GatheredOr tags values cells k seen' cells' more None = Unit {0}

-- a walk from these cells left a memo and cells, and answered r
pub record CollectedBy (tags values cells : List ℕ) (k : ℕ) (seen' cells' : List ℕ) (more : List Binding) (r : Option ℕ) : Type 0 where
  pub leaves : GatheredOr tags values cells k seen' cells' more r
