-- What the walk of `free_vars` says of itself: how a pair is read, what a step means, what the memo holds.
-- Rests on cells' Cell, and on Free and the enums `PairKind` and `Step`.
use Rattle.std.specs.Prelude.{ℕ, ◌+◌, ◌<◌, ◌≡◌, Bool, true, false, cond, ◌&&◌, ◌||◌, List, get_or, drop, ltb, eqb}
use Rattle.cells.specs.Cell.{sort_of, operands_of}
use Rattle.free_variables.specs.Free.{pair_in, any_of, let_values, is_free}
use Rattle.free_variables.specs.declared.pair_kind.PairKind.{PairKind}
use Rattle.free_variables.specs.declared.pair_kind.PairKind.TheVariants.{SortedVar, VarBinding}
use Rattle.free_variables.specs.declared.free_vars.Step.{Step}
use Rattle.free_variables.specs.declared.free_vars.Step.TheVariants.{Yes, No, Body, Run, Values, Let}

-- a let's pairs are variable bindings, another binder's are sorted variables
unfoldable pub pair_kind_of : ℕ → PairKind
pair_kind_of tag = cond (eqb tag 27) VarBinding SortedVar

-- the sort that a pair's second cell gives: itself, or that of the value there
unfoldable pub pair_sort : List ℕ → PairKind → ℕ → ℕ
pair_sort values SortedVar b = b
pair_sort values VarBinding b = sort_of values b

-- the pair a, b is this name with this sort
unfoldable pub is_pair : List ℕ → PairKind → ℕ → ℕ → ℕ → ℕ → Bool
is_pair values kind name sort a b = eqb a name && eqb (pair_sort values kind b) sort

-- the pairs of a run, after its body, bind the variable at v: `bound_by` and `let_binds` in one
unfoldable pub pairs_bind : List ℕ → PairKind → ℕ → List ℕ → Bool
pairs_bind values kind v run = pair_in (pair_sort values kind) (get_or values (v + 2) 0) (sort_of values v) (drop 1 run)

-- v is free in the term at u, which stands before t; false of any other place
unfoldable pub free_below : List ℕ → List ℕ → ℕ → ℕ → ℕ → Bool
free_below tags values v t u = cond (ltb u t) (is_free tags values v u) false

-- what each step at t says of the answer there
abbrev pub FreeMeans : List ℕ → List ℕ → ℕ → ℕ → Step → Type 0
FreeMeans tags values v t Yes = true ≡ is_free tags values v t
FreeMeans tags values v t No = false ≡ is_free tags values v t
FreeMeans tags values v t (Body u) = (u.0 < t) × (is_free tags values v u.0 ≡ is_free tags values v t)
FreeMeans tags values v t Run = any_of (free_below tags values v t) (operands_of tags values t) ≡ is_free tags values v t
FreeMeans tags values v t Values = any_of (free_below tags values v t) (let_values (operands_of tags values t)) ≡ is_free tags values v t
FreeMeans tags values v t (Let u) =
    (u.0 < t) × ((any_of (free_below tags values v t) (let_values (operands_of tags values t)) || is_free tags values v u.0) ≡ is_free tags values v t)

-- the memo: v is not free in a term whose entry is 1; any other entry says nothing
pub record NotFreeMemo (tags values : List ℕ) (v : ℕ) (memo : List ℕ) : Type 0 where
  pub at : (u : ℕ) → get_or memo u 0 ≡ 1 → false ≡ is_free tags values v u

-- the answer s is the one defined, and the memo left is right
pub record FreeAnswered (tags values : List ℕ) (v : ℕ) (memo : List ℕ) (s defined : Bool) : Type 0 where
  pub is : s ≡ defined
  pub right : NotFreeMemo tags values v memo
