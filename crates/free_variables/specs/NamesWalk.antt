-- What the walk that fills a table of names says of itself: what a step means, what the memo and the table hold.
-- Rests on cells' Cell, and on Free, FreeMemo, Names and the enum `FreeFrom`.
use Rattle.std.specs.Prelude.{ℕ, ◌<◌, ◌≡◌, Bool, true, false, cond, ◌||◌, List, get_or, eqb}
use Rattle.cells.specs.Cell.{operands_of}
use Rattle.free_variables.specs.Free.{any_of, let_values}
use Rattle.free_variables.specs.FreeMemo.{pair_kind_of, pairs_bind, free_below}
use Rattle.free_variables.specs.Names.{may_be_free, free_in, NamesMarked}
use Rattle.free_variables.specs.declared.term_names.FreeFrom.{FreeFrom}
use Rattle.free_variables.specs.declared.term_names.FreeFrom.TheVariants.{Nothing, Variable, Body, Run, Values, Let}

-- the variable at v is free in a term of the run that stands before t, as a test of v
unfoldable pub free_among : List ℕ → List ℕ → ℕ → List ℕ → ℕ → Bool
free_among tags values t run v = any_of (free_below tags values v t) run

-- the variables that are free in the term at t are those that pass a test
pub record Exactly (tags values : List ℕ) (t : ℕ) (test : ℕ → Bool) : Type 0 where
  pub at : (v : ℕ) → get_or tags v 0 ≡ 21 → free_in tags values t v ≡ test v

-- the variable at v is free in the body at u of the term at t, and the term's pairs do not bind it
unfoldable pub free_under : List ℕ → List ℕ → ℕ → ℕ → ℕ → Bool
free_under tags values t u v = cond (pairs_bind values (pair_kind_of (get_or tags t 0)) v (operands_of tags values t)) false (free_in tags values u v)

-- the variable at v is free in a value of the let at t, or in its body at u, and the let's pairs do not bind it
unfoldable pub free_in_let : List ℕ → List ℕ → ℕ → ℕ → ℕ → Bool
free_in_let tags values t u v = free_among tags values t (let_values (operands_of tags values t)) v || free_under tags values t u v

-- what each answer at t says of the variables that are free there
abbrev pub FreeFromMeans : List ℕ → List ℕ → ℕ → FreeFrom → Type 0
FreeFromMeans tags values t Nothing = Exactly tags values t (λ v. false)
FreeFromMeans tags values t Variable = (get_or tags t 0 ≡ 21) × Exactly tags values t (λ v. eqb v t)
FreeFromMeans tags values t (Body u) = (u.0 < t) × Exactly tags values t (free_under tags values t u.0)
FreeFromMeans tags values t Run = Exactly tags values t (free_among tags values t (operands_of tags values t))
FreeFromMeans tags values t Values = Exactly tags values t (free_among tags values t (let_values (operands_of tags values t)))
FreeFromMeans tags values t (Let u) = (u.0 < t) × Exactly tags values t (free_in_let tags values t u.0)

-- the memo: the names of a term whose entry is 1 are in the table; any other entry says nothing
pub record NamesMemo (tags values seen names : List ℕ) : Type 0 where
  pub at : (u : ℕ) → get_or seen u 0 ≡ 1 → NamesMarked tags values names (free_in tags values u)

-- a table grew: what may be free by the one may be by the other
pub record Grown (names names' : List ℕ) : Type 0 where
  pub kept : (name sort : ℕ) → may_be_free names name sort ≡ true → may_be_free names' name sort ≡ true

-- a walk from this table left a memo and a table: the memo is right, and the variables that pass a test are in the table
pub record NamesWalked (tags values names seen' names' : List ℕ) (test : ℕ → Bool) : Type 0 where
  pub grown : Grown names names'
  pub right : NamesMemo tags values seen' names'
  pub listed : NamesMarked tags values names' test
