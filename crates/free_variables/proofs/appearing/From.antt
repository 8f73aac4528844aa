-- Laws of `OccursFrom`, one for each way out of `free_from`.
-- `tag`, `run` and `body` are what it read of the term at t.
-- Assumes nothing.
use Prim.Native.Nat.{ℕ, ◌≤◌, ◌<◌}
use mathlib.Core.Path.{◌≡◌, refl}
use mathlib.Core.List.{List, [], ◌∷◌, ◌++◌}
use lib.ListN.{get_or}
use native.Mathlib.Omega.{arith}
use Rattle.cells.specs.Cell.{operands_of}
use Rattle.free_variables.specs.Free.{let_values}
use Rattle.free_variables.specs.Appearing.{occurrences_at}
use Rattle.free_variables.specs.Occurs.{occurs_among, occurs_under}
use Rattle.free_variables.proofs.free_vars.Laws.{kind-let, kind-binder}
use Rattle.free_variables.specs.declared.pair_kind.PairKind.TheVariants.{SortedVar, VarBinding}
use Rattle.free_variables.proofs.appearing.Steps.{occurs-none, occurs-self, occurs-application, occurs-operator, binder-late, let-values, pairs-binder, pairs-let}

module _ (tags values : List ℕ) (t tag : ℕ) (k : tag ≡ get_or tags t 0) where
  pub from_nothing : tag < 21 → occurrences_at tags values t ≡ []
  from_nothing h = occurs-none tags values t tag k h

  pub from-variable : 21 ≤ tag → tag < 22 → occurrences_at tags values t ≡ t ∷ []
  from-variable l h = occurs-self tags values t tag k (omega arith)

  pub from-application : 22 ≤ tag → tag < 23 → occurrences_at tags values t ≡ occurs_among tags values t (operands_of tags values t)
  unfolding occurs_among
  from-application l h = occurs-application tags values t tag k (operands_of tags values t) refl (omega arith)

  pub from-operator : 28 ≤ tag → occurrences_at tags values t ≡ occurs_among tags values t (operands_of tags values t)
  unfolding occurs_among
  from-operator h = occurs-operator tags values t tag k (operands_of tags values t) refl h

  module _ (l : 23 ≤ tag) (h : tag < 28) (run : List ℕ) (o : run ≡ operands_of tags values t) (body : ℕ) (a : body ≡ get_or run 0 0) where
    module _ (y : tag ≡ 27) where
      pub from-values : t ≤ body → occurrences_at tags values t ≡ occurs_among tags values t (let_values (operands_of tags values t))
      unfolding occurs_among
      from-values g = rw (← o) (let-values tags values t tag k run o body a y g)

      pub from-let : body < t → occurrences_at tags values t ≡ occurs_among tags values t (let_values (operands_of tags values t)) ++ occurs_under tags values t body
      unfolding occurs_among occurs_under
      from-let g = rw (← o, ← k, ← kind-let tag y) (pairs-let tags values t tag k run o body a VarBinding (kind-let tag y) g refl)

    module _ (y : tag ≡ 27 → ⊥) where
      pub from-late : t ≤ body → occurrences_at tags values t ≡ []
      from-late g = binder-late tags values t tag k run o body a l (omega arith) g

      pub from-body : body < t → occurrences_at tags values t ≡ occurs_under tags values t body
      unfolding occurs_under
      from-body g = rw (← o, ← k, ← kind-binder tag y) (pairs-binder tags values t tag k run o body a SortedVar (kind-binder tag y) g l h refl)

pub ruleset occurs = (from_nothing, from-variable, from-application, from-operator, from-late, from-body, from-values, from-let)
