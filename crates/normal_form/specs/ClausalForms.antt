-- The two forms of a body that rule 3 goes by, as they are built one after the other.
-- Rests on cells' struct `TermPlace`, on formulas' Built, on building's Arrays and Walk, and on the struct `ClausalForms`.
use Rattle.std.specs.Prelude.{Option, Some, None, ℕ, ◌≡◌, true, List, length}
use Rattle.cells.specs.declared.TermPlace.{TermPlace}
use Rattle.formulas.specs.Built.{taken_out_form}
use Rattle.building.specs.Arrays.{pool_of, normal_in, clausal_in}
use Rattle.building.specs.Walk.{NormalBuilt}
use Rattle.normal_form.specs.declared.clausal_forms.ClausalForms.{ClausalForms}

-- the forms of the term at t: the normal form at x, with m cells in use, is built first, and leaves tags₁ and values₁; the other one at
-- y, with k cells in use
pub record Both (n t : ℕ) (tags values : List ℕ) (x : TermPlace) (m : ℕ) (y : TermPlace) (k : ℕ) (tags' values' : List ℕ) : Type 0 where
  pub tags₁ : List ℕ
  pub values₁ : List ℕ
  pub normal : NormalBuilt n tags values (normal_in tags values n t true) (Some (x, m)) tags₁ values₁
  pub taken : NormalBuilt m tags₁ values₁ (taken_out_form (pool_of tags₁ values₁ m) x.0) (Some (y, k)) tags' values'
  pub first-tags : length tags₁ ≡ length tags
  pub first-values : length values₁ ≡ length values
  pub tags-size : length tags' ≡ length tags
  pub values-size : length values' ≡ length values

-- both forms, or no room for the second
abbrev pub FormsBuilt : ℕ → ℕ → List ℕ → List ℕ → Option ClausalForms → List ℕ → List ℕ → Type 0
FormsBuilt n t tags values (Some f) tags' values' = Both n t tags values f.normal f.normal_count f.taken_out f.count tags' values'
FormsBuilt n t tags values None tags' values' = NormalBuilt n tags values (clausal_in tags values n t) None tags' values'
