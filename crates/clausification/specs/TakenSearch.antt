-- The search among the variables that are taken out of a term in normal form: what is sought, and what the walk and its memo promise.
-- The memo is no part of a public contract.
-- Rests on bindings' Binding and BindingAnswer, on free_pairs' BindingFree, on free_variables' Names, on formulas'
-- Normal and Built, and on the enum `Sought`.
use Rattle.std.specs.Prelude.{ℕ, ◌≡◌, Bool, not, ◌&&◌, List, get_or, set, Option, Some, None}
use Rattle.cells.specs.declared.TermPlace.{TermPlace}
use Rattle.free_variables.specs.Names.{free_in, NamesMarked}
use Rattle.formulas.specs.Normal.{taken, takens}
use Rattle.formulas.specs.Built.{normals_of, form_at}
use Rattle.bindings.specs.Binding.{Binding, bindings_of, same, has, first_of}
use Rattle.free_pairs.specs.BindingFree.{binding_free}
use Rattle.bindings.specs.BindingAnswer.{binding, name_of}
use Rattle.clausification.specs.declared.taken_search.Sought.{Sought}
use Rattle.clausification.specs.declared.taken_search.Sought.TheVariants.{Pair, Missing}

-- a pair is the one sought; or the right list lacks it, and its variable is free in the term at t
unfoldable pub is_sought : List ℕ → List ℕ → ℕ → List Binding → Sought → Binding → Bool
is_sought tags values n right (Pair v) b = same b (binding v)
is_sought tags values n right (Missing t) b = not (has right b) && binding_free tags values n t.0 b

-- the table has the names of the term where a missing variable is to be free
pub record Tabled (tags values names : List ℕ) (sought : Sought) : Type 0 where
  pub at : (t : TermPlace) → sought ≡ Missing t → NamesMarked tags values names (free_in tags values t.0)

module _ (tags values : List ℕ) (test : Binding → Bool) where
  -- the first of the variables that are taken out of the term at x
  unfoldable pub found_at : ℕ → Option ℕ
  found_at x = name_of (first_of test (taken bindings_of (form_at tags values x)))

  -- and of the terms of a run
  unfoldable pub found_in : List ℕ → Option ℕ
  found_in run = name_of (first_of test (takens bindings_of (normals_of (form_at tags values) run)))

-- the memo: nothing is found from a place whose entry is 1; any other entry says nothing
pub record SearchMemo (tags values : List ℕ) (test : Binding → Bool) (seen : List ℕ) : Type 0 where
  pub at : (u : ℕ) → get_or seen u 0 ≡ 1 → None ≡ found_at tags values test u

-- the answer r is the one defined, and the memo left is right
pub record SearchAnswered (tags values : List ℕ) (test : Binding → Bool) (seen : List ℕ) (r defined : Option ℕ) : Type 0 where
  pub is : r ≡ defined
  pub right : SearchMemo tags values test seen

-- the memo after the answer f for x: only a `None` is noted, and past the memo's end nothing is
abbrev pub after_note : Option ℕ → List ℕ → ℕ → List ℕ
after_note (Some a) seen x = seen
after_note None seen x = set seen x 1

pub record SearchNoted (seen : List ℕ) (x : ℕ) (f : Option ℕ) (after : List ℕ) (r : Option ℕ) : Type 0 where
  pub same : r ≡ f
  pub kept : after ≡ after_note f seen x
