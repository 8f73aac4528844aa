-- Free variables of a tree.
-- 01, "Sorts and free variables": "a variable is name with sort; binders remove their pairs". 02, S-3: "A let's free variables now also
-- include those free in its values, as SMT-LIB 2.6 has it." SMT-LIB 2.6, 3.6.1: the let is parallel, so that its values stand outside its
-- names. The names with their values' sorts are taken from the body alone, and of a repeated name every pair; SMT-LIB shadows by name
-- alone.
-- Rests on cells' Cell, and on Term and Tree.
use Rattle.std.specs.Prelude.{ℕ, ◌+◌, Bool, true, false, not, ◌&&◌, ◌||◌, List, [], ◌∷◌, get_or}
use Rattle.cells.specs.Cell.{sort_of}
use Rattle.meaning.specs.Term.{Var, Vars, Var-discrete, Term, Terms, Lets, stated, const, bit_vector, var, app, quant, bind, letin, op, no_term, tnil, tcons, lnil, lcons}
use Rattle.meaning.specs.Tree.{sort_tree}

unfoldable pub is_yes : {A : Type 0} → Dec A → Bool
is_yes (yes a) = true
is_yes (no a) = false

-- one variable: equal names and equal sorts
unfoldable pub same : Var → Var → Bool
unfolding is_yes
same u v = is_yes (Var-discrete u v)

unfoldable pub has : Vars → Var → Bool
has [] v = false
has (u ∷ us) v = same u v || has us v

-- a let's names with their values' sorts
unfoldable pub let_vars : Lets → Vars
let_vars lnil = []
let_vars (lcons a t ls) = record { name = a; sort = stated t } ∷ let_vars ls

unfoldable mutual
  -- v is free in a term
  pub free : Term → Var → Bool
  free (const k s c) v = false
  free (bit_vector s w c) v = false
  free (var u) v = same u v
  free (app s f ts) v = free f v || frees ts v
  free (quant b s vs t) v = not (has vs v) && free t v
  free (bind k s vs t) v = not (has vs v) && free t v
  free (letin s ls t) v = free_values ls v || (not (has (let_vars ls) v) && free t v)
  free (op k s ts) v = frees ts v
  free no_term v = false

  -- v is free in one of a list
  pub frees : Terms → Var → Bool
  frees tnil v = false
  frees (tcons t ts) v = free t v || frees ts v

  -- v is free in one of a let's values
  pub free_values : Lets → Var → Bool
  free_values lnil v = false
  free_values (lcons a t ls) v = free t v || free_values ls v

-- the variable at the place v: its name and its sort
unfoldable pub var_at : List ℕ → List ℕ → ℕ → Var
var_at tags values v = record { name = get_or values (v + 2) 0; sort = sort_tree tags values (sort_of values v) }
