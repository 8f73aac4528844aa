-- The free variables of a tree in the order in which they appear.
--     occurrences t     the free occurrences of t, in order, with repeats
--     appearing t       the free variables of t, each once
-- 02, S-6: "a list, each variable once, in the order of its first free occurrence, operands left to right, a let's values before its body.
-- An application's function precedes its arguments." A binder's pairs are no occurrences, an occurrence that is bound does not count, and a
-- let's values stand outside its names, as in FreeTree.
-- Rests on free_variables' Once, and on Term and FreeTree.
use Rattle.std.specs.Prelude.{Bool, cond, [], ◌∷◌, ◌++◌, Option, Some, None}
use Rattle.free_variables.specs.Once.{leave_out, firsts}
use Rattle.meaning.specs.Term.{Var, Vars, Term, Terms, Lets, const, bit_vector, var, app, quant, bind, letin, op, no_term, tnil, tcons, lnil, lcons}
use Rattle.meaning.specs.FreeTree.{same, has, let_vars}

unfoldable mutual
  pub occurrences : Term → Vars
  occurrences (const k s c) = []
  occurrences (bit_vector s w c) = []
  occurrences (var u) = u ∷ []
  occurrences (app s f ts) = occurrences f ++ occurrences_of ts
  occurrences (quant b s vs t) = leave_out (has vs) (occurrences t)
  occurrences (bind k s vs t) = leave_out (has vs) (occurrences t)
  occurrences (letin s ls t) = occurrences_in ls ++ leave_out (has (let_vars ls)) (occurrences t)
  occurrences (op k s ts) = occurrences_of ts
  occurrences no_term = []

  -- those of a list, one term after another
  pub occurrences_of : Terms → Vars
  occurrences_of tnil = []
  occurrences_of (tcons t ts) = occurrences t ++ occurrences_of ts

  -- those of a let's values
  pub occurrences_in : Lets → Vars
  occurrences_in lnil = []
  occurrences_in (lcons a t ls) = occurrences t ++ occurrences_in ls

unfoldable pub appearing : Term → Vars
appearing t = firsts same (occurrences t)

-- the first of a list that passes a test
unfoldable pub first_that : (Var → Bool) → Vars → Option Var
first_that test [] = None
first_that test (v ∷ vs) = cond (test v) (Some v) (first_that test vs)
