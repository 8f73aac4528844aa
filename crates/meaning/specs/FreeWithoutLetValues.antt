-- Free variables as document 01 alone has them, and the Rust: a let's are its body's, minus the let's names with their values' sorts, and
-- none of its values'.
--     free_without_let_values t v
-- 01, "Sorts and free variables". 02, S-3, counts the values besides (FreeTree); proofs/WithoutLet.antt says where the two agree.
-- Rests on Term and FreeTree.
use Rattle.std.specs.Prelude.{Bool, false, not, ◌&&◌, ◌||◌}
use Rattle.meaning.specs.Term.{Var, Term, Terms, const, bit_vector, var, app, quant, bind, letin, op, no_term, tnil, tcons}
use Rattle.meaning.specs.FreeTree.{same, has, let_vars}

unfoldable mutual
  pub free_without_let_values : Term → Var → Bool
  free_without_let_values (const k s c) v = false
  free_without_let_values (bit_vector s w c) v = false
  free_without_let_values (var u) v = same u v
  free_without_let_values (app s f ts) v = free_without_let_values f v || frees_without_let_values ts v
  free_without_let_values (quant b s vs t) v = not (has vs v) && free_without_let_values t v
  free_without_let_values (bind k s vs t) v = not (has vs v) && free_without_let_values t v
  free_without_let_values (letin s ls t) v = not (has (let_vars ls) v) && free_without_let_values t v
  free_without_let_values (op k s ts) v = frees_without_let_values ts v
  free_without_let_values no_term v = false

  -- in one of a list
  pub frees_without_let_values : Terms → Var → Bool
  frees_without_let_values tnil v = false
  frees_without_let_values (tcons t ts) v = free_without_let_values t v || frees_without_let_values ts v
