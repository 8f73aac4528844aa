-- Terms that hold a let.
--     holds_let c     c is a let or reaches one
-- 01, "Truth in a reading": "A step holds a let if its conclusion is one or reaches one through operands, bodies, functions, arguments
-- and let values." A let is one, whatever its body and values reach.
-- Rests on Term.
use Rattle.std.specs.Prelude.{Bool, true, false, ◌||◌}
use Rattle.meaning.specs.Term.{Term, Terms, const, bit_vector, var, app, quant, bind, letin, op, no_term, tnil, tcons}

unfoldable mutual
  pub holds_let : Term → Bool
  holds_let (const k s c) = false
  holds_let (bit_vector s w c) = false
  holds_let (var v) = false
  holds_let (app s f ts) = holds_let f || some_holds_let ts
  holds_let (quant b s vs t) = holds_let t
  holds_let (bind k s vs t) = holds_let t
  holds_let (letin s ls t) = true
  holds_let (op k s ts) = some_holds_let ts
  holds_let no_term = false

  pub some_holds_let : Terms → Bool
  some_holds_let tnil = false
  some_holds_let (tcons t ts) = holds_let t || some_holds_let ts
