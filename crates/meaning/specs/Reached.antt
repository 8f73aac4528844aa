-- Whether a forall is reached in a normal form: through `and` and `or` alone.
-- 02, S-1: "a formula in which no empty `or` and no forall is reached after the normal form".
-- Rests on formulas' Normal.
use Rattle.std.specs.Prelude.{Bool, false, ◌||◌}
use Rattle.formulas.specs.Normal.{Normal, Normals, lit, nmany, nall, nnil, ncons}

module _ {B L : Type 0} where
  -- a forall reached through `and` and `or`: not one under exists, nor one in an opaque term
  abbrev mutual
    pub reaches_forall : Normal B L → Bool
    reaches_forall (lit b t) = false
    reaches_forall (nmany b ns) = reach_forall ns
    reaches_forall (nall b vs n) = b

    pub reach_forall : Normals B L → Bool
    reach_forall nnil = false
    reach_forall (ncons n ns) = reaches_forall n || reach_forall ns
