-- Sorts as trees.
-- 01, "Pool": the sorts and their tags. SMT-LIB 2.6, section 3.5 (Sorts): a sort is a symbol, or a symbol applied to sorts.
-- Rests on the library alone.
use Rattle.std.specs.Prelude.{ℕ}
use Rattle.std.proofs.Math.Decide.{ℕ_discrete}

mutual
  pub data Sort : Type 0 where
    bool : Sort  -- 1 Bool
    int : Sort  -- 2 Int
    real : Sort  -- 3 Real
    string : Sort  -- 4 String
    reglan : Sort  -- 5 RegLan
    param_bit_vec : Sort  -- 6 ParamBitVec
    bit_vec : ℕ → Sort  -- 7 BitVec (width)
    sort_var : ℕ → Sort  -- 8 Var (name)
    atom : ℕ → Sorts → Sort  -- 9 Atom (name, sorts)
    function : Sorts → Sort  -- 10 Function (sorts): the arguments' and then the result's
    array : Sort → Sort → Sort  -- 11 Array (two sorts)
    set : Sort → Sort  -- 12 Set (sort)
    tuple : Sorts → Sort  -- 13 Tuple (sorts)
    no_sort : Sort  -- what stands at a place that is no sort's
    deriving Discrete as Sort-discrete-from

  pub data Sorts : Type 0 where
    snil : Sorts
    scons : Sort → Sorts → Sorts

-- equality of sorts, decided
unfoldable pub Sort-discrete : Discrete Sort
Sort-discrete = Sort-discrete-from ℕ_discrete
