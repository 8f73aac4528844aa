-- The entries of the table of rules, proved by one test that is computed over the whole table.
-- Assumes nothing.
use Prim.Native.Nat.{ℕ, zero, suc, ◌+◌, ◌<◌}
use mathlib.Core.Path.{◌≡◌, refl}
use mathlib.Core.Bool.{Bool, true, false, not, ◌&&◌, cond}
use mathlib.Core.List.{List, [], ◌∷◌}
use lib.ListN.{length, get_or}
use lib.Dec.{ltb, eqb}
use native.Mathlib.Omega.{arith}
use native.Mathlib.Nat.{add-zero, suc-add, add-suc, zero-add}
use borrow.Author.Tests.{ltb-true}
use Rattle.sort_table.specs.Table.{built_in, is_bool}

-- the operator k of the built-in table: its rule is one of the eight, and Bool just where its terms have that sort
pub record Entry (k : ℕ) : Type 0 where
  pub bounded : get_or built_in k 7 < 8
  pub bool : eqb (get_or built_in k 7) 0 ≡ is_bool k

pub table-length : length built_in ≡ 135
unfolding built_in
table-length = refl

and_left : (a b : Bool) → a && b ≡ true → a ≡ true
and_left true b e = refl
and_left false b e = e

and_right : (a b : Bool) → a && b ≡ true → b ≡ true
and_right true b e = e
and_right false b e = cc

-- the test holds at each entry of a list and its position, counted from i
abbrev all_from : (ℕ → ℕ → Bool) → ℕ → List ℕ → Bool
all_from test i [] = true
all_from test i (x ∷ xs) = test i x && all_from test (suc i) xs

all-at : (test : ℕ → ℕ → Bool) (xs : List ℕ) (i : ℕ) → all_from test i xs ≡ true → (k : ℕ) → k < length xs → test (i + k) (get_or xs k 7) ≡ true
all-at test [] i e k h = absurd (omega arith)
all-at test (x ∷ xs) i e zero h = rw (add-zero i) (and_left (test i x) (all_from test (suc i) xs) e)
all-at test (x ∷ xs) i e (suc k) h =
    rw (add-suc i k, ← suc-add i k) (all-at test xs (suc i) (and_right (test i x) (all_from test (suc i) xs) e) k (omega arith))

same : Bool → Bool → Bool
same a b = cond a b (not b)

same-is : (a b : Bool) → same a b ≡ true → a ≡ b
unfolding same
same-is true true e = refl
same-is true false e = cc
same-is false true e = cc
same-is false false e = refl

-- what is to hold of the entry x of the operator k, as a test
right : ℕ → ℕ → Bool
right k x = ltb x 8 && same (eqb x 0) (is_bool k)

all_right : all_from right 0 built_in ≡ true
unfolding right same is_bool built_in
all_right = refl

pub table-entry : (k : ℕ) → k < 135 → Entry k
unfolding right
table-entry k h =
    let x = get_or built_in k 7 in
    let e : right k x ≡ true = rw (zero-add k) at (all-at right built_in 0 all_right k (omega (arith, table-length))) in
    record {
      bounded = ltb-true x 8 (and_left (ltb x 8) (same (eqb x 0) (is_bool k)) e);
      bool = same-is (eqb x 0) (is_bool k) (and_right (ltb x 8) (same (eqb x 0) (is_bool k)) e);
    }
