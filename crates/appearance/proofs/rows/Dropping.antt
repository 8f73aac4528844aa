-- Taking the variables that pairs bind out of a row: the loop of `drop_pairs`, at a cell whose place is even.
-- Assumes nothing.
use Rattle.std.specs.Prelude.{Option, Some}
use Prim.Native.Nat.{ℕ, ◌+◌, ◌-◌, ◌%◌, ◌≤◌, ◌<◌}
use mathlib.Core.Path.{◌≡◌, sym, ◌∙◌}
use mathlib.Core.Bool.{false}
use mathlib.Core.List.{List}
use lib.ListN.{length, get_or}
use native.Mathlib.Omega.{arith}
use Rattle.free_variables.specs.declared.pair_kind.PairKind.{PairKind}
use Rattle.free_variables.specs.FreeMemo.{pairs_bind}
use Rattle.appearance.specs.Bits.{without_bit}
use Rattle.appearance.specs.Pairs.{variable_of, IndexedVariables}
use Rattle.appearance.specs.Rows.{number_of, Numbered, Drops}
use Rattle.appearance.proofs.bits.Laws.{without-long, without_other, without-keeps}
use Rattle.appearance.proofs.pairs.Laws.{pair_place, not-bound}
use Rattle.appearance.proofs.rows.Numbers.{number-injective}

pub record Dropping (tags values index a₀ : List ℕ) (to : ℕ) (a : List ℕ) (kind : PairKind) (run : List ℕ) (i : ℕ) : Type 0 where
  pub even : i % 2 ≡ 0
  pub start : 2 ≤ i
  pub drops : Drops tags values index a₀ to a kind run

module _ (tags values index a₀ : List ℕ) (to : ℕ) (kind : PairKind) (run : List ℕ)
    (a : List ℕ) (i : ℕ) (s : Dropping tags values index a₀ to a kind run i) where
  module _ (h : i < length run) (f : Option ℕ) (is : f ≡ variable_of tags values index kind (get_or run (i - 1) 0) (get_or run i 0))
      (w : ℕ) (q : f ≡ Some w) (k : ℕ) (o : k ≡ get_or a w 0) where
    -- the bit that is cleared is of no variable that the pairs do not bind
    other-bit : (n v : ℕ) → IndexedVariables tags values n index → Numbered tags n a₀ → n ≤ to → get_or tags v 0 ≡ 21
        → pairs_bind values kind v run ≡ false → number_of tags v ≡ k → ⊥
    other-bit n v x r l e p z =
        let y : variable_of tags values index kind (get_or run (i - 1) 0) (get_or run i 0) ≡ Some w = sym is ∙ q in
        let (b, (t, g)) = pair_place tags values n index x kind (get_or run (i - 1) 0) (get_or run i 0) w y in
        let m : k ≡ number_of tags w = o ∙ s.drops.below w (omega arith) ∙ r.at w b t in
        let j : v ≡ w = number-injective tags v w e t (z ∙ m) in
        not-bound tags values n index x kind run v i p s.even s.start h (rw j y)

    pub drop-one : (a' : List ℕ) → a' ≡ without_bit a to k → Dropping tags values index a₀ to a' kind run (i + 2)
    drop-one a' c = rw c (record {
      even = omega (arith, s.even);
      start = omega arith;
      drops = record {
        long = without-long a to k ∙ s.drops.long;
        below = λ j b. without_other a to k j (λ z. omega arith) ∙ s.drops.below j b;
        kept = λ n v x r l g e p b. without-keeps a to k (number_of tags v) (other-bit n v x r l e p) (s.drops.kept n v x r l g e p b);
      };
    })

  pub drop-end : Drops tags values index a₀ to a kind run
  drop-end = s.drops
