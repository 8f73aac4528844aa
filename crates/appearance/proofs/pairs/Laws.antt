-- Laws of `Pairs`: what `variable_of` looks up, and what of a pool whose variables are indexed its pairs say.
--     pair_place     the place that a pair's variable has, where there is one, is that of a variable with the pair's name and sort
--     not-bound      a variable that the pairs of a run do not bind is at the place of none of them
-- Assumes nothing.
use Rattle.std.specs.Prelude.{Option, Some}
use Prim.Native.Nat.{ℕ, zero, suc, ◌+◌, ◌-◌, ◌*◌, ◌/◌, ◌%◌, ◌≤◌, ◌<◌}
use mathlib.Core.Path.{◌≡◌, sym, ◌∙◌}
use mathlib.Core.Bool.{true, false, or-true}
use mathlib.Core.List.{List, [], ◌∷◌}
use lib.ListN.{length, get_or, drop, length-drop}
use lib.Seq.{get_or-drop}
use native.Mathlib.Omega.{arith}
use borrow.Author.Tests.{eq-eqb}
use Rattle.cells.specs.Cell.{sort_of}
use Rattle.descriptions.specs.Index.{look_up}
use Rattle.free_variables.specs.Free.{pair_in}
use Rattle.free_variables.specs.declared.pair_kind.PairKind.{PairKind}
use Rattle.free_variables.specs.FreeMemo.{pair_sort, pairs_bind}
use Rattle.appearance.specs.Pairs.{place_of, variable_of, IndexedVariables}
use Rattle.appearance.proofs.bits.Laws.{clash}

-- ---- the code: s is the pair's sort, f what the index has
module _ (tags values index : List ℕ) (kind : PairKind) (a b s : ℕ) (f : Option ℕ) where
  pub variable-place : s ≡ pair_sort values kind b → f ≡ look_up tags values index 21 (s ∷ a ∷ []) → f ≡ variable_of tags values index kind a b
  unfolding variable_of place_of
  variable-place e q = q ∙ rw e

-- ---- a list of pairs has the pair at j
pair-at : (sort-at : ℕ → ℕ) (name sort : ℕ) (list : List ℕ) (j : ℕ) → 2 * j + 1 < length list
    → get_or list (2 * j) 0 ≡ name → sort-at (get_or list (2 * j + 1) 0) ≡ sort → pair_in sort-at name sort list ≡ true
unfolding pair_in
pair-at sort-at name sort [] j h p q = absurd (omega arith)
pair-at sort-at name sort (a ∷ []) j h p q = absurd (omega arith)
pair-at sort-at name sort (a ∷ (b ∷ rest)) zero h p q = rw (eq-eqb a name p, eq-eqb (sort-at b) sort q)
pair-at sort-at name sort (a ∷ (b ∷ rest)) (suc j) h p q =
    let x : 2 * suc j ≡ suc (suc (2 * j)) = omega arith in
    let y : 2 * suc j + 1 ≡ suc (suc (2 * j + 1)) = omega arith in
    rw (pair-at sort-at name sort rest j (omega arith) (rw x at p) (rw y at q), or-true)

module _ (tags values : List ℕ) (n : ℕ) (index : List ℕ) (x : IndexedVariables tags values n index) where
  pub pair_place : (kind : PairKind) (a b v : ℕ) → variable_of tags values index kind a b ≡ Some v
      → (v < n) × ((get_or tags v 0 ≡ 21) × ((get_or values (v + 2) 0 ≡ a) × (sort_of values v ≡ pair_sort values kind b)))
  unfolding variable_of
  pair_place kind a b v e = x.found a (pair_sort values kind b) v e

  -- the pair that ends at i
  pub not-bound : (kind : PairKind) (run : List ℕ) (v i : ℕ) → pairs_bind values kind v run ≡ false → i % 2 ≡ 0 → 2 ≤ i → i < length run
      → variable_of tags values index kind (get_or run (i - 1) 0) (get_or run i 0) ≡ Some v → ⊥
  unfolding pairs_bind
  not-bound kind run v i e o l h q =
      let (b, (t, (p, s))) = pair_place kind (get_or run (i - 1) 0) (get_or run i 0) v q in
      let j : ℕ = (i - 2) / 2 in
      let z : 1 + 2 * j ≡ i - 1 = omega arith in
      let w : 1 + (2 * j + 1) ≡ i = omega arith in
      clash (sym e ∙ pair-at (pair_sort values kind) _ _ (drop 1 run) j (rw (length-drop 1 run) (omega arith))
      (rw (get_or-drop, z) (sym p)) (rw (get_or-drop, w) (sym s)))
