-- Laws of marks, one for each way through the code.
-- Assumes nothing.
use Prim.Native.Nat.{ℕ, zero, suc, ◌≤◌}
use mathlib.Core.Path.{◌≡◌, refl, sym}
use mathlib.Core.Bool.{Bool, true, false}
use mathlib.Core.List.{List}
use lib.ListN.{length, get_or, set, replicate}
use lib.Seq.{set_out}
use Rattle.cells.specs.Marks.{MarkNoted}

-- ---- past the end nothing is set
pub set_past : (l : List ℕ) (i : ℕ) → length l ≤ i → l ≡ set l i 1
set_past l i h = sym (set_out l i 1 h)

-- ---- no place is marked in fresh marks
pub zeros : (k u : ℕ) → get_or {A = ℕ} (replicate k 0) u 0 ≡ 0
zeros zero u = refl
zeros (suc k) zero = refl
zeros (suc k) (suc u) = zeros k u

-- ---- noting an answer
module _ (l : List ℕ) (i : ℕ) (s : Bool) where
  pub note-yes : s ≡ true → MarkNoted l i s l true
  note-yes e = record { same = sym e; kept = rw e }

  pub note-marked : s ≡ false → (l' : List ℕ) → l' ≡ set l i 1 → MarkNoted l i s l' false
  note-marked e l' is = record { same = sym e; kept = rw e is }

pub ruleset notes = (note-yes, note-marked)
