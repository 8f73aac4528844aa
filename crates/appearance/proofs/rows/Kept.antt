-- What is known of a table after a change at the end of its rows, and of fewer terms.
-- Assumes nothing.
use Prim.Native.Nat.{ℕ, ◌+◌, ◌/◌, ◌≤◌, ◌<◌}
use mathlib.Core.Path.{◌≡◌, ◌∙◌}
use mathlib.Core.Bool.{Bool}
use mathlib.Core.List.{List}
use lib.ListN.{length, get_or}
use native.Mathlib.Omega.{arith}
use Rattle.free_variables.specs.Names.{free_in}
use Rattle.appearance.specs.Rows.{number_of, words_of, Numbered, Holds, Grown, RowsBelow, Ready}
use Rattle.appearance.proofs.bits.Laws.{row_same}
use Rattle.appearance.proofs.rows.Numbers.{number-words}

-- a row that has grown holds what it held
pub holds-grown : (tags : List ℕ) (n : ℕ) (a : List ℕ) (to : ℕ) (a' : List ℕ) (test : ℕ → Bool) → Grown a to a' → Holds tags n a to test → Holds tags n a' to test
holds-grown tags n a to a' test s h = record { at = λ v l e t. s.bits _ (h.at v l e t) }

-- a row of the words that the variables need, all of which are kept
pub holds_kept : (tags : List ℕ) (n words : ℕ) (a a' : List ℕ) (from : ℕ) (test : ℕ → Bool) → words ≡ words_of tags n
    → ((i : ℕ) → from ≤ i → i < from + words → get_or a' i 0 ≡ get_or a i 0) → Holds tags n a from test → Holds tags n a' from test
holds_kept tags n words a a' from test w same h = record {
  at = λ v l e t.
      let k : number_of tags v / 32 < words = omega (arith, number-words tags n v l e) in
      row_same a a' from (number_of tags v) (same _ (omega arith) (omega arith)) (h.at v l e t);
}

pub numbered-kept : (tags : List ℕ) (n : ℕ) (a a' : List ℕ) → ((i : ℕ) → i < n → get_or a' i 0 ≡ get_or a i 0) → Numbered tags n a → Numbered tags n a'
numbered-kept tags n a a' same h = record { at = λ v l e. same v l ∙ h.at v l e }

module _ (tags values : List ℕ) (n words : ℕ) where
  module _ (a : List ℕ) (m next : ℕ) (s : RowsBelow tags values n words a m next) where
    pub rows-kept : (a' : List ℕ) → ((i : ℕ) → i < next → get_or a' i 0 ≡ get_or a i 0) → RowsBelow tags values n words a' m next
    rows-kept a' same = record {
      words_are = s.words_are;
      within = s.within;
      above = s.above;
      numbered = numbered-kept tags n a a' (λ i h. same i (omega (arith, s.above))) s.numbered;
      starts = λ u h k z. rw (place u h) (s.starts u h k (rw (place u h) at z));
      ends = λ u h k. rw (place u h) (s.ends u h k);
      free = λ u h k z. rw (place u h)
          (holds_kept tags n words a a' (get_or a u 0) (free_in tags values u) s.words_are
          (λ i l r. same i (omega (arith, s.ends u h k))) (s.free u h k (rw (place u h) at z)));
    }
      where
        place : (u : ℕ) → u < m → get_or a' u 0 ≡ get_or a u 0
        place u h = same u (omega (arith, s.within, s.above))

    pub rows-fewer : (m' : ℕ) → m' ≤ m → RowsBelow tags values n words a m' next
    rows-fewer m' l = record {
      words_are = s.words_are;
      within = omega (arith, s.within);
      above = s.above;
      numbered = s.numbered;
      starts = λ u h. s.starts u (omega arith);
      ends = λ u h. s.ends u (omega arith);
      free = λ u h. s.free u (omega arith);
    }

  module _ (a : List ℕ) (m to : ℕ) (s : Ready tags values n words a m to) where
    pub ready-kept : (a' : List ℕ) → length a' ≡ length a → ((i : ℕ) → i < to → get_or a' i 0 ≡ get_or a i 0) → Ready tags values n words a' m to
    ready-kept a' l same = record { rows = rows-kept a m to s.rows a' same; room = omega (arith, s.room) }

    pub ready-fewer : (m' : ℕ) → m' ≤ m → Ready tags values n words a m' to
    ready-fewer m' l = record { rows = rows-fewer a m to s.rows m' l; room = s.room }
