-- The table of rows: the number of each variable at its place, where the row of each term with parts starts at its place, then the rows. A
-- row has bit k set where the variable with the number k is free in the term, and may have others; a term that starts at 0 has no row.
-- Rests on free_variables' Names and FreeMemo, and on Bits and Pairs.
use Rattle.std.specs.Prelude.{ℕ, zero, suc, ◌+◌, ◌/◌, ◌≤◌, ◌<◌, ◌≡◌, Bool, true, false, cond, List, length, get_or, eqb}
use Rattle.free_variables.specs.Names.{free_in}
use Rattle.free_variables.specs.declared.pair_kind.PairKind.{PairKind}
use Rattle.free_variables.specs.FreeMemo.{pairs_bind}
use Rattle.appearance.specs.Bits.{in_row}
use Rattle.appearance.specs.Pairs.{IndexedVariables}

-- how many variables stand before p: the number of the variable at p
unfoldable pub number_of : List ℕ → ℕ → ℕ
number_of tags zero = 0
number_of tags (suc p) = number_of tags p + cond (eqb (get_or tags p 0) 21) 1 0

-- the words of a row
unfoldable pub words_of : List ℕ → ℕ → ℕ
words_of tags n = number_of tags n / 32 + 1

-- the table has the numbers of the variables below n
pub record Numbered (tags : List ℕ) (n : ℕ) (table : List ℕ) : Type 0 where
  pub at : (v : ℕ) → v < n → get_or tags v 0 ≡ 21 → get_or table v 0 ≡ number_of tags v

-- the row at `from` has every variable below n that passes a test
pub record Holds (tags : List ℕ) (n : ℕ) (a : List ℕ) (from : ℕ) (test : ℕ → Bool) : Type 0 where
  pub at : (v : ℕ) → v < n → get_or tags v 0 ≡ 21 → test v ≡ true → in_row a from (number_of tags v) ≡ true

-- the row at `to` has grown: of the list all below it is kept, and of the row the bits that were set
pub record Grown (a : List ℕ) (to : ℕ) (a' : List ℕ) : Type 0 where
  pub long : length a' ≡ length a
  pub below : (i : ℕ) → i < to → get_or a' i 0 ≡ get_or a i 0
  pub bits : (k : ℕ) → in_row a to k ≡ true → in_row a' to k ≡ true

-- the row at `from` is added to the one at `to`, if it ends before that and the list has room
pub record RowAdded (a : List ℕ) (to from words : ℕ) (a' : List ℕ) : Type 0 where
  pub grown : Grown a to a'
  pub added : from + words ≤ to → to + words ≤ length a → (k : ℕ) → k / 32 < words → in_row a from k ≡ true → in_row a' to k ≡ true

-- all bits of the row at `to` are set, as far as the list goes
pub record Filled (a : List ℕ) (to words : ℕ) (a' : List ℕ) : Type 0 where
  pub grown : Grown a to a'
  pub every : (j : ℕ) → j < words → to + j < length a → get_or a' (to + j) 0 ≡ 4294967295

-- the rows of the terms below m stand from n on and below `next`, and have what is free
pub record RowsBelow (tags values : List ℕ) (n words : ℕ) (table : List ℕ) (m next : ℕ) : Type 0 where
  pub words_are : words ≡ words_of tags n
  pub within : m ≤ n
  pub above : n ≤ next
  pub numbered : Numbered tags n table
  pub starts : (u : ℕ) → u < m → 21 < get_or tags u 0 → (get_or table u 0 ≡ 0 → ⊥) → n ≤ get_or table u 0
  pub ends : (u : ℕ) → u < m → 21 < get_or tags u 0 → get_or table u 0 + words ≤ next
  pub free : (u : ℕ) → u < m → 21 < get_or tags u 0 → (get_or table u 0 ≡ 0 → ⊥) → Holds tags n table (get_or table u 0) (free_in tags values u)

-- the same, and there is room for one more row at `to`
pub record Ready (tags values : List ℕ) (n words : ℕ) (table : List ℕ) (m to : ℕ) : Type 0 where
  pub rows : RowsBelow tags values n words table m to
  pub room : to + words ≤ length table

-- what adding to the row at `to` leaves: the row has grown, and, if the rows of the terms below m are made and it is the next one, it has
-- the variables that pass a test, by the values of any pool with these tags
pub record Adds (tags : List ℕ) (words : ℕ) (a : List ℕ) (m to : ℕ) (a' : List ℕ) (test : List ℕ → ℕ → Bool) : Type 0 where
  pub grown : Grown a to a'
  pub holds : (values : List ℕ) (n : ℕ) → Ready tags values n words a m to → Holds tags n a' to (test values)

-- what taking out the pairs of a run from the row at `to` leaves: the list below it and, of a pool whose variables are indexed and
-- numbered, every variable that the pairs do not bind
pub record Drops (tags values index a : List ℕ) (to : ℕ) (a' : List ℕ) (kind : PairKind) (run : List ℕ) : Type 0 where
  pub long : length a' ≡ length a
  pub below : (i : ℕ) → i < to → get_or a' i 0 ≡ get_or a i 0
  pub kept : (n v : ℕ) → IndexedVariables tags values n index → Numbered tags n a → n ≤ to → v < n → get_or tags v 0 ≡ 21
      → pairs_bind values kind v run ≡ false → in_row a to (number_of tags v) ≡ true → in_row a' to (number_of tags v) ≡ true

-- what making the row of the term at t leaves: the list below it and, of a pool whose variables are indexed and in which it is the next
-- row, what is free in the term
pub record Makes (tags values index : List ℕ) (words : ℕ) (a : List ℕ) (to t : ℕ) (a' : List ℕ) : Type 0 where
  pub long : length a' ≡ length a
  pub below : (i : ℕ) → i < to → get_or a' i 0 ≡ get_or a i 0
  pub holds : (n : ℕ) → IndexedVariables tags values n index → Ready tags values n words a t to → 21 < get_or tags t 0 → Holds tags n a' to (free_in tags values t)

-- the whole table
pub record Rows (tags values : List ℕ) (n words : ℕ) (table : List ℕ) : Type 0 where
  pub words_are : words ≡ words_of tags n
  pub numbered : Numbered tags n table
  pub free : (u : ℕ) → u < n → 21 < get_or tags u 0 → (get_or table u 0 ≡ 0 → ⊥) → Holds tags n table (get_or table u 0) (free_in tags values u)
