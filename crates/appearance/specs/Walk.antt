-- What the walk says of itself. The state counts for each place of a variable why it is not wanted, and has after the counts a row of what
-- is wanted. What a term adds to the places found are its free occurrences without those that are not wanted, each once.
-- Rests on cells' Cell and Limits, on descriptions' Index, on free_variables' Free, Once and Occurs, and on Bits, Pairs and Rows.
use Rattle.std.specs.Prelude.{Some, ℕ, ◌+◌, ◌-◌, ◌*◌, ◌/◌, ◌≤◌, ◌<◌, ◌≡◌, Bool, true, false, not, cond, List, [], ◌∷◌, ◌++◌, length, get_or, set, take, ltb, eqb}
use Rattle.cells.specs.Limits.{cell_limit}
use Rattle.cells.specs.Cell.{sort_of, operands_of}
use Rattle.descriptions.specs.Index.{PointsBack}
use Rattle.free_variables.specs.Free.{is_free}
use Rattle.free_variables.specs.Once.{among, leave_out, firsts}
use Rattle.free_variables.specs.Occurs.{occurs_among}
use Rattle.free_variables.specs.declared.pair_kind.PairKind.{PairKind}
use Rattle.appearance.specs.declared.compute_free_vars.Rows.{Rows}
use Rattle.appearance.specs.declared.compute_free_vars.Found.{Found}
use Rattle.appearance.specs.Bits.{in_row, with_bit, without_bit, meets}
use Rattle.appearance.specs.Pairs.{place_of, binders_of}
use Rattle.appearance.specs.Rows.{number_of}

-- a variable that is found at its own place
pub record Known (tags values index : List ℕ) (v : ℕ) : Type 0 where
  pub tag : get_or tags v 0 ≡ 21
  pub place : place_of tags values index (get_or values (v + 2) 0) (sort_of values v) ≡ Some v

-- what the walk reads of pairs: what is found is a variable's place, and the table has its number
pub record PairTable (tags values index table : List ℕ) : Type 0 where
  pub back : PointsBack index
  pub found : (name sort v : ℕ) → place_of tags values index name sort ≡ Some v
      → (v < cell_limit) × ((get_or tags v 0 ≡ 21) × ((get_or values (v + 2) 0 ≡ name) × (sort_of values v ≡ sort)))
  pub numbered : (v : ℕ) → Known tags values index v → get_or table v 0 ≡ number_of tags v

-- what the walk of the term at t reads
pub record Prepared (tags values index table : List ℕ) (words t : ℕ) : Type 0 where
  pub small : t < cell_limit
  pub pairs : PairTable tags values index table
  pub once : (v : ℕ) → v ≤ t → get_or tags v 0 ≡ 21 → place_of tags values index (get_or values (v + 2) 0) (sort_of values v) ≡ Some v
  pub short : (u : ℕ) → u ≤ t → length (operands_of tags values u) ≤ cell_limit
  pub wide : (v : ℕ) → Known tags values index v → number_of tags v / 32 < words
  pub rows : (u : ℕ) → u ≤ t → 21 < get_or tags u 0 → (get_or table u 0 ≡ 0 → ⊥) → (v : ℕ) → Known tags values index v
      → is_free tags values v u ≡ true → in_row table (get_or table u 0) (number_of tags v) ≡ true

-- one more reason why the variable at v is not wanted, and one less
unfoldable pub hide_at : List ℕ → List ℕ → ℕ → List ℕ
hide_at table state v = without_bit (set state v (get_or state v 0 + 1)) cell_limit (get_or table v 0)

unfoldable pub show_at : List ℕ → List ℕ → ℕ → List ℕ
show_at table state v =
    cond (eqb (get_or state v 0 - 1) 0)
    (with_bit (set state v (get_or state v 0 - 1)) cell_limit (get_or table v 0))
    (set state v (get_or state v 0 - 1))

-- the size of a state: a count for each place, and a row of as many bits
abbrev pub state_size : ℕ
state_size = 8449

-- a state: it has its size, and the row has every variable that is wanted
pub record Wanted (tags values index state : List ℕ) : Type 0 where
  pub size : length state ≡ state_size
  pub row : (v : ℕ) → Known tags values index v → get_or state v 0 ≡ 0 → in_row state cell_limit (number_of tags v) ≡ true

-- no count is over a limit
pub record AtMost (state : List ℕ) (limit : ℕ) : Type 0 where
  pub at : (v : ℕ) → v < cell_limit → get_or state v 0 ≤ limit

-- on the way to the term at t stand terms at higher places, each with fewer pairs than a pool has cells
abbrev pub limit_at : ℕ → ℕ
limit_at t = cell_limit * (cell_limit - t)

-- every count is higher, or lower again, by the pairs that bind the place
pub record Hid (tags values index : List ℕ) (kind : PairKind) (pairs state state' : List ℕ) : Type 0 where
  pub counts : (v : ℕ) → v < cell_limit → get_or state' v 0 ≡ get_or state v 0 + binders_of tags values index kind pairs v
  pub wanted : Wanted tags values index state'

-- every place has as many reasons as pairs that bind it
pub record Bound (tags values index : List ℕ) (kind : PairKind) (pairs state : List ℕ) : Type 0 where
  pub at : (v : ℕ) → v < cell_limit → binders_of tags values index kind pairs v ≤ get_or state v 0

pub record Shown (tags values index : List ℕ) (kind : PairKind) (pairs state state' : List ℕ) : Type 0 where
  pub counts : (v : ℕ) → v < cell_limit → get_or state' v 0 + binders_of tags values index kind pairs v ≡ get_or state v 0
  pub wanted : Wanted tags values index state'

-- the variable at v is not wanted
unfoldable pub is_hidden : List ℕ → ℕ → Bool
is_hidden state v = not (eqb (get_or state v 0) 0)

-- what a list of occurrences adds: those that are wanted, each once
unfoldable pub new_in : List ℕ → List ℕ → List ℕ
new_in state occurrences = firsts eqb (leave_out (is_hidden state) occurrences)

-- what is found in a list of occurrences, from `len` places found on: the new places are appended while there is room, and counted
pub record Gathered (state found : List ℕ) (len : ℕ) (occurrences state' found' : List ℕ) (len' : ℕ) : Type 0 where
  pub within : len' ≤ length found'
  pub places : take len' found' ≡ take (length found) (take len found ++ new_in state occurrences)
  pub counts : (v : ℕ) → v < cell_limit → get_or state' v 0 ≡ get_or state v 0 + cond (among eqb (new_in state occurrences) v) 1 0

-- the variable at t is appended and hidden, if it is wanted
pub record Noted (table state found : List ℕ) (len t : ℕ) (state' found' : List ℕ) (len' : ℕ) : Type 0 where
  pub within : len' ≤ length found'
  pub places : take len' found' ≡ take (length found) (take len found ++ new_in state (t ∷ []))
  pub left : state' ≡ cond (is_hidden state t) state (hide_at table state t)

-- by its row, nothing that is wanted is free in the term at t; a leaf and a term without a row say nothing
unfoldable pub has_none : List ℕ → List ℕ → ℕ → List ℕ → ℕ → Bool
has_none tags table words state t =
    cond (ltb (get_or tags t 0) 22) false
    (cond (eqb (get_or table t 0) 0) false
    (not (meets table (get_or table t 0) state cell_limit words)))

-- a walk over these occurrences
pub record Walked (tags values index state found : List ℕ) (len : ℕ) (occurrences state' found' : List ℕ) (len' : ℕ) : Type 0 where
  pub gathered : Gathered state found len occurrences state' found' len'
  pub wanted : Wanted tags values index state'

-- a walk along a run, of which `rest` is left
pub record Going (tags values index state₀ found₀ : List ℕ) (len₀ t : ℕ) (total rest state found : List ℕ) (len : ℕ) : Type 0 where
  pub done : List ℕ
  pub split : total ≡ done ++ occurs_among tags values t rest
  pub long : length found ≡ length found₀
  pub walked : Walked tags values index state₀ found₀ len₀ done state found len

-- what a walker asks for
pub record Ask (tags values index table : List ℕ) (words : ℕ) (state found : List ℕ) (len t : ℕ) : Type 0 where
  pub prepared : Prepared tags values index table words t
  pub wanted : Wanted tags values index state
  pub few : AtMost state (limit_at t)
  pub room : len ≤ length found

-- a list stands at the front of an array
pub record Places (places found : List ℕ) (len : ℕ) : Type 0 where
  pub within : len ≤ length found
  pub are : take len found ≡ places

-- a state of which nothing is hidden yet
pub record Fresh (state : List ℕ) : Type 0 where
  pub size : length state ≡ state_size
  pub zeroes : (v : ℕ) → get_or state v 0 ≡ 0

-- the same, of the walk's structs
abbrev pub Asks : List ℕ → List ℕ → Rows → Found → ℕ → Type 0
Asks tags values rows found t = Ask tags values rows.index.now rows.table.now rows.words found.state.now found.places.now found.len t

abbrev pub Finds : List ℕ → List ℕ → Rows → Found → List ℕ → Found → Type 0
Finds tags values rows before occurrences after =
    Walked tags values rows.index.now before.state.now before.places.now before.len occurrences after.state.now after.places.now after.len

-- the walk's arrays are those that they were
pub record SameArrays (before after : Found) : Type 0 where
  pub state : after.state.ghost_name ≡ before.state.ghost_name
  pub places : after.places.ghost_name ≡ before.places.ghost_name
  pub long : length after.places.now ≡ length before.places.now
