-- Tags in bytes: tags narrowed to numbers that fit a byte, and when two pools in lent arrays agree in all that a call looks at.
--     narrow, narrowed         one tag; a list of tags
--     first_cells, byte_tags     the cells that a call can look at; the byte array that a call on u32 tags works on
--     NarrowedInto             an array of bytes whose first k are that
--     Alike                    two pools that agree
-- S-9, "Tags in bytes": "All tags fit a byte". 01, "Pool, from src/ast/term.rs": tags go up to that of the operator `RelProduct`, and a
-- larger number is no tag. 01, "What stops a step": "30 arrays unequal, N past them or over 8,192"; new terms past the arrays or 8,192 are
-- 31. So no call looks at a cell past these.
-- Rests on cells' Limits.
use Rattle.std.specs.Prelude.{ℕ, ◌<◌, min, ◌≡◌, cond, List, map, length, get_or, take, ltb, eqb}
use Rattle.cells.specs.Limits.{cell_limit}

-- the tag of `RelProduct`
abbrev pub last_tag : ℕ
last_tag = 166

-- the byte for every number that is no tag and past the last one; it is no tag either
abbrev pub other_byte : ℕ
other_byte = 255

unfoldable pub narrow : ℕ → ℕ
narrow tag = cond (ltb last_tag tag) other_byte tag

unfoldable pub narrowed : List ℕ → List ℕ
narrowed tags = map narrow tags

unfoldable pub first_cells : List ℕ → List ℕ
first_cells cells = take cell_limit cells

abbrev pub byte_tags : List ℕ → List ℕ
byte_tags tags = narrowed (first_cells tags)

pub record NarrowedInto (tags : List ℕ) (k : ℕ) (bytes : List ℕ) : Type 0 where
  pub size : k ≡ min cell_limit (length tags)
  pub bytes-are : take k bytes ≡ byte_tags tags

-- both pairs of arrays are of one length or neither is; as many cells can be looked at; of these the values are equal, and the tags are
-- equal once narrowed. Nothing is asked of the count, and no check need pass
pub record Alike (tags values tags' values' : List ℕ) : Type 0 where
  pub sizes : eqb (length tags') (length values') ≡ eqb (length tags) (length values)
  pub room : min (length tags') cell_limit ≡ min (length tags) cell_limit
  pub tags-alike : (i : ℕ) → i < length tags → i < cell_limit → narrow (get_or tags' i 0) ≡ narrow (get_or tags i 0)
  pub values_same : (i : ℕ) → i < length tags → i < cell_limit → get_or values' i 0 ≡ get_or values i 0
