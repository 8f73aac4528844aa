-- Check 15 and adding a term: descriptions, which are a header's tag and cells.
-- 01, "Pool": "No two headers describe the same thing."
-- Rests on cells' Cell and Headers.
use Rattle.std.specs.Prelude.{ℕ, ◌+◌, ◌-◌, ◌≤◌, ◌≡◌, Bool, true, false, ◌||◌, cond, List, ◌∷◌, ◌++◌, length, get_or, take, replicate, ltb, Option, Some, None}
use Rattle.std.proofs.lemmas.List.Edits.{sets}
use Rattle.cells.specs.Cell.{cells_of, is_at}
use Rattle.cells.specs.Headers.{first_header}

-- the first header below n with this tag and these cells
unfoldable pub find : List ℕ → List ℕ → ℕ → ℕ → List ℕ → Option ℕ
find tags values n tag cells = first_header values n (λ q. is_at tags values q tag cells)

abbrev pub is_found : Option ℕ → Bool
is_found (Some p) = true
is_found None = false

-- the header at p repeats an earlier one
unfoldable pub repeats : List ℕ → List ℕ → ℕ → Bool
repeats tags values p = is_found (find tags values p (get_or tags p 0) (cells_of values p))

-- "15 repeated description (the first later place)"
unfoldable pub first_repeat : List ℕ → List ℕ → ℕ → Option ℕ
first_repeat tags values n = first_header values n (repeats tags values)

-- ---- adding a term
-- there is no room after n for a header with k cells: k does not fit a cell, or the new count would pass an array or the limit
unfoldable pub is_full : List ℕ → List ℕ → ℕ → ℕ → ℕ → Bool
is_full tags values limit n k =
    ltb 4294967295 k || (ltb (length tags) (n + 1 + k) || (ltb (length values) (n + 1 + k) || ltb limit (n + 1 + k)))

-- the place or no room, the count then, and what the two arrays then hold
pub record Adding : Type 0 where
  pub place : Option ℕ
  pub count : ℕ
  pub tags : List ℕ
  pub values : List ℕ

unfoldable pub append : List ℕ → List ℕ → ℕ → ℕ → ℕ → List ℕ → Adding
append tags values limit n tag cells =
    cond (is_full tags values limit n (length cells))
    (record { place = None; count = n; tags = tags; values = values })
    (record {
      place = Some n;
      count = n + 1 + length cells;
      tags = sets tags n (tag ∷ replicate (length cells) 0);
      values = sets values n (length cells ∷ cells);
    })

unfoldable pub found_or : List ℕ → List ℕ → ℕ → Option ℕ → Adding → Adding
found_or tags values n (Some p) new = record { place = Some p; count = n; tags = tags; values = values }
found_or tags values n None new = new

-- the place of an equal description; or the description after the count, and the new count; or no room, and nothing changed
unfoldable pub adding : List ℕ → List ℕ → ℕ → ℕ → ℕ → List ℕ → Adding
adding tags values limit n tag cells =
    found_or tags values n (find tags values n tag cells) (append tags values limit n tag cells)

-- r is the place, m the count, and tags' and values' are the arrays
pub record Added-is (tags values : List ℕ) (limit n tag : ℕ) (cells : List ℕ) (r : Option ℕ) (m : ℕ) (tags' values' : List ℕ) : Type 0 where
  pub place : r ≡ (adding tags values limit n tag cells).place
  pub count : m ≡ (adding tags values limit n tag cells).count
  pub tags-are : tags' ≡ (adding tags values limit n tag cells).tags
  pub values-are : values' ≡ (adding tags values limit n tag cells).values

-- both arrays have room after n for a header with k cells, and a cell can hold k
pub record Room (tags values : List ℕ) (n k : ℕ) : Type 0 where
  pub in-tags : n + 1 + k ≤ length tags
  pub in-values : n + 1 + k ≤ length values
  pub in_cell : k ≤ 4294967295

-- tags' and values' are the arrays with new tags and new values from i on
pub record Put (tags values : List ℕ) (i : ℕ) (new-tags new-values tags' values' : List ℕ) : Type 0 where
  pub tags-are : tags' ≡ sets tags i new-tags
  pub values-are : values' ≡ sets values i new-values

-- ---- cutting back: every cell from n on is 0
unfoldable pub zero_from : ℕ → List ℕ → List ℕ
zero_from n l = take n l ++ replicate (length l - n) 0

-- tags' and values' are the arrays cut back to n cells
pub record Cut (n : ℕ) (tags values tags' values' : List ℕ) : Type 0 where
  pub tags-are : tags' ≡ zero_from n tags
  pub values-are : values' ≡ zero_from n values
