-- The cells of a pool, read off its two lists.
-- 01, "Pool": "A sort or term is a header cell (its tag, the number n of cells after it) and then n cells with tag 0. Its place
-- is its header's index." A list is read as 0 past its end, so that every definition has a value on any lists.
-- Rests on the library alone.
use Rattle.std.specs.Prelude.{ℕ, ◌+◌, Bool, true, false, ◌&&◌, cond, List, [], ◌∷◌, get_or, take, drop, ltb, eqb}

-- the n cells after the header at p
unfoldable pub cells_of : List ℕ → ℕ → List ℕ
cells_of values p = take (get_or values p 0) (drop (p + 1) values)

-- 01, "Terms, whose first cell is their sort": the sort that the term at t states
unfoldable pub sort_of : List ℕ → ℕ → ℕ
sort_of values t = get_or values (t + 1) 0

-- The operand run of the term at t, the cells after its sort: an application's function and arguments, a binder's body and pairs, an
-- operator's operands. A sort, a constant and a variable (tags below 22) have none.
unfoldable pub operands_of : List ℕ → List ℕ → ℕ → List ℕ
operands_of tags values t = cond (ltb (get_or tags t 0) 22) [] (drop 1 (cells_of values t))

-- two lists of cells are equal
unfoldable pub same_cells : List ℕ → List ℕ → Bool
same_cells [] [] = true
same_cells [] (y ∷ ys) = false
same_cells (x ∷ xs) [] = false
same_cells (x ∷ xs) (y ∷ ys) = eqb x y && same_cells xs ys

-- the header at p has this tag and these cells: its description
unfoldable pub is_at : List ℕ → List ℕ → ℕ → ℕ → List ℕ → Bool
is_at tags values p tag cells = eqb (get_or tags p 0) tag && same_cells (cells_of values p) cells
