-- A table of names, as a filter: a bucket that is not set says that no variable of that name and sort is free.
-- A name with a sort has a bucket by a hash; a bucket that is set says nothing.
-- Rests on cells' Cell and on Free.
use Rattle.std.specs.Prelude.{ℕ, ◌+◌, ◌*◌, ◌%◌, ◌≡◌, Bool, true, List, get_or, eqb}
use Rattle.cells.specs.Cell.{sort_of}
use Rattle.free_variables.specs.Free.{is_free}

-- the bucket of a name with a sort
unfoldable pub bucket_of : ℕ → ℕ → ℕ
bucket_of name sort = (name % 8191 * 31 + sort % 8191) % 8191

-- a variable with this name and sort may be free: its bucket is set, or stands past the table's end
unfoldable pub may_be_free : List ℕ → ℕ → ℕ → Bool
may_be_free names name sort = eqb (get_or names (bucket_of name sort) 1) 1

-- the variable at v is free in the term at t, as a test of v
unfoldable pub free_in : List ℕ → List ℕ → ℕ → ℕ → Bool
free_in tags values t v = is_free tags values v t

-- every variable that passes a test may be free by the table
pub record NamesMarked (tags values names : List ℕ) (test : ℕ → Bool) : Type 0 where
  pub at : (v : ℕ) → get_or tags v 0 ≡ 21 → test v ≡ true → may_be_free names (get_or values (v + 2) 0) (sort_of values v) ≡ true
