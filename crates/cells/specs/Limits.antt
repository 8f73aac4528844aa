-- The limits of document 01. Rests on the library alone.
use Rattle.std.specs.Prelude.{ℕ}

-- "a count N of used cells, at most 8,192"
abbrev pub cell_limit : ℕ
cell_limit = 8192

-- "32 over 2,048 clauses or 8,192 literals"
abbrev pub clause_limit : ℕ
clause_limit = 2048

abbrev pub literal_limit : ℕ
literal_limit = 8192
