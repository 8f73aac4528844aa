-- What noting an answer in marks comes to.
-- Rests on the library alone.
use Rattle.std.specs.Prelude.{ℕ, ◌≡◌, Bool, cond, List, set}

-- noting the answer s for a place hands it back as r, and marks the place of a no; past the end nothing is marked
pub record MarkNoted (marks : List ℕ) (place : ℕ) (s : Bool) (after : List ℕ) (r : Bool) : Type 0 where
  pub same : r ≡ s
  pub kept : after ≡ cond s marks (set marks place 1)
