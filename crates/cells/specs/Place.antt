-- A number as a place: "A term's place and a sort's place are separate types" (01, "What the Rust's pointers become").
-- Rests on the structs `TermPlace` and `SortPlace`.
use Rattle.std.specs.Prelude.{ℕ}
use Rattle.cells.specs.declared.TermPlace.{TermPlace}
use Rattle.cells.specs.declared.SortPlace.{SortPlace}

abbrev pub term_at : ℕ → TermPlace
term_at t = record { 0 = t }

abbrev pub sort_at : ℕ → SortPlace
sort_at s = record { 0 = s }
