-- The premises of demand 3, and what it says of an accepted conclusion.
--     TrueInReadings c     c is true in every reading whose values are numbers
-- Demand 3: "if the check accepts, the conclusion is true in every reading, under all six rules alike. Premises: a reading gives each sort
-- finitely many values, at least one; a variable is its name with its sort; a term that is no connective or quantifier has a truth value
-- fixed by its free variables' values; the step holds no let; for clausification, no variable taken out of an inner quantifier is free in
-- the left quantified formula." 02, S-3, takes one away: "A step with a let may now rest on the truth guarantee without the old premise."
-- A let is opaque, so that its truth too is fixed by its free variables' values; formulas' OneValue shows of which readings that holds.
-- Rule 3's own premise is clausification's NoCapture.
-- Rests on meaning's Term, Truth and Numbered.
use Rattle.std.specs.Prelude.{◌≡◌, true}
use Rattle.meaning.specs.Term.{Term}
use Rattle.meaning.specs.Truth.{Assignment, Local, True}
use Rattle.meaning.specs.Numbered.{Numbers, numbered}

-- "the conclusion is true in every reading": in all with numbers, and so in every one (proofs/Numbered.antt)
abbrev pub TrueInReadings : Term → Type 0
TrueInReadings c = (N : Numbers) → Local (numbered N) → (ρ : Assignment (numbered N).Value) → True (numbered N) c ρ ≡ true
