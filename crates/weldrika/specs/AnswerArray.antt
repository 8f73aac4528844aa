-- An answer as three numbers in a lent array: the code, and the two numbers that it carries.
-- Rests on answers' struct `Answer`.
use Rattle.std.specs.Prelude.{ℕ, List, get_or}
use Rattle.answers.specs.declared.Answer.{Answer}

abbrev pub answer_in : List ℕ → Answer
answer_in cells = record { code = get_or cells 0 0; first = get_or cells 1 0; second = get_or cells 2 0 }
