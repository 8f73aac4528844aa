-- What a refusal says: 01's number and the two numbers that it carries; and what a check that may be refused says.
-- 01, "What stops a step".
-- Rests on Answer, Outcome and the enum `Refusal`.
use Rattle.std.specs.Prelude.{Result, Ok, Err}
use Rattle.answers.specs.Answer.{accepted, refused, ill_formed, repeated, wrong_sort, not_a_term, bad_arrays, bad_table, not_bool}
use Rattle.answers.specs.Outcome.{Outcome, pass, refuse}
use Rattle.answers.specs.declared.Answer.{Answer}
use Rattle.answers.specs.declared.refusal.Refusal.{Refusal}
use Rattle.answers.specs.declared.refusal.Refusal.TheVariants.{ConclusionCount, WrongForm, NoQuantifier, OtherQuantifier, TermsDiffer, ListsDiffer, NotJoined, NewVariable, MissingVariable, ClauseAbsent, OperandCounts, StillFree, EmptyOr, IllFormed, Repeated, WrongSort, NotATerm, UnknownRule, BadArrays, NoRoom, TooManyClauses, BadTable, NotBool}

abbrev pub answer_to : Refusal → Answer
answer_to (ConclusionCount found) = refused 1 found 0
answer_to (WrongForm x) = refused 2 x.0 0
answer_to (NoQuantifier x) = refused 3 x.0 0
answer_to (OtherQuantifier wanted found) = refused 4 wanted found
answer_to (TermsDiffer x y) = refused 5 x.0 y.0
answer_to (ListsDiffer x y) = refused 6 x.0 y.0
answer_to (NotJoined left right) = refused 7 left.0 right.0
answer_to (NewVariable name) = refused 8 name 0
answer_to (MissingVariable name) = refused 9 name 0
answer_to (ClauseAbsent x) = refused 10 x.0 0
answer_to (OperandCounts wanted found) = refused 11 wanted found
answer_to (StillFree name x) = refused 12 name x.0
answer_to EmptyOr = refused 13 0 0
answer_to (IllFormed p) = ill_formed p
answer_to (Repeated p) = repeated p
answer_to (WrongSort p) = wrong_sort p
answer_to (NotATerm x) = not_a_term x.0
answer_to (UnknownRule code) = refused 18 code 0
answer_to BadArrays = bad_arrays
answer_to NoRoom = refused 31 0 0
answer_to TooManyClauses = refused 32 0 0
answer_to (BadTable entry) = bad_table entry
answer_to (NotBool entry) = not_bool entry

-- the answer of a check
abbrev pub answer_of_check : Result (Unit {0}) Refusal → Answer
answer_of_check (Ok u) = accepted 0 0
answer_of_check (Err r) = answer_to r

-- a check that passes gives a
abbrev pub outcome_of : {A : Type 0} → Result (Unit {0}) Refusal → A → Outcome A
outcome_of (Ok u) a = pass a
outcome_of (Err r) a = refuse (answer_to r).code (answer_to r).first (answer_to r).second
