-- The calls by their numbers, the first word of the head.
-- Rests on the enum `Call` and the struct `NoCall`.
use Rattle.std.specs.Prelude.{ℕ, ◌≡◌, ◌<◌, Result, MatchResult}
use Rattle.calls.specs.declared.call_files.Call.{Call}
use Rattle.calls.specs.declared.call_files.Call.TheVariants.{Check, Sort, FreeVars, NormalForm, ClauseList, Load}
use Rattle.calls.specs.declared.call_files.NoCall.{NoCall}

abbrev pub number_of : Call → ℕ
number_of Check = 0
number_of Sort = 1
number_of FreeVars = 2
number_of NormalForm = 3
number_of ClauseList = 4
number_of Load = 5

-- the call that has this number, or an error where none has
abbrev pub Numbers : ℕ → Result Call NoCall → Type 0
Numbers number r = MatchResult r (λ call. number_of call ≡ number) (λ _. 5 < number)
