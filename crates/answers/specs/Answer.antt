-- The answers of the public calls: 01's number and the two numbers that it carries.
-- 01, "What stops a step": "Each refusal carries two numbers, 0 where none is named. 0 is acceptance."
-- Rests on the struct `Answer`.
use Rattle.std.specs.Prelude.{Option, Some, None, ℕ}
use Rattle.answers.specs.declared.Answer.{Answer}

-- the code, and the two numbers that it carries
abbrev pub refused : ℕ → ℕ → ℕ → Answer
refused k a b = record { code = k; first = a; second = b }

abbrev pub accepted : ℕ → ℕ → Answer
accepted a b = record { code = 0; first = a; second = b }

-- 14: pool ill-formed (place of the first bad header, 0 if N is 0)
abbrev pub ill_formed : ℕ → Answer
ill_formed p = refused 14 p 0

-- 15: repeated description (the first later place)
abbrev pub repeated : ℕ → Answer
repeated p = refused 15 p 0

-- 16: wrong sort (the first place)
abbrev pub wrong_sort : ℕ → Answer
wrong_sort p = refused 16 p 0

-- 17: not a term's place (it)
abbrev pub not_a_term : ℕ → Answer
not_a_term t = refused 17 t 0

-- 30: arrays unequal, N past them or over 8,192; a lent array that is too short
abbrev pub bad_arrays : Answer
bad_arrays = refused 30 0 0

-- 40: a table of another length (135), or a rule number that is not allowed (its entry)
abbrev pub bad_table : ℕ → Answer
bad_table i = refused 40 i 0

-- 41: an entry for one of `Not`, `Implies`, `And`, `Or`, `Equals` that isn't Bool (the entry)
abbrev pub not_bool : ℕ → Answer
not_bool i = refused 41 i 0

-- a refusal with the place or entry found, else what comes next
abbrev pub refuse_at : (ℕ → Answer) → Option ℕ → Answer → Answer
refuse_at refusal (Some p) next = refusal p
refuse_at refusal None next = next
