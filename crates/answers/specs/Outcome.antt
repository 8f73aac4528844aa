-- A rule's checks, one after another: the first that fails refuses the step.
-- 01, "What stops a step": "Each refusal carries two numbers, 0 where none is named."
-- Rests on Answer and the struct `Answer`.
use Rattle.std.specs.Prelude.{ℕ, Bool, true, false, Option, Some, None}
use Rattle.answers.specs.Answer.{accepted, refused}
use Rattle.answers.specs.declared.Answer.{Answer}

pub data Outcome (A : Type 0) : Type 0 where
  pass : A → Outcome A
  refuse : ℕ → ℕ → ℕ → Outcome A  -- the code, and the two numbers that it carries

infixl 10 ◌>>=◌
infixl 10 ◌>>◌
unfoldable pub ◌>>=◌ : {A B : Type 0} → Outcome A → (A → Outcome B) → Outcome B
◌>>=◌ (pass a) next = next a
◌>>=◌ (refuse k m n) next = refuse k m n

unfoldable pub ◌>>◌ : {A B : Type 0} → Outcome A → Outcome B → Outcome B
◌>>◌ (pass a) next = next
◌>>◌ (refuse k m n) next = refuse k m n

-- what must be there, else a refusal
unfoldable pub need : {A : Type 0} → ℕ → ℕ → ℕ → Option A → Outcome A
need k m n (Some a) = pass a
need k m n None = refuse k m n

-- what must hold, else a refusal
unfoldable pub guard : ℕ → ℕ → ℕ → Bool → Outcome (Unit {0})
guard k m n true = pass tt
guard k m n false = refuse k m n

-- the first of a list that offends, with its refusal's numbers
unfoldable pub unless : {A : Type 0} → ℕ → (A → ℕ) → ℕ → Option A → Outcome (Unit {0})
unless k number n (Some a) = refuse k (number a) n
unless k number n None = pass tt

-- a rule's answer
abbrev pub answer_of : Outcome (Unit {0}) → Answer
answer_of (pass a) = accepted 0 0
answer_of (refuse k m n) = refused k m n
