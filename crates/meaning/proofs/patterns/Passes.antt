-- A check that passes has passed in each of its parts; what it goes on with is handed to a continuation.
-- Assumes nothing.
use Prim.Native.Nat.{ℕ}
use mathlib.Core.Path.{◌≡◌, refl}
use mathlib.Core.Bool.{Bool, true, false, cond}
use Rattle.std.specs.Prelude.{Option, Some, None}
use native.Mathlib.Omega.{arith}
use Rattle.answers.specs.Outcome.{Outcome, pass, refuse, ◌>>=◌, ◌>>◌, need, guard, unless}
use Rattle.formulas.specs.Pattern.{and_then}

module _ {A B C : Type 0} (x : B) where
  pub bind-passes : (o : Outcome A) (next : A → Outcome B) → (o >>= next) ≡ pass x → ((a : A) → o ≡ pass a → next a ≡ pass x → C) → C
  unfolding ◌>>=◌
  bind-passes (pass a) next e k = k a refl e
  bind-passes (refuse i m n) next e k = let z : ◌≡◌ {A = ℕ} 0 1 = cc in absurd (omega arith)

  pub need-passes : (i m n : ℕ) (o : Option A) (next : A → Outcome B) → (need i m n o >>= next) ≡ pass x → ((a : A) → o ≡ Some a → next a ≡ pass x → C) → C
  unfolding need ◌>>=◌
  need-passes i m n (Some a) next e k = k a refl e
  need-passes i m n None next e k = let z : ◌≡◌ {A = ℕ} 0 1 = cc in absurd (omega arith)

  pub unless-passes : (i : ℕ) (number : A → ℕ) (n : ℕ) (o : Option A) (next : Outcome B) → (unless i number n o >> next) ≡ pass x
      → (o ≡ None → next ≡ pass x → C) → C
  unfolding unless ◌>>◌
  unless-passes i number n (Some a) next e k = let z : ◌≡◌ {A = ℕ} 0 1 = cc in absurd (omega arith)
  unless-passes i number n None next e k = k refl e

module _ {B C : Type 0} (x : B) where
  pub then-passes : (o : Outcome (Unit {0})) (next : Outcome B) → (o >> next) ≡ pass x → (o ≡ pass tt → next ≡ pass x → C) → C
  unfolding ◌>>◌
  then-passes (pass tt) next e k = k refl e
  then-passes (refuse i m n) next e k = let z : ◌≡◌ {A = ℕ} 0 1 = cc in absurd (omega arith)

  pub guard-passes : (i m n : ℕ) (b : Bool) (next : Outcome B) → (guard i m n b >> next) ≡ pass x → (b ≡ true → next ≡ pass x → C) → C
  unfolding guard ◌>>◌
  guard-passes i m n true next e k = k refl e
  guard-passes i m n false next e k = let z : ◌≡◌ {A = ℕ} 0 1 = cc in absurd (omega arith)

-- the last of a list of checks
pub guard-last : (i m n : ℕ) (b : Bool) → guard i m n b ≡ pass tt → b ≡ true
unfolding guard
guard-last i m n true e = refl
guard-last i m n false e = let z : ◌≡◌ {A = ℕ} 0 1 = cc in absurd (omega arith)

pub unless-last : {A : Type 0} (i : ℕ) (number : A → ℕ) (n : ℕ) (o : Option A) → unless i number n o ≡ pass tt → o ≡ None
unfolding unless
unless-last i number n (Some a) e = let z : ◌≡◌ {A = ℕ} 0 1 = cc in absurd (omega arith)
unless-last i number n None e = refl

-- ---- matching
pub by-option : {A C : Type 0} (o : Option A) → ((a : A) → o ≡ Some a → C) → (o ≡ None → C) → C
by-option (Some a) f g = f a refl
by-option None f g = g refl

pub then_some : {A B C : Type 0} (o : Option A) (next : A → Option B) (b : B) → and_then o next ≡ Some b → ((a : A) → o ≡ Some a → next a ≡ Some b → C) → C
then_some (Some a) next b e k = k a refl e
then_some None next b e k = let z : ◌≡◌ {A = ℕ} 0 1 = cc in absurd (omega arith)

pub cond-some : {A : Type 0} (b : Bool) (a c : A) → cond b (Some a) None ≡ Some c → (b ≡ true) × (a ≡ c)
cond-some true a c e = (refl, cc)
cond-some false a c e = let z : ◌≡◌ {A = ℕ} 0 1 = cc in absurd (omega arith)
