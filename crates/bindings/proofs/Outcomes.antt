-- Laws of `Outcome`: from an outcome to the answer, and from a first name to an outcome.
-- Assumes nothing.
use Prim.Native.Nat.{ℕ}
use mathlib.Core.Path.{◌≡◌, refl, ap}
use Rattle.std.specs.Prelude.{Option, Some, None}
use native.Mathlib.Omega.{arith}
use Rattle.answers.specs.Answer.{accepted, refused}
use Rattle.answers.specs.Outcome.{Outcome, pass, refuse, unless, answer_of}
use Rattle.bindings.specs.Binding.{Binding}
use Rattle.bindings.specs.BindingAnswer.{name_of}

-- the answer of a rule's outcome
module _ (p : Outcome (Unit {0})) where
  pub answers-refused : (k m n : ℕ) → refuse k m n ≡ p → refused k m n ≡ answer_of p
  answers-refused k m n e = ap answer_of e

  pub answers-accepted : pass tt ≡ p → accepted 0 0 ≡ answer_of p
  answers-accepted e = ap answer_of e

-- the first of a list that offends, by its name
module _ (k n : ℕ) where
  pub unless-name : (o : Option Binding) (m : ℕ) → Some m ≡ name_of o → unless k (λ (a : Binding). a.name) n o ≡ refuse k m n
  unfolding name_of unless
  unless-name None m e = absurd (let z : ◌≡◌ {A = ℕ} 0 1 = cc in omega arith)
  unless-name (Some a) m e = let same : m ≡ a.name = cc in rw same

  pub unless-none : (o : Option Binding) → None ≡ name_of o → unless k (λ (a : Binding). a.name) n o ≡ pass tt
  unfolding name_of unless
  unless-none None e = refl
  unless-none (Some a) e = absurd (let z : ◌≡◌ {A = ℕ} 0 1 = cc in omega arith)
