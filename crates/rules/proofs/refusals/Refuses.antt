-- A check that refuses has refused in one of its parts: the first that fails, with the numbers that it carries.
--     need-refuses, bind-refuses, then-refuses, guard-refuses, unless-refuses     a part and what comes after it
--     last-refuses, unless-last-refuses     the last part
-- Assumes nothing.
use Prim.Native.Nat.{ℕ}
use mathlib.Core.Path.{◌≡◌, refl, subst}
use mathlib.Core.Bool.{Bool, true, false}
use Rattle.std.specs.Prelude.{Option, Some, None}
use native.Mathlib.Omega.{arith}
use Rattle.answers.specs.Outcome.{Outcome, pass, refuse, ◌>>=◌, ◌>>◌, need, guard, unless}

module _ {B C : Type 0} {k a b : ℕ} where
  pub need-refuses : {A : Type 0} (i m n : ℕ) (o : Option A) (next : A → Outcome B) → (need i m n o >>= next) ≡ refuse k a b
      → (o ≡ None → (i ≡ k) × (m ≡ a) × (n ≡ b) → C) → ((v : A) → o ≡ Some v → next v ≡ refuse k a b → C) → C
  unfolding need ◌>>=◌
  need-refuses i m n (Some v) next e f g = g v refl e
  need-refuses i m n None next e f g = f refl (cc, cc, cc)

  pub bind-refuses : {A : Type 0} (o : Outcome A) (next : A → Outcome B) → (o >>= next) ≡ refuse k a b
      → (o ≡ refuse k a b → C) → ((v : A) → o ≡ pass v → next v ≡ refuse k a b → C) → C
  unfolding ◌>>=◌
  bind-refuses (pass v) next e f g = g v refl e
  bind-refuses (refuse i m n) next e f g = f (cc)

  pub then-refuses : (o : Outcome (Unit {0})) (next : Outcome B) → (o >> next) ≡ refuse k a b → (o ≡ refuse k a b → C) → (next ≡ refuse k a b → C) → C
  unfolding ◌>>◌
  then-refuses (pass v) next e f g = g e
  then-refuses (refuse i m n) next e f g = f (cc)

  pub guard-refuses : (i m n : ℕ) (t : Bool) (next : Outcome B) → (guard i m n t >> next) ≡ refuse k a b
      → (t ≡ false → (i ≡ k) × (m ≡ a) × (n ≡ b) → C) → (t ≡ true → next ≡ refuse k a b → C) → C
  unfolding guard ◌>>◌
  guard-refuses i m n true next e f g = g refl e
  guard-refuses i m n false next e f g = f refl (cc, cc, cc)

module _ {A : Type 0} {k a b : ℕ} where
  pub unless-refuses : {B C : Type 0} (i : ℕ) (number : A → ℕ) (n : ℕ) (o : Option A) (next : Outcome B) → (unless i number n o >> next) ≡ refuse k a b
      → ((v : A) → o ≡ Some v → (i ≡ k) × (number v ≡ a) × (n ≡ b) → C) → (o ≡ None → next ≡ refuse k a b → C) → C
  unfolding unless ◌>>◌
  unless-refuses i number n (Some v) next e f g = f v refl (cc, cc, cc)
  unless-refuses i number n None next e f g = g refl e

  pub unless-last-refuses : {C : Type 0} (i : ℕ) (number : A → ℕ) (n : ℕ) (o : Option A) → unless i number n o ≡ refuse k a b
      → ((v : A) → o ≡ Some v → (i ≡ k) × (number v ≡ a) × (n ≡ b) → C) → C
  unfolding unless
  unless-last-refuses i number n (Some v) e f = f v refl (cc, cc, cc)
  unless-last-refuses i number n None e f = let z : ◌≡◌ {A = ℕ} 0 1 = cc in absurd (omega arith)

-- the numbers that a refusal carries
pub renumber : (P : ℕ → ℕ → ℕ → Type 0) {i m j k a b : ℕ} → P i m j → (i ≡ k) × (m ≡ a) × (j ≡ b) → P k a b
renumber P {i} {m} {j} {k} {a} {b} r (p, q, s) = subst (λ (z : ℕ). P k a z) s (subst (λ (z : ℕ). P k z j) q (subst (λ (z : ℕ). P z m j) p r))

pub last-refuses : {k a b : ℕ} (i m n : ℕ) (t : Bool) → guard i m n t ≡ refuse k a b → (t ≡ false) × ((i ≡ k) × (m ≡ a) × (n ≡ b))
unfolding guard
last-refuses i m n true e = let z : ◌≡◌ {A = ℕ} 0 1 = cc in absurd (omega arith)
last-refuses i m n false e = (refl, (cc, cc, cc))
