-- Laws of `RuleCode`: which codes are a rule's.
-- Assumes nothing.
use Prim.Native.Nat.{ℕ, ◌≤◌}
use mathlib.Core.Path.{◌≡◌, refl}
use mathlib.Core.Bool.{true, false}
use lib.Dec.{leb}
use native.Mathlib.Omega.{arith}
use borrow.Author.Tests.{leb-true}
use Rattle.cells.specs.ByPlace.{by-test}
use Rattle.rules.specs.Step.{is_rule}
use Rattle.rules.specs.RuleCode.{code_of}
use Rattle.rules.specs.declared.rule.Rule.{Rule}
use Rattle.rules.specs.declared.rule.Rule.TheVariants.{Join, RmUnused, Cnf, Distribute, Split, Ite}

pub code-known : (rule : Rule) → is_rule (code_of rule) ≡ true
unfolding is_rule
code-known Join = refl
code-known RmUnused = refl
code-known Cnf = refl
code-known Distribute = refl
code-known Split = refl
code-known Ite = refl

pub no-code : (k : ℕ) → (k ≡ 1 → ⊥) → (k ≡ 2 → ⊥) → (k ≡ 3 → ⊥) → (k ≡ 4 → ⊥) → (k ≡ 5 → ⊥) → (k ≡ 6 → ⊥) → is_rule k ≡ false
unfolding is_rule
no-code k a b c d e f =
    by-test (leb 1 k)
    (λ p. by-test (leb k 6)
    (λ q. let low : 1 ≤ k = leb-true 1 k p in let high : k ≤ 6 = leb-true k 6 q in absurd (omega arith))
    (λ q. rw (p, q)))
    (λ p. rw p)
