-- The operands of an operator's term in a pool that passes check 14: terms that stand before it.
-- Assumes nothing.
use Prim.Native.Nat.{ℕ, zero, suc, ◌≤◌, ◌<◌}
use mathlib.Core.Path.{◌≡◌, refl}
use mathlib.Core.Bool.{true}
use mathlib.Core.List.{List, [], ◌∷◌}
use lib.ListN.{length, get_or}
use native.Mathlib.Omega.{arith}
use borrow.Author.Tests.{lt-ltb}
use Rattle.headers.specs.WellFormed.{kind_at, is_term_tag}
use Rattle.headers.specs.declared.well_formed.Shape.TheVariants.{Operator}
use Rattle.meaning.proofs.trees.Header.{Each, term-cell}
use Rattle.meaning.proofs.trees.Parts.{not_first}
use Rattle.formulas.specs.Formula.{all_before}

module _ (tags : List ℕ) (t : ℕ) where
  abbrev pub IsTerm : ℕ → Type 0
  IsTerm u = (u < t) × (is_term_tag (get_or tags u 0) ≡ true)

  abbrev pub AllTerms : List ℕ → Type 0
  AllTerms [] = Unit {0}
  AllTerms (u ∷ us) = IsTerm u × AllTerms us

  pub all-terms : (j : ℕ) (os : List ℕ) → 1 ≤ j → Each tags t Operator j os → AllTerms os
  unfolding kind_at
  all-terms j [] l f = tt
  all-terms j (u ∷ os) l f = (term-cell tags t u (rw (not_first _ _ j l) at f.0), all-terms (suc j) os (omega arith) f.1)

  pub all-before : (os : List ℕ) → AllTerms os → all_before t os ≡ true
  unfolding all_before
  all-before [] a = refl
  all-before (u ∷ os) a = let l = a.0.0 in rw (lt-ltb u t l) (all-before os a.1)

  pub term-at : (os : List ℕ) → AllTerms os → (i : ℕ) → i < length os → IsTerm (get_or os i 0)
  term-at [] a i h = absurd (omega arith)
  term-at (u ∷ os) a zero h = a.0
  term-at (u ∷ os) a (suc i) h = term-at os a.1 i (omega arith)
