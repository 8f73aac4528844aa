-- By cases on a tag: 13 for the sorts, and for the terms one for each tag below the operators and one for them all.
-- Assumes nothing.
use Prim.Native.Nat.{ℕ, ◌≤◌, ◌<◌}
use mathlib.Core.Path.{◌≡◌, sym, subst}
use mathlib.Core.Bool.{true, false, cond}
use lib.Dec.{ltb, leb, eqb}
use native.Mathlib.Omega.{arith}
use borrow.Author.Tests.{ltb-true, leb-true, ltb-false, eqb-true, eqb-false, le-ltb, lt-ltb}
use Rattle.cells.specs.ByPlace.{by-test}
use Rattle.headers.specs.WellFormed.{shape_of, count_fits, is_sort_tag, is_term_tag}
use Rattle.headers.specs.declared.well_formed.Shape.TheVariants.{Unknown, Operator}
use Rattle.meaning.proofs.trees.Header.{both}

-- ---- the shapes of the tags after the let's
module _ (k : ℕ) where
  shape-late : 28 ≤ k → shape_of k ≡ cond (ltb k 32) Unknown (cond (ltb k 167) Operator Unknown)
  unfolding shape_of
  shape-late h =
      rw (
        le-ltb k 1 (omega arith),
        le-ltb k 7 (omega arith),
        le-ltb k 9 (omega arith),
        le-ltb k 10 (omega arith),
        le-ltb k 11 (omega arith),
        le-ltb k 12 (omega arith),
        le-ltb k 13 (omega arith),
        le-ltb k 14 (omega arith),
        le-ltb k 16 (omega arith),
        le-ltb k 20 (omega arith),
        le-ltb k 21 (omega arith),
        le-ltb k 22 (omega arith),
        le-ltb k 23 (omega arith),
        le-ltb k 27 (omega arith),
        le-ltb k 28 (omega arith),
      )

  pub shape-op : 32 ≤ k → k < 167 → shape_of k ≡ Operator
  shape-op h l = rw (shape-late (omega arith), le-ltb k 32 h, lt-ltb k 167 l)

  -- 28 to 31, and from 167 on, no tag
  late-op : (m : ℕ) → 28 ≤ k → count_fits (shape_of k) m ≡ true → (32 ≤ k) × (k < 167)
  unfolding count_fits
  late-op m h e =
      by-test (ltb k 32) (λ o. never (rw (shape-late h, o) at e))
      (λ o. by-test (ltb k 167) (λ q. (ltb-false k 32 o, ltb-true k 167 q)) (λ q. never (rw (shape-late h, o, q) at e)))
    where
      never : {A : Type 0} → false ≡ true → A
      never z = let y : ◌≡◌ {A = ℕ} 0 1 = cc in absurd (omega arith)

-- ---- by cases
module _ (P : ℕ → Type 0) where
  case : (a k : ℕ) → a ≤ k → P a → (a < k → P k) → P k
  case a k h p q = by-test (eqb k a) (λ e. subst P (sym (eqb-true k a e)) p) (λ e. q (above (eqb-false k a e)))
    where
      above : (k ≡ a → ⊥) → a < k
      above n = omega arith

  pub by-sort-tag : P 1 → P 2 → P 3 → P 4 → P 5 → P 6 → P 7 → P 8 → P 9 → P 10 → P 11 → P 12 → P 13 → (k : ℕ) → is_sort_tag k ≡ true → P k
  unfolding is_sort_tag
  by-sort-tag p₁ p₂ p₃ p₄ p₅ p₆ p₇ p₈ p₉ p₁₀ p₁₁ p₁₂ p₁₃ k e =
      case 1 k (leb-true 1 k (both (leb 1 k) _ e).0) p₁ λ h.
      case 2 k h p₂ λ h.
      case 3 k h p₃ λ h.
      case 4 k h p₄ λ h.
      case 5 k h p₅ λ h.
      case 6 k h p₆ λ h.
      case 7 k h p₇ λ h.
      case 8 k h p₈ λ h.
      case 9 k h p₉ λ h.
      case 10 k h p₁₀ λ h.
      case 11 k h p₁₁ λ h.
      case 12 k h p₁₂ λ h.
      case 13 k h p₁₃ λ h.
      absurd (omega (arith, ltb-true k 14 (both (leb 1 k) _ e).1))

  pub by-term-tag : P 16 → P 17 → P 18 → P 19 → P 20 → P 21 → P 22 → P 23 → P 24 → P 25 → P 26 → P 27 → ((k : ℕ) → 32 ≤ k → k < 167 → P k)
      → (k m : ℕ) → is_term_tag k ≡ true → count_fits (shape_of k) m ≡ true → P k
  unfolding is_term_tag
  by-term-tag p₁₆ p₁₇ p₁₈ p₁₉ p₂₀ p₂₁ p₂₂ p₂₃ p₂₄ p₂₅ p₂₆ p₂₇ ops k m e f =
      case 16 k (leb-true 16 k e) p₁₆ λ h.
      case 17 k h p₁₇ λ h.
      case 18 k h p₁₈ λ h.
      case 19 k h p₁₉ λ h.
      case 20 k h p₂₀ λ h.
      case 21 k h p₂₁ λ h.
      case 22 k h p₂₂ λ h.
      case 23 k h p₂₃ λ h.
      case 24 k h p₂₄ λ h.
      case 25 k h p₂₅ λ h.
      case 26 k h p₂₆ λ h.
      case 27 k h p₂₇ λ h.
      ops k (late-op k m h f).0 (late-op k m h f).1
