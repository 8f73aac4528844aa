-- Checks 14 and 15 over a whole pool, as facts about its places.
--     place-fits     a place with a tag is a header, and passes check 14
--     place-described     so the list of its cells is as long as its tag demands, and each holds what it must
--     one_place      two places with one description are one place
-- A cell between headers has tag 0, so a place whose tag is not 0 is a header of the walk.
-- Assumes nothing.
use Rattle.std.specs.Prelude.{Option, Some, None}
use Prim.Native.Nat.{ℕ, zero, suc, ◌+◌, ◌-◌, ◌≤◌, ◌<◌}
use mathlib.Core.Path.{◌≡◌, refl, sym}
use mathlib.Core.Bool.{Bool, true, false, not}
use mathlib.Core.List.{List}
use lib.ListN.{length, get_or}
use lib.Dec.{leb, eqb, ltb}
use native.Mathlib.Omega.{arith}
use borrow.Author.Tests.{leb-true, leb-false, eqb-true, eqb-false, ltb-true, ltb-false, eq-eqb, not-false}
use Rattle.cells.specs.ByPlace.{by-test}
use Rattle.cells.specs.Headers.{first_from, first_header}
use Rattle.cells.specs.Cell.{cells_of, is_at}
use Rattle.headers.specs.WellFormed.{header_fits, first_bad}
use Rattle.descriptions.specs.Description.{find, is_found, repeats, first_repeat}
use Rattle.cells.proofs.Walks.{passes, goes_on}
use Rattle.cells.proofs.Cells.{same_refl}
use Rattle.meaning.proofs.trees.Header.{Header, header, Described, described}

module _ (tags values : List ℕ) (n : ℕ) where
  is_bad : ℕ → Bool
  is_bad p = not (header_fits tags values n p)

  -- from the header at p on: a walk up to m that finds nothing has passed the place t
  reach : (test : ℕ → Bool) (m t : ℕ) → t < m → m ≤ n → (get_or tags t 0 ≡ 0 → ⊥) → (d p : ℕ) → t < p + d → p ≤ t
      → first_from values n is_bad p ≡ None → first_from values m test p ≡ None → test t ≡ false
  unfolding is_bad
  reach test m t h l tag zero p k q bad none = absurd (omega arith)
  reach test m t h l tag (suc d) p k q bad none =
      by-test (eqb p t)
      (λ e. rw (← eqb-true p t e) (passes values m test p (omega (arith, eqb-true p t e)) none))
      (λ e. further (eqb-false p t e) (leb (p + (1 + get_or values p 0)) t) refl (reach test m t h l tag d (p + (1 + get_or values p 0))))
    where
      fits : Header tags values n p
      fits = header tags values n p (not-false _ (passes values n is_bad p (omega arith) bad))

      next : ℕ
      next = p + (1 + get_or values p 0)

      further : (p ≡ t → ⊥) → (b : Bool) → leb next t ≡ b
          → (t < next + d → next ≤ t → first_from values n is_bad next ≡ None → first_from values m test next ≡ None → test t ≡ false) → test t ≡ false
      further e true o again =
          again (omega arith) (leb-true next t o) (goes_on values n is_bad p (omega arith) bad) (goes_on values m test p (omega arith) none)
      further e false o again =
          let j : t ≡ p + 1 + (t - (p + 1)) = omega arith in
          absurd (tag (rw j (fits.blank (t - (p + 1)) (omega (arith, leb-false next t o)))))

  module _ (formed : first_bad tags values n ≡ None) where
    -- "Headers and their cells fill 0 to N-1 exactly."
    pub place-fits : (t : ℕ) → t < n → (get_or tags t 0 ≡ 0 → ⊥) → header_fits tags values n t ≡ true
    unfolding first_bad first_header is_bad
    place-fits t h tag = not-false _ (reach is_bad n t h (omega arith) tag (suc t) 0 (omega arith) (omega arith) formed formed)

    -- a walk up to m that finds nothing leaves no place below m at which the test holds
    pub place-passes : (test : ℕ → Bool) (m : ℕ) → m ≤ n → first_header values m test ≡ None → (t : ℕ) → t < m → (get_or tags t 0 ≡ 0 → ⊥) → test t ≡ false
    unfolding first_bad first_header is_bad
    place-passes test m l none t h tag = reach test m t h l tag (suc t) 0 (omega arith) (omega arith) formed none

    pub place-described : n ≤ length values → (t : ℕ) → t < n → (get_or tags t 0 ≡ 0 → ⊥) → Described tags values t
    place-described whole t h tag = described tags values t n whole (header tags values n t (place-fits t h tag))

    module _ (single : first_repeat tags values n ≡ None) where
      -- an earlier place has another description
      apart : (t u : ℕ) → t < u → u < n → (get_or tags t 0 ≡ 0 → ⊥) → get_or tags t 0 ≡ get_or tags u 0 → cells_of values t ≡ cells_of values u → ⊥
      unfolding first_bad first_repeat first_header find repeats is_bad is_at
      apart t u h l tag e c =
          let new : repeats tags values u ≡ false = reach (repeats tags values) n u l (omega arith) (λ z. tag (cc)) (suc u) 0 (omega arith) (omega arith) formed single in
          let differs : is_at tags values t (get_or tags u 0) (cells_of values u) ≡ false =
          reach (λ q. is_at tags values q (get_or tags u 0) (cells_of values u)) u t h (omega arith) tag (suc t) 0 (omega arith) (omega arith) formed (nothing _ new) in
          let same : is_at tags values t (get_or tags u 0) (cells_of values u) ≡ true = rw (eq-eqb _ _ e, c, same_refl) in
          let y : ◌≡◌ {A = ℕ} 0 1 = cc in omega arith
        where
          nothing : (w : Option ℕ) → is_found w ≡ false → w ≡ None
          nothing (Some q) z = cc
          nothing None z = refl

      -- "No two headers describe the same thing."
      pub one_place : (t u : ℕ) → t < n → u < n → (get_or tags t 0 ≡ 0 → ⊥) → get_or tags t 0 ≡ get_or tags u 0 → cells_of values t ≡ cells_of values u → t ≡ u
      one_place t u h l tag e c =
          by-test (ltb t u) (λ o. absurd (apart t u (ltb-true t u o) l tag e c))
          (λ o. by-test (ltb u t) (λ q. absurd (apart u t (ltb-true u t q) h (λ z. tag (cc)) (sym e) (sym c)))
          (λ q. omega (arith, ltb-false t u o, ltb-false u t q)))
