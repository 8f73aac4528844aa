-- Headers that fill a pool, and what a walk over them finds once the pool has grown.
-- 01, "Pool": "Headers and their cells fill 0 to N-1 exactly."
-- Assumes nothing.
use Rattle.std.specs.Prelude.{Option, Some, None}
use Prim.Native.Nat.{ℕ, zero, suc, ◌+◌, ◌-◌, ◌≤◌, ◌<◌}
use mathlib.Core.Path.{◌≡◌, refl, sym, ◌∙◌}
use mathlib.Core.Bool.{Bool, true, false, not, ◌&&◌}
use mathlib.Core.List.{List}
use lib.ListN.{get_or}
use lib.Dec.{leb, ltb}
use native.Mathlib.Omega.{arith}
use borrow.Author.Tests.{leb-true, leb-false, ltb-true, not-false}
use Rattle.cells.specs.ByPlace.{by-test}
use Rattle.cells.specs.Headers.{first_from, first_header}
use Rattle.headers.specs.WellFormed.{bool_first, header_fits, first_bad}
use Rattle.cells.proofs.Walks.{first-end, first-here, first_next}

-- headers with their cells fill the places from p up to n
pub data Fills (values : List ℕ) (n : ℕ) : ℕ → Type 0 where
  filled : Fills values n n
  more : {p : ℕ} → p < n → get_or values p 0 < n - p → Fills values n (p + (1 + get_or values p 0)) → Fills values n p

-- a walk that finds nothing has passed headers that fill the pool, where its test holds at each whose cells run past n
module _ (values : List ℕ) (n : ℕ) (test : ℕ → Bool) (within : (p : ℕ) → test p ≡ false → get_or values p 0 < n - p) where
  fills-in : (f p : ℕ) → n - p ≤ f → p ≤ n → first_from values n test p ≡ None → Fills values n p
  fills-in zero p hf le e = let z : p ≡ n = omega arith in rw z filled
  fills-in (suc f) p hf le e =
      by-test (leb n p) (λ a. let z : p ≡ n = omega (arith, leb-true n p a) in rw z filled)
      (λ a.
      let h : p < n = leb-false n p a in
      by-test (test p)
      (λ o. let z : Some p ≡ None = first-here values n test _ p refl h true (sym o) refl ∙ e in let y : ◌≡◌ {A = ℕ} 0 1 = cc in absurd (omega arith))
      (λ o.
      let k : get_or values p 0 < n - p = within p o in
      more h k (fills-in f (p + (1 + get_or values p 0)) (omega arith) (omega arith)
      (sym (first_next values n test _ p refl h false (sym o) refl (get_or values p 0) refl) ∙ e))))

  pub nothing-fills : first_header values n test ≡ None → Fills values n 0
  unfolding first_header
  nothing-fills e = fills-in (n - 0) 0 (omega arith) (omega arith) e

and_right : (a b : Bool) → (a && b) ≡ true → b ≡ true
and_right true b e = e
and_right false b e = cc

and_left : (a b : Bool) → (a && b) ≡ true → a ≡ true
and_left true b e = refl
and_left false b e = cc

-- the headers of a pool that check 14 passes fill it
header-within : (tags values : List ℕ) (n p : ℕ) → header_fits tags values n p ≡ true → get_or values p 0 < n - p
unfolding header_fits
header-within tags values n p e =
    ltb-true _ _ (and_left (ltb (get_or values p 0) (n - p)) _ (and_right (bool_first tags p) _ e))

pub well-formed-fills : (tags values : List ℕ) (n : ℕ) → first_bad tags values n ≡ None → Fills values n 0
unfolding first_bad
well-formed-fills tags values n e =
    nothing-fills values n (λ p. not (header_fits tags values n p)) (λ p o. header-within tags values n p (not-false _ o)) e

-- what is found, else what is found after it
abbrev pub or_else : Option ℕ → Option ℕ → Option ℕ
or_else (Some p) after = Some p
or_else None after = after

pub or_nothing : (f : Option ℕ) → or_else f None ≡ f
or_nothing (Some p) = refl
or_nothing None = refl

-- a pool of n cells has grown to n' cells, and those below n are the same
module _ (values : List ℕ) (n : ℕ) (values' : List ℕ) (n' : ℕ) (grows : n ≤ n') (same : (p : ℕ) → p < n → get_or values' p 0 ≡ get_or values p 0) where
  fills-from : (p : ℕ) → Fills values n p → Fills values' n' n → Fills values' n' p
  fills-from p filled after = after
  fills-from p (more h k f) after =
      more {p = p} (omega arith) (rw (same p h) (omega arith)) (rw (same p h) (fills-from (p + (1 + get_or values p 0)) f after))

  pub fills-grown : Fills values n 0 → Fills values' n' n → Fills values' n' 0
  fills-grown f after = fills-from 0 f after

  -- where a test holds as before at each header below n, a walk finds what it found, and else what it finds from n on
  module _ (test test' : ℕ → Bool) (agree : (p : ℕ) → p < n → get_or values p 0 < n - p → test' p ≡ test p) where
    first-grown : (p : ℕ) → Fills values n p → first_from values' n' test' p ≡ or_else (first_from values n test p) (first_from values' n' test' n)
    first-grown p filled = rw (← first-end values n test _ n refl (omega arith))
    first-grown p (more h k f) =
        by-test (test p)
        (λ o.
        rw (← first-here values n test _ p refl h true (sym o) refl)
        (sym (first-here values' n' test' _ p refl (omega arith) true (sym (agree p h k ∙ o)) refl)))
        (λ o.
        rw (first_next values n test _ p refl h false (sym o) refl (get_or values p 0) refl)
        (first_next values' n' test' _ p refl (omega arith) false (sym (agree p h k ∙ o)) refl (get_or values p 0) (sym (same p h))
        ∙ first-grown (p + (1 + get_or values p 0)) f))

    pub header-grown : Fills values n 0 → first_header values' n' test' ≡ or_else (first_header values n test) (first_from values' n' test' n)
    unfolding first_header
    header-grown f = first-grown 0 f
