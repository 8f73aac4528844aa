-- The places that the walk over the headers reaches, in their order; and the walk that enters the headers below n.
-- Assumes nothing.
use Prim.Native.Nat.{ℕ, zero, suc, ◌+◌, ◌≤◌, ◌<◌}
use mathlib.Core.Path.{◌≡◌, sym, ◌∙◌}
use mathlib.Core.List.{List, [], ◌∷◌}
use mathlib.Core.Logic.{◌⊎◌, inl, inr, ⊎_elim}
use lib.ListN.{length, get_or}
use lib.Dec.{eqb}
use native.Mathlib.Omega.{arith}
use borrow.Author.Tests.{eqb-true, eqb-false}
use Rattle.cells.specs.ByPlace.{by-test}
use Rattle.descriptions.specs.Description.{zero_from}
use Rattle.descriptions.specs.Index.{Reached, start, next, Within, Index, Earlier}
use Rattle.cells.specs.Headers.{headers_from}
use Rattle.cells.proofs.HeaderLists.{left_end, left_before, left_place, left_rest}
use Rattle.descriptions.proofs.index.Entries.{index-start}

-- ---- of two places that the walk reaches, one stands at or before the other, or after the other's cells
module _ (values : List ℕ) where
  order-in : (f p q : ℕ) → p + q < f → Reached values p → Reached values q → (q ≤ p) ⊎ (p + (1 + get_or values p 0) ≤ q)
  order-in zero p q h rp rq = absurd (omega arith)
  order-in (suc f) p q h rp start = inl (omega arith)
  order-in (suc f) p q h rp (next {p = u} ru) =
      ⊎_elim
      (λ (le : u ≤ p). by-test (eqb u p)
      (λ e. let z : u ≡ p = eqb-true u p e in inr (rw (← z) (omega arith)))
      (λ e. let n : u ≡ p → ⊥ = eqb-false u p e in
      ⊎_elim (λ back. absurd (n (omega arith))) (λ after. inl after) (order-in f u p (omega arith) ru rp)))
      (λ after. inr (omega arith))
      (order-in f p u (omega arith) rp ru)

  pub order : {p q : ℕ} → Reached values p → Reached values q → (q ≤ p) ⊎ (p + (1 + get_or values p 0) ≤ q)
  order {p} {q} rp rq = order-in (p + q + 1) p q (omega arith) rp rq

  -- a header below a place that the walk reaches has its cells below it
  pub within : {p q : ℕ} → Reached values p → Reached values q → q < p → Within values p q
  within {p} {q} rp rq h =
      ⊎_elim (λ back. absurd (omega arith))
      (λ after. record { before = h; fits = omega arith; header = rq })
      (order rq rp)

-- ---- the walk that enters the headers below n: those below `at` are in the index, and the iterator has those from there on left
pub record Entered (tags values : List ℕ) (n : ℕ) (index left : List ℕ) : Type 0 where
  pub at : ℕ
  pub is : left ≡ headers_from values n at
  pub has : Index tags values at index
  pub before : at ≤ n

module _ (tags values : List ℕ) (n : ℕ) (ask : Earlier values n n) where
  pub entered-start : (index old left : List ℕ) → length index ≡ 12288 → index ≡ zero_from 0 old → left ≡ headers_from values n 0 → Entered tags values n index left
  entered-start index old left l e is = record { at = 0; is = is; has = index-start tags values index old l e; before = omega arith }

  module _ (index left : List ℕ) (s : Entered tags values n index left) where
    pub entered-end : left ≡ [] → Index tags values n index
    entered-end e =
        let h : n ≤ s.at = left_end values n s.at (sym s.is ∙ e) in
        let z : s.at ≡ n = omega (arith, s.before) in
        rw z at s.has

    module _ (p : ℕ) (rest : List ℕ) (e : left ≡ p ∷ rest) where
      here : headers_from values n s.at ≡ p ∷ rest
      here = sym s.is ∙ e

      there : s.at ≡ p
      there = sym (left_place values n s.at p rest here)

      pub entered-has : Index tags values p index
      entered-has = rw (← there) s.has

      pub entered-small : p < 8192
      entered-small =
          let h : p < n = rw (← there) (left_before values n s.at p rest here) in
          omega (arith, ask.small)

      pub entered-next : (index' : List ℕ) → Index tags values (p + (1 + get_or values p 0)) index' → Entered tags values n index' rest
      entered-next index' i = record {
        at = p + (1 + get_or values p 0);
        is = rw there at (left_rest values n s.at p rest here);
        has = i;
        before =
            let h : p < n = rw (← there) (left_before values n s.at p rest here) in
            ⊎_elim (λ back. absurd (omega arith)) (λ after. after) (order values entered-has.reached ask.reached);
      }
