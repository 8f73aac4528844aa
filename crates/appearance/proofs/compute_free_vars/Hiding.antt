-- Laws of hiding and showing variables: what one does to the counts and to the row of what is wanted, and what the pairs of a run do.
-- Assumes nothing.
use Rattle.std.specs.Prelude.{Option, Some, None}
use Prim.Native.Nat.{ℕ, ◌+◌, ◌-◌, ◌/◌, ◌≤◌, ◌<◌}
use mathlib.Core.Path.{◌≡◌, refl, sym, ap, ◌∙◌}
use mathlib.Core.Bool.{Bool, true, false, not, cond, ◌||◌, ◌&&◌}
use mathlib.Core.List.{List, [], ◌∷◌}
use lib.ListN.{length, get_or, set, length-set}
use lib.Seq.{get_or-set_same, get_or-set_other}
use lib.Dec.{eqb}
use native.Mathlib.Nat.{add-zero, zero-add}
use native.Mathlib.Omega.{arith}
use borrow.Author.Tests.{eqb-true, eqb-false, eq-eqb, ne_eqb}
use Rattle.cells.specs.ByPlace.{by-test}
use Rattle.cells.specs.Limits.{cell_limit}
use Rattle.cells.specs.Cell.{sort_of}
use Rattle.free_variables.specs.Free.{pair_in}
use Rattle.free_variables.specs.declared.pair_kind.PairKind.{PairKind}
use Rattle.free_variables.specs.FreeMemo.{pair_sort}
use Rattle.appearance.specs.Bits.{in_row, with_bit}
use Rattle.appearance.specs.Pairs.{place_of, variable_of, is_place, binders_of}
use Rattle.appearance.specs.Rows.{number_of}
use Rattle.appearance.specs.Walk.{Known, PairTable, hide_at, show_at, Wanted}
use Rattle.appearance.proofs.bits.Laws.{row_same, with-long, with-other, with-bit, with-keeps, without-long, without_other, without-keeps}
use Rattle.appearance.proofs.rows.Numbers.{number-injective, number_small}

-- a variable that is known stands below the limit
pub below : (tags values index table : List ℕ) → PairTable tags values index table → (v : ℕ) → Known tags values index v → v < cell_limit
below tags values index table pairs v k = (pairs.found _ _ v k.place).0

-- what is found is known
pub found-known : (tags values index table : List ℕ) → PairTable tags values index table → (name sort v : ℕ) → place_of tags values index name sort ≡ Some v
    → Known tags values index v
found-known tags values index table pairs name sort v e =
    let (l, (tag, (names, sorts))) = pairs.found name sort v e in
    record { tag = tag; place = rw (names, sorts) e }

-- ---- one variable
module _ (table state : List ℕ) (w : ℕ) (h : w < cell_limit) (size : length state ≡ 8449) where
  hide-other : (v : ℕ) → v < cell_limit → (v ≡ w → ⊥) → get_or (hide_at table state w) v 0 ≡ get_or state v 0
  unfolding hide_at
  hide-other v l n =
      without_other (set state w (get_or state w 0 + 1)) cell_limit (get_or table w 0) v (λ e. omega arith)
      ∙ get_or-set_other state w v (get_or state w 0 + 1) 0 n

  hide-same : get_or (hide_at table state w) w 0 ≡ get_or state w 0 + 1
  unfolding hide_at
  hide-same =
      without_other (set state w (get_or state w 0 + 1)) cell_limit (get_or table w 0) w (λ e. omega arith)
      ∙ get_or-set_same state w (get_or state w 0 + 1) 0 (omega arith)

  pub hide-counts : (v : ℕ) → v < cell_limit → get_or (hide_at table state w) v 0 ≡ get_or state v 0 + cond (eqb w v) 1 0
  hide-counts v l = by-test (eqb w v)
      (λ e. rw (e, ← eqb-true w v e) hide-same)
      (λ e. rw e (hide-other v l (λ q. eqb-false w v e (sym q)) ∙ sym (add-zero (get_or state v 0))))

  -- a count is set, and the row is what it was
  set-row : (x k : ℕ) → in_row state cell_limit k ≡ true → in_row (set state w x) cell_limit k ≡ true
  set-row x k r = row_same state (set state w x) cell_limit k (get_or-set_other state w (cell_limit + k / 32) x 0 (λ e. omega arith)) r

  module _ (tags values index : List ℕ) (pairs : PairTable tags values index table) (known : Known tags values index w)
      (wanted : Wanted tags values index state) where
    number : get_or table w 0 ≡ number_of tags w
    number = pairs.numbered w known

    -- the row has another variable's bit
    other_row : (v x : ℕ) → Known tags values index v → get_or state v 0 ≡ 0 → in_row (set state w x) cell_limit (number_of tags v) ≡ true
    other_row v x k e = set-row x (number_of tags v) (wanted.row v k e)

    pub hide-wanted : Wanted tags values index (hide_at table state w)
    unfolding hide_at
    hide-wanted = record {
      size = without-long (set state w (get_or state w 0 + 1)) cell_limit (get_or table w 0) ∙ length-set state w (get_or state w 0 + 1) ∙ size;
      row = λ v k e. by-test (eqb v w)
          (λ q. absurd (omega (arith, hide-same, sym (ap (λ (u : ℕ). get_or (hide_at table state w) u 0) (eqb-true v w q)) ∙ e)))
          (λ q. let l = below tags values index table pairs v k in
          without-keeps (set state w (get_or state w 0 + 1)) cell_limit (get_or table w 0) (number_of tags v)
          (λ z. eqb-false v w q (number-injective tags v w k.tag known.tag (z ∙ number)))
          (other_row v (get_or state w 0 + 1) k (sym (hide-other v l (eqb-false v w q)) ∙ e)));
    }

    module _ (some : 0 < get_or state w 0) where
      low-row : (v : ℕ) → Known tags values index v → (v ≡ w → ⊥) → get_or (set state w (get_or state w 0 - 1)) v 0 ≡ 0
          → in_row (set state w (get_or state w 0 - 1)) cell_limit (number_of tags v) ≡ true
      low-row v k q e = other_row v (get_or state w 0 - 1) k (sym (get_or-set_other state w v (get_or state w 0 - 1) 0 q) ∙ e)

      last_row : in_row (with_bit (set state w (get_or state w 0 - 1)) cell_limit (get_or table w 0)) cell_limit (number_of tags w) ≡ true
      last_row = rw number (with-bit (set state w (get_or state w 0 - 1)) cell_limit (number_of tags w)
          (rw (length-set state w (get_or state w 0 - 1), size) (omega (arith, number_small tags w))))

      pub show-wanted : Wanted tags values index (show_at table state w)
      unfolding show_at
      show-wanted = by-test (eqb (get_or state w 0 - 1) 0)
          (λ z. rw z (record {
            size = with-long (set state w (get_or state w 0 - 1)) cell_limit (get_or table w 0) ∙ length-set state w (get_or state w 0 - 1) ∙ size;
            row = λ v k e. by-test (eqb v w)
                (λ q. rw (eqb-true v w q) last_row)
                (λ q. with-keeps (set state w (get_or state w 0 - 1)) cell_limit (get_or table w 0) (number_of tags v)
                (low-row v k (eqb-false v w q)
                (sym (with-other (set state w (get_or state w 0 - 1)) cell_limit (get_or table w 0) v (λ u. omega (arith, below tags values index table pairs v k))) ∙ e)));
          }))
          (λ z. rw z (record {
            size = length-set state w (get_or state w 0 - 1) ∙ size;
            row = λ v k e. by-test (eqb v w)
                (λ q. absurd (eqb-false (get_or state w 0 - 1) 0 z
                (sym (get_or-set_same state w (get_or state w 0 - 1) 0 (omega arith)) ∙ sym (ap (λ (u : ℕ). get_or (set state w (get_or state w 0 - 1)) u 0) (eqb-true v w q)) ∙ e)))
                (λ q. low-row v k (eqb-false v w q) e);
          }))

  module _ (some : 0 < get_or state w 0) where
    show-at : (v : ℕ) → v < cell_limit → get_or (show_at table state w) v 0 ≡ get_or (set state w (get_or state w 0 - 1)) v 0
    unfolding show_at
    show-at v l = by-test (eqb (get_or state w 0 - 1) 0)
        (λ z. rw z (with-other (set state w (get_or state w 0 - 1)) cell_limit (get_or table w 0) v (λ e. omega arith)))
        (λ z. rw z)

    pub show-counts : (v : ℕ) → v < cell_limit → get_or (show_at table state w) v 0 + cond (eqb w v) 1 0 ≡ get_or state v 0
    show-counts v l = by-test (eqb w v)
        (λ e. let q = eqb-true w v e in
        let s = get_or-set_same state w (get_or state w 0 - 1) 0 (omega arith) in
        rw (e, show-at v l, ← q, s) (omega arith))
        (λ e. rw (e, show-at v l, get_or-set_other state w v (get_or state w 0 - 1) 0 (λ q. eqb-false w v e (sym q))) (add-zero (get_or state v 0)))

-- ---- the pairs of a run
module _ (tags values index table : List ℕ) (pairs : PairTable tags values index table) (kind : PairKind) where
  -- a pair is that of a known variable if its variable is found there
  pair_place : (v : ℕ) → Known tags values index v → (a b : ℕ)
      → (eqb a (get_or values (v + 2) 0) && eqb (pair_sort values kind b) (sort_of values v)) ≡ is_place (variable_of tags values index kind a b) v
  unfolding variable_of
  pair_place v k a b = by-found (place_of tags values index a (pair_sort values kind b)) refl
    where
      by-found : (f : Option ℕ) → place_of tags values index a (pair_sort values kind b) ≡ f
          → (eqb a (get_or values (v + 2) 0) && eqb (pair_sort values kind b) (sort_of values v)) ≡ is_place f v
      by-found f e = by-test (eqb a (get_or values (v + 2) 0))
          (λ p. by-test (eqb (pair_sort values kind b) (sort_of values v))
          (λ q. rw (p, q) (is-there f (sym e ∙ rw (eqb-true a (get_or values (v + 2) 0) p, eqb-true (pair_sort values kind b) (sort_of values v) q) k.place)))
          (λ q. rw (p, q) (not_there f e (λ g. eqb-false (pair_sort values kind b) (sort_of values v) q (sym g.1)))))
          (λ p. rw p (not_there f e (λ g. eqb-false a (get_or values (v + 2) 0) p (sym g.0))))
        where
          is-there : (f : Option ℕ) → f ≡ Some v → true ≡ is_place f v
          is-there f e = rw e (sym (eq-eqb v v refl))

          not_there : (f : Option ℕ) → place_of tags values index a (pair_sort values kind b) ≡ f
              → ((get_or values (v + 2) 0 ≡ a) × (sort_of values v ≡ pair_sort values kind b) → ⊥) → false ≡ is_place f v
          not_there (Some u) e n = by-test (eqb u v)
              (λ q. absurd (n (rw (eqb-true u v q) at (pairs.found a (pair_sort values kind b) u e).1.1)))
              (λ q. sym q)
          not_there None e n = refl

  -- the pairs bind a known variable exactly if one of them is found at its place
  pub binds-some : (v : ℕ) → Known tags values index v → (list : List ℕ)
      → pair_in (pair_sort values kind) (get_or values (v + 2) 0) (sort_of values v) list ≡ not (eqb (binders_of tags values index kind list v) 0)
  unfolding pair_in binders_of
  binds-some v k [] = refl
  binds-some v k (a ∷ []) = refl
  binds-some v k (a ∷ (b ∷ rest)) = rw (pair_place v k a b, binds-some v k rest) (one-or (is_place (variable_of tags values index kind a b) v) (binders_of tags values index kind rest v))
    where
      one-or : (c : Bool) (m : ℕ) → (c || not (eqb m 0)) ≡ not (eqb (cond c 1 0 + m) 0)
      one-or true m = sym (ap not (ne_eqb (1 + m) 0 (λ e. omega arith)))
      one-or false m = ap (λ (x : ℕ). not (eqb x 0)) (sym (zero-add m))

  -- a list has no more pairs than cells
  pub binders-few : (v : ℕ) (list : List ℕ) → binders_of tags values index kind list v ≤ length list
  unfolding binders_of
  binders-few v [] = omega arith
  binders-few v (a ∷ []) = omega arith
  binders-few v (a ∷ (b ∷ rest)) = omega (arith, binders-few v rest, one-most (is_place (variable_of tags values index kind a b) v))
    where
      one-most : (c : Bool) → cond c 1 0 ≤ 1
      one-most true = omega arith
      one-most false = omega arith
