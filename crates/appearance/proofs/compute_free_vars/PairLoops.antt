-- Laws of the loops that hide and show the pairs of a run.
-- Assumes nothing.
use Rattle.std.specs.Prelude.{Option, Some, None}
use Prim.Native.Nat.{ℕ, suc, ◌+◌, ◌-◌, ◌≤◌, ◌<◌}
use mathlib.Core.Path.{◌≡◌, refl, sym, ap, ◌∙◌}
use mathlib.Core.Bool.{Bool, true, false, cond}
use mathlib.Core.List.{List, ◌∷◌}
use lib.ListN.{length, get_or, drop, drop_of_length-le}
use lib.Seq.{drop-cons}
use lib.Dec.{ltb, eqb}
use native.Mathlib.Omega.{arith}
use borrow.Author.Tests.{eq-eqb, ltb-true, ltb-false}
use Rattle.cells.specs.ByPlace.{by-test}
use Rattle.cells.specs.Limits.{cell_limit}
use Rattle.free_variables.specs.declared.pair_kind.PairKind.{PairKind}
use Rattle.free_variables.specs.FreeMemo.{pair_sort}
use Rattle.appearance.specs.Pairs.{place_of, variable_of, is_place, binders_of}
use Rattle.appearance.specs.Walk.{Known, PairTable, hide_at, show_at, Wanted, Hid, Bound, Shown}
use Rattle.appearance.proofs.compute_free_vars.Hiding.{below, found-known, hide-counts, hide-wanted, show-counts, show-wanted}

-- ---- hiding the pairs of a run, which the loop reads from i on
two : (run : List ℕ) (i : ℕ) → 2 ≤ i → i < length run → drop (i - 1) run ≡ get_or run (i - 1) 0 ∷ (get_or run i 0 ∷ drop (i + 2 - 1) run)
two run i l h =
    let next : suc (i - 1) ≡ i = omega arith in
    let after : suc i ≡ i + 2 - 1 = omega arith in
    drop-cons run (i - 1) 0 (omega arith) ∙ rw next (ap (λ (x : List ℕ). get_or run (i - 1) 0 ∷ x) (drop-cons run i 0 h ∙ rw after))

none_left : (tags values index : List ℕ) (kind : PairKind) (run : List ℕ) (i v : ℕ) → length run ≤ i → binders_of tags values index kind (drop (i - 1) run) v ≡ 0
unfolding binders_of
none_left tags values index kind run i v h = by-test (ltb (i - 1) (length run))
    (λ e. let l = ltb-true (i - 1) (length run) e in
    rw (drop-cons run (i - 1) 0 l, drop_of_length-le run {i = suc (i - 1)} (omega arith)))
    (λ e. rw (drop_of_length-le run {i = i - 1} (ltb-false (i - 1) (length run) e)))

pub record Hiding (tags values index : List ℕ) (kind : PairKind) (run state₀ state : List ℕ) (i : ℕ) : Type 0 where
  pub from : 2 ≤ i
  pub counts : (v : ℕ) → v < cell_limit → get_or state₀ v 0 + binders_of tags values index kind (drop 1 run) v
      ≡ get_or state v 0 + binders_of tags values index kind (drop (i - 1) run) v
  pub wanted : Wanted tags values index state
  pub few : (v : ℕ) → v < cell_limit → get_or state v 0 ≤ 67108864 + i

pub record Showing (tags values index : List ℕ) (kind : PairKind) (run state₀ state : List ℕ) (i : ℕ) : Type 0 where
  pub from : 2 ≤ i
  pub counts : (v : ℕ) → v < cell_limit → get_or state v 0 + binders_of tags values index kind (drop 1 run) v
      ≡ get_or state₀ v 0 + binders_of tags values index kind (drop (i - 1) run) v
  pub wanted : Wanted tags values index state

module _ (tags values index : List ℕ) (kind : PairKind) (run : List ℕ) (state₀ state : List ℕ) (i : ℕ) where
  pub hiding-end : Hiding tags values index kind run state₀ state i → length run ≤ i → Hid tags values index kind (drop 1 run) state₀ state
  hiding-end s h = record {
    counts = λ v l. omega (arith, s.counts v l, none_left tags values index kind run i v h);
    wanted = s.wanted;
  }

  pub showing-end : Showing tags values index kind run state₀ state i → length run ≤ i → Shown tags values index kind (drop 1 run) state₀ state
  showing-end s h = record {
    counts = λ v l. omega (arith, s.counts v l, none_left tags values index kind run i v h);
    wanted = s.wanted;
  }

  module _ (h : i < length run) (f : Option ℕ) (is : f ≡ variable_of tags values index kind (get_or run (i - 1) 0) (get_or run i 0)) (from : 2 ≤ i) where
    -- the pairs from i on: the one there, and the rest
    one-pair : (v : ℕ) → binders_of tags values index kind (drop (i - 1) run) v ≡ cond (is_place f v) 1 0 + binders_of tags values index kind (drop (i + 2 - 1) run) v
    unfolding binders_of
    one-pair v = rw (two run i from h, is)

    module _ (e : f ≡ None) where
      pub hiding-none : Hiding tags values index kind run state₀ state i → Hiding tags values index kind run state₀ state (i + 2)
      hiding-none s = record {
        from = omega arith;
        counts = λ v l. omega (arith, s.counts v l, rw e at (one-pair v));
        wanted = s.wanted;
        few = λ v l. omega (arith, s.few v l);
      }

      pub showing-none : Showing tags values index kind run state₀ state i → Showing tags values index kind run state₀ state (i + 2)
      showing-none s = record { from = omega arith; counts = λ v l. omega (arith, s.counts v l, rw e at (one-pair v)); wanted = s.wanted }

    module _ (w : ℕ) (e : f ≡ Some w) (table : List ℕ) (pairs : PairTable tags values index table) where
      there : place_of tags values index (get_or run (i - 1) 0) (pair_sort values kind (get_or run i 0)) ≡ Some w
      unfolding variable_of
      there = sym is ∙ e

      known : Known tags values index w
      known = found-known tags values index table pairs _ _ w there

      pub pair-below : w < cell_limit
      pair-below = below tags values index table pairs w known

      module _ (s : Hiding tags values index kind run state₀ state i) where
        pub hiding-within : w < length state
        hiding-within = omega (arith, pair-below, s.wanted.size)

        pub hiding-small : length run ≤ cell_limit → get_or state w 0 < 4294967295
        hiding-small l = omega (arith, s.few w pair-below)

        pub hiding-next : (after : List ℕ) → after ≡ hide_at table state w → Hiding tags values index kind run state₀ after (i + 2)
        hiding-next after a = record {
          from = omega arith;
          counts = λ v l. omega (arith, s.counts v l, one v l, rw e at (one-pair v));
          wanted = rw a (hide-wanted table state w pair-below s.wanted.size tags values index pairs known s.wanted);
          few = λ v l. omega (arith, s.few v l, one v l, one-most (eqb w v));
        }
          where
            one : (v : ℕ) → v < cell_limit → get_or after v 0 ≡ get_or state v 0 + cond (eqb w v) 1 0
            one v l = rw a (hide-counts table state w pair-below s.wanted.size v l)

            one-most : (c : Bool) → cond c 1 0 ≤ 1
            one-most true = omega arith
            one-most false = omega arith

      module _ (s : Showing tags values index kind run state₀ state i) (bound : Bound tags values index kind (drop 1 run) state₀) where
        pub showing-within : w < length state
        showing-within = omega (arith, pair-below, s.wanted.size)

        pub showing-some : 0 < get_or state w 0
        showing-some = omega (arith, s.counts w pair-below, bound.at w pair-below, rw (e, eq-eqb w w refl) at (one-pair w))

        pub showing-next : (after : List ℕ) → after ≡ show_at table state w → Showing tags values index kind run state₀ after (i + 2)
        showing-next after a = record {
          from = omega arith;
          counts = λ v l. omega (arith, s.counts v l, one v l, rw e at (one-pair v));
          wanted = rw a (show-wanted table state w pair-below s.wanted.size tags values index pairs known s.wanted showing-some);
        }
          where
            one : (v : ℕ) → v < cell_limit → get_or after v 0 + cond (eqb w v) 1 0 ≡ get_or state v 0
            one v l = rw a (show-counts table state w pair-below s.wanted.size showing-some v l)

pub ruleset hides = (hiding-end, hiding-none, hiding-next)

pub ruleset shows = (showing-end, showing-none, showing-next)
