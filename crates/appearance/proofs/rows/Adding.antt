-- Adding to a row: laws of ways through `add_term`, `add_run` and `add_values`.
-- Assumes nothing.
use Prim.Native.Nat.{ℕ, suc, ◌+◌, ◌%◌, ◌≤◌, ◌<◌}
use mathlib.Core.Path.{◌≡◌, sym, ap, ◌∙◌}
use mathlib.Core.Bool.{Bool, true}
use mathlib.Core.List.{List, [], ◌∷◌}
use lib.ListN.{length, get_or, drop, length-drop}
use lib.Seq.{get_or-drop}
use lib.Dec.{ltb, eqb}
use native.Mathlib.Omega.{arith}
use borrow.Author.Tests.{eqb-true, eqb-false, ltb-true}
use Rattle.cells.specs.ByPlace.{by-test}
use Rattle.free_variables.specs.Free.{any_of, values_in, let_values}
use Rattle.free_variables.specs.FreeMemo.{free_below}
use Rattle.free_variables.specs.Names.{free_in}
use Rattle.free_variables.specs.NamesWalk.{free_among}
use Rattle.free_variables.proofs.term_names.Laws.{find-nothing, find-variable}
use Rattle.appearance.specs.Bits.{in_row, with_bit}
use Rattle.appearance.specs.Rows.{number_of, Holds, Grown, RowAdded, Filled, Ready, Adds}
use Rattle.appearance.proofs.bits.Laws.{clash, with-long, with-other, with-bit, with-keeps}
use Rattle.appearance.proofs.rows.Kept.{holds-grown, ready-kept, ready-fewer}
use Rattle.appearance.proofs.rows.Numbers.{number-words}
use Rattle.appearance.proofs.rows.Words.{grown-same, grown-both, filled_row}

-- ---- a term
module _ (tags : List ℕ) (words : ℕ) (a : List ℕ) (to u tag : ℕ) (is : tag ≡ get_or tags u 0) where
  pub term-none : tag < 21 → Adds tags words a (u + 1) to a (λ values. free_in tags values u)
  term-none h = record {
    grown = grown-same a to;
    holds = λ values n r. record { at = λ v l e t. clash (sym ((find-nothing tags values u tag is h).at v e) ∙ t) };
  }

  module _ (l : 21 ≤ tag) (slot : ℕ) (q : slot ≡ get_or a u 0) (a' : List ℕ) where
    pub term-variable : tag < 22 → a' ≡ with_bit a to slot → Adds tags words a (u + 1) to a' (λ values. free_in tags values u)
    term-variable h w = rw w (record {
      grown = record {
        long = with-long a to slot;
        below = λ i k. with-other a to slot i (λ z. omega arith);
        bits = with-keeps a to slot;
      };
      holds = λ values n r. record { at = λ v b e t. here values n r v b e t };
    })
      where
        here : (values : List ℕ) (n : ℕ) → Ready tags values n words a (u + 1) to → (v : ℕ) → v < n → get_or tags v 0 ≡ 21
            → free_in tags values u v ≡ true → in_row (with_bit a to slot) to (number_of tags v) ≡ true
        here values n r v b e t =
            let o : v ≡ u = eqb-true v u (sym ((find-variable tags values u tag is l h).1.at v e) ∙ t) in
            let k : slot ≡ number_of tags v = q ∙ rw (← o) (r.rows.numbered.at v b e) in
            rw (← k) (with-bit a to slot (rw k (omega (arith, r.room, r.rows.words_are, number-words tags n v b e))))

    pub term-filled : 22 ≤ tag → slot ≡ 0 → Filled a to words a' → Adds tags words a (u + 1) to a' (λ values. free_in tags values u)
    term-filled h z f = record {
      grown = f.grown;
      holds = λ values n r. record {
        at = λ v b e t. filled_row a to words a' f r.room _ (omega (arith, r.rows.words_are, number-words tags n v b e));
      };
    }

    pub term-row : 22 ≤ tag → (slot ≡ 0 → ⊥) → RowAdded a to slot words a' → Adds tags words a (u + 1) to a' (λ values. free_in tags values u)
    term-row h z f = record { grown = f.grown; holds = λ values n r. record { at = λ v b e t. there values n r v b e t } }
      where
        there : (values : List ℕ) (n : ℕ) → Ready tags values n words a (u + 1) to → (v : ℕ) → v < n → get_or tags v 0 ≡ 21
            → free_in tags values u v ≡ true → in_row a' to (number_of tags v) ≡ true
        there values n r v b e t =
            let k : 21 < get_or tags u 0 = omega arith in
            let i : u < u + 1 = omega arith in
            let s : Holds tags n a slot (free_in tags values u) = rw q (r.rows.free u i k (λ y. z (q ∙ y))) in
            f.added (omega (arith, r.rows.ends u i k)) r.room _ (omega (arith, r.rows.words_are, number-words tags n v b e)) (s.at v b e t)

pub ruleset terms = (term-none, term-variable, term-filled, term-row)

-- ---- one more term that stands before t
module _ (tags : List ℕ) (words : ℕ) (a₀ : List ℕ) (to t : ℕ) (a a' : List ℕ) (u : ℕ)
    (s : Adds tags words a (u + 1) to a' (λ values. free_in tags values u)) (h : u < t) (g : Grown a₀ to a) where
  one-held : (values : List ℕ) (n : ℕ) → Ready tags values n words a₀ t to → Holds tags n a' to (free_in tags values u)
  one-held values n r =
      s.holds values n (ready-fewer tags values n words a t to (ready-kept tags values n words a₀ t to r a g.long g.below) (u + 1) (omega arith))

-- v is free in a term that stands before t
below_free : (tags values : List ℕ) (v t u : ℕ) → free_below tags values v t u ≡ true → (u < t) × (free_in tags values u v ≡ true)
unfolding free_below free_in
below_free tags values v t u e =
    by-test (ltb u t)
    (λ o. (ltb-true u t o, rw o at e))
    (λ o. clash (rw o at e))

-- ---- a run: the loop at i
any-in : (test : ℕ → Bool) (run : List ℕ) → any_of test run ≡ true → (j : ℕ) × ((j < length run) × (test (get_or run j 0) ≡ true))
unfolding any_of
any-in test [] e = clash e
any-in test (u ∷ run) e =
    by-test (test u)
    (λ o. (0, (omega arith, o)))
    (λ o. let (j, (h, k)) = any-in test run (rw o at e) in (suc j, (omega arith, k)))

pub record RunAdding (tags : List ℕ) (words : ℕ) (a₀ : List ℕ) (to t : ℕ) (run a : List ℕ) (i : ℕ) : Type 0 where
  pub grown : Grown a₀ to a
  pub passed : (values : List ℕ) (n : ℕ) → Ready tags values n words a₀ t to → (j : ℕ) → j < i → get_or run j 0 < t → Holds tags n a to (free_in tags values (get_or run j 0))

module _ (tags : List ℕ) (words : ℕ) (a₀ : List ℕ) (to t : ℕ) (run : List ℕ) (a : List ℕ) (i : ℕ) (s : RunAdding tags words a₀ to t run a i) where
  pub run-late : t ≤ get_or run i 0 → RunAdding tags words a₀ to t run a (i + 1)
  run-late l = record {
    grown = s.grown;
    passed = λ values n r j h k. by-test (eqb j i)
        (λ o. absurd (let q : j ≡ i = eqb-true j i o in omega (arith, ap (λ (x : ℕ). get_or run x 0) q)))
        (λ o. s.passed values n r j (let q = eqb-false j i o in omega arith) k);
  }

  pub run_more : get_or run i 0 < t → (a' : List ℕ) → Adds tags words a (get_or run i 0 + 1) to a' (λ values. free_in tags values (get_or run i 0))
      → RunAdding tags words a₀ to t run a' (i + 1)
  run_more l a' d = record {
    grown = grown-both a₀ a a' to s.grown d.grown;
    passed = λ values n r j h k. by-test (eqb j i)
        (λ o. rw (eqb-true j i o) (one-held tags words a₀ to t a a' (get_or run i 0) d l s.grown values n r))
        (λ o. holds-grown tags n a to a' _ d.grown (s.passed values n r j (let q = eqb-false j i o in omega arith) k));
  }

  pub run_end : length run ≤ i → Adds tags words a₀ t to a (λ values. free_among tags values t run)
  unfolding free_among
  run_end l = record {
    grown = s.grown;
    holds = λ values n r. record {
      at = λ v b e f.
          let (j, (h, k)) = any-in (free_below tags values v t) run f in
          let (x, y) = below_free tags values v t (get_or run j 0) k in
          (s.passed values n r j (omega arith) x).at v b e y;
    };
  }

pub ruleset run-additions = (run-late, run_more, run_end)

-- ---- a let's values: the loop at i, which is even
any_value : (test : ℕ → Bool) (list : List ℕ) → any_of test (values_in list) ≡ true
    → (j : ℕ) × ((j % 2 ≡ 1) × ((j < length list) × (test (get_or list j 0) ≡ true)))
unfolding any_of values_in
any_value test [] e = clash e
any_value test (x ∷ []) e = clash e
any_value test (x ∷ (u ∷ list)) e =
    by-test (test u)
    (λ o. (1, (omega arith, (omega arith, o))))
    (λ o. let (j, (p, (h, k))) = any_value test list (rw o at e) in (suc (suc j), (omega arith, (omega arith, k))))

any-let : (test : ℕ → Bool) (run : List ℕ) → any_of test (let_values run) ≡ true
    → (j : ℕ) × ((j % 2 ≡ 0) × ((2 ≤ j) × ((j < length run) × (test (get_or run j 0) ≡ true))))
unfolding let_values
any-let test run e =
    let (j, (p, (h, k))) = any_value test (drop 1 run) e in
    (1 + j, (omega arith, (omega arith, (omega (arith, length-drop 1 run), rw (get_or-drop 1 run j 0) at k))))

pub record ValuesAdding (tags : List ℕ) (words : ℕ) (a₀ : List ℕ) (to t : ℕ) (run a : List ℕ) (i : ℕ) : Type 0 where
  pub even : i % 2 ≡ 0
  pub grown : Grown a₀ to a
  pub passed : (values : List ℕ) (n : ℕ) → Ready tags values n words a₀ t to → (j : ℕ) → j % 2 ≡ 0 → 2 ≤ j → j < i → get_or run j 0 < t
      → Holds tags n a to (free_in tags values (get_or run j 0))

module _ (tags : List ℕ) (words : ℕ) (a₀ : List ℕ) (to t : ℕ) (run : List ℕ) (a : List ℕ) (i : ℕ) (s : ValuesAdding tags words a₀ to t run a i) where
  pub values-late : t ≤ get_or run i 0 → ValuesAdding tags words a₀ to t run a (i + 2)
  values-late l = record {
    even = omega (arith, s.even);
    grown = s.grown;
    passed = λ values n r j p b h k. by-test (eqb j i)
        (λ o. absurd (let q : j ≡ i = eqb-true j i o in omega (arith, ap (λ (x : ℕ). get_or run x 0) q)))
        (λ o. s.passed values n r j p b (let q = eqb-false j i o in omega (arith, s.even)) k);
  }

  pub values-more : get_or run i 0 < t → (a' : List ℕ) → Adds tags words a (get_or run i 0 + 1) to a' (λ values. free_in tags values (get_or run i 0))
      → ValuesAdding tags words a₀ to t run a' (i + 2)
  values-more l a' d = record {
    even = omega (arith, s.even);
    grown = grown-both a₀ a a' to s.grown d.grown;
    passed = λ values n r j p b h k. by-test (eqb j i)
        (λ o. rw (eqb-true j i o) (one-held tags words a₀ to t a a' (get_or run i 0) d l s.grown values n r))
        (λ o. holds-grown tags n a to a' _ d.grown (s.passed values n r j p b (let q = eqb-false j i o in omega (arith, s.even)) k));
  }

  pub values-end : length run ≤ i → Adds tags words a₀ t to a (λ values. free_among tags values t (let_values run))
  unfolding free_among
  values-end l = record {
    grown = s.grown;
    holds = λ values n r. record {
      at = λ v b e f.
          let (j, (p, (c, (h, k)))) = any-let (free_below tags values v t) run f in
          let (x, y) = below_free tags values v t (get_or run j 0) k in
          (s.passed values n r j p c (omega arith) x).at v b e y;
    };
  }

pub ruleset value-additions = (values-late, values-more, values-end)
