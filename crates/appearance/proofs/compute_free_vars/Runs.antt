-- Laws of the walks along a run and along a let's values. The loop has `rest` of the run before it.
-- Assumes nothing.
use Prim.Native.Nat.{ℕ, suc, ◌+◌, ◌-◌, ◌≤◌, ◌<◌}
use mathlib.Core.Path.{◌≡◌, refl, sym, ◌∙◌}
use mathlib.Core.List.{List, [], ◌∷◌, ◌++◌, append-nil, append_assoc}
use lib.ListN.{length, get_or, drop, drop_of_length-le}
use lib.Seq.{drop-cons}
use lib.Dec.{ltb}
use native.Mathlib.Numerals.{add-one}
use native.Mathlib.Omega.{arith}
use borrow.Author.Tests.{ltb-true, ltb-false}
use Rattle.cells.specs.ByPlace.{by-test}
use Rattle.cells.specs.Cell.{operands_of}
use Rattle.free_variables.specs.Free.{values_in, let_values}
use Rattle.free_variables.specs.Appearing.{joined, occurrences_at}
use Rattle.free_variables.specs.Occurs.{occurs_among}
use Rattle.free_variables.proofs.appearing.Steps.{occurs-below, occurs-not-below}
use Rattle.appearance.specs.declared.compute_free_vars.Found.{Found}
use Rattle.appearance.specs.Walk.{Walked, Going, Ask, SameArrays}
use Rattle.appearance.proofs.compute_free_vars.Gathering.{new_none, gather_none, gather-then}
use Rattle.appearance.proofs.compute_free_vars.Laws.{below-limit}

-- arrays that two walks after each other leave what they were
pub same-then : (a b c : Found) → SameArrays a b → SameArrays b c → SameArrays a c
same-then a b c s s' = record { state = s'.state ∙ s.state; places = s'.places ∙ s.places; long = s'.long ∙ s.long }

-- what is left of a let's values, where the loop is at i
unfoldable pub values_from : List ℕ → ℕ → List ℕ
values_from run i = values_in (drop (i - 1) run)

-- one term of a run before t, and one that does not stand before it
module _ (tags values : List ℕ) (t u : ℕ) (rest : List ℕ) where
  among_first : u < t → occurs_among tags values t (u ∷ rest) ≡ occurrences_at tags values u ++ occurs_among tags values t rest
  unfolding occurs_among joined
  among_first l = rw (occurs-below tags values t u l)

  among-skip : t ≤ u → occurs_among tags values t (u ∷ rest) ≡ occurs_among tags values t rest
  unfolding occurs_among joined
  among-skip l = rw (occurs-not-below tags values t u l)

among-end : (tags values : List ℕ) (t : ℕ) → occurs_among tags values t [] ≡ []
unfolding occurs_among joined
among-end tags values t = refl

module _ (tags values index table : List ℕ) (words : ℕ) (state found : List ℕ) (len t : ℕ) (ask : Ask tags values index table words state found len t) where
  start : (run : List ℕ) → Going tags values index state found len t (occurs_among tags values t run) run state found len
  start run = record {
    done = [];
    split = refl;
    long = refl;
    walked = record { gathered = gather_none state found len [] ask.room (new_none state); wanted = ask.wanted };
  }

  module _ (total rest state' found' : List ℕ) (len' : ℕ) (g : Going tags values index state found len t total rest state' found' len') where
    finish : rest ≡ [] → Walked tags values index state found len total state' found' len'
    finish e =
        let all : total ≡ g.done = g.split ∙ rw (e, among-end tags values t) (append-nil g.done) in
        rw all g.walked

    module _ (u : ℕ) (after : List ℕ) (e : rest ≡ u ∷ after) where
      skip : t ≤ u → Going tags values index state found len t total after state' found' len'
      skip l = record { done = g.done; split = g.split ∙ rw (e, among-skip tags values t u after l); long = g.long; walked = g.walked }

      module _ (l : u < t) where
        step : (state'' found'' : List ℕ) (len'' : ℕ) → length found'' ≡ length found' → Walked tags values index state' found' len' (occurrences_at tags values u) state'' found'' len''
            → Going tags values index state found len t total after state'' found'' len''
        step state'' found'' len'' same w = record {
          done = g.done ++ occurrences_at tags values u;
          split = g.split ∙ rw (e, among_first tags values t u after l) (sym (append_assoc g.done (occurrences_at tags values u) (occurs_among tags values t after)));
          long = same ∙ g.long;
          walked = record {
            gathered = gather-then state found len g.done state' found' len' g.walked.gathered g.long (occurrences_at tags values u)
                (below-limit tags values u (omega (arith, ask.prepared.small))) state'' found'' len'' w.gathered;
            wanted = w.wanted;
          };
        }

  -- ---- the operands of a run
  module _ (run : List ℕ) where
    pub run-start : Going tags values index state found len t (occurs_among tags values t run) (drop 0 run) state found len
    run-start = start run

    module _ (total : List ℕ) (i : ℕ) (state' found' : List ℕ) (len' : ℕ) (g : Going tags values index state found len t total (drop i run) state' found' len') where
      pub run_end : length run ≤ i → Walked tags values index state found len total state' found' len'
      run_end h = finish total (drop i run) state' found' len' g (drop_of_length-le run h)

      module _ (h : i < length run) where
        next : drop i run ≡ get_or run i 0 ∷ drop (i + 1) run
        next = drop-cons run i 0 h ∙ rw (add-one i)

        pub run-skip : t ≤ get_or run i 0 → Going tags values index state found len t total (drop (i + 1) run) state' found' len'
        run-skip l = skip total (drop i run) state' found' len' g (get_or run i 0) (drop (i + 1) run) next l

        module _ (l : get_or run i 0 < t) where
          pub run-next : (state'' found'' : List ℕ) (len'' : ℕ) → length found'' ≡ length found'
              → Walked tags values index state' found' len' (occurrences_at tags values (get_or run i 0)) state'' found'' len''
              → Going tags values index state found len t total (drop (i + 1) run) state'' found'' len''
          run-next state'' found'' len'' same w =
              step total (drop i run) state' found' len' g (get_or run i 0) (drop (i + 1) run) next l state'' found'' len'' same w

    -- ---- a let's values
    pub values-start : Going tags values index state found len t (occurs_among tags values t (let_values run)) (values_from run 2) state found len
    unfolding let_values values_from
    values-start = start (values_in (drop 1 run))

    module _ (total : List ℕ) (i : ℕ) (from : 2 ≤ i) (state' found' : List ℕ) (len' : ℕ)
        (g : Going tags values index state found len t total (values_from run i) state' found' len') where
      pub values-end : length run ≤ i → Walked tags values index state found len total state' found' len'
      unfolding values_from values_in
      values-end h = finish total (values_from run i) state' found' len' g
          (by-test (ltb (i - 1) (length run))
          (λ e. rw (drop-cons run (i - 1) 0 (ltb-true (i - 1) (length run) e), drop_of_length-le run {i = suc (i - 1)} (omega arith)))
          (λ e. rw (drop_of_length-le run {i = i - 1} (ltb-false (i - 1) (length run) e))))

      module _ (h : i < length run) where
        next-value : values_from run i ≡ get_or run i 0 ∷ values_from run (i + 2)
        unfolding values_from values_in
        next-value =
            let second : suc (i - 1) ≡ i = omega arith in
            let after : suc i ≡ i + 2 - 1 = omega arith in
            rw (drop-cons run (i - 1) 0 (omega arith), second, drop-cons run i 0 h, after)

        pub values-skip : t ≤ get_or run i 0 → Going tags values index state found len t total (values_from run (i + 2)) state' found' len'
        values-skip l = skip total (values_from run i) state' found' len' g (get_or run i 0) (values_from run (i + 2)) next-value l

        module _ (l : get_or run i 0 < t) where
          pub values-next : (state'' found'' : List ℕ) (len'' : ℕ) → length found'' ≡ length found'
              → Walked tags values index state' found' len' (occurrences_at tags values (get_or run i 0)) state'' found'' len''
              → Going tags values index state found len t total (values_from run (i + 2)) state'' found'' len''
          values-next state'' found'' len'' same w =
              step total (values_from run i) state' found' len' g (get_or run i 0) (values_from run (i + 2)) next-value l state'' found'' len'' same w

-- ---- the loops
pub record RunAt (tags values index table : List ℕ) (words : ℕ) (state₀ found₀ : List ℕ) (len₀ t : ℕ) (run state found : List ℕ) (len i : ℕ) : Type 0 where
  pub ask : Ask tags values index table words state₀ found₀ len₀ t
  pub is : run ≡ operands_of tags values t
  pub going : Going tags values index state₀ found₀ len₀ t (occurs_among tags values t run) (drop i run) state found len

pub record ValuesAt (tags values index table : List ℕ) (words : ℕ) (state₀ found₀ : List ℕ) (len₀ t : ℕ) (run state found : List ℕ) (len i : ℕ) : Type 0 where
  pub ask : Ask tags values index table words state₀ found₀ len₀ t
  pub is : run ≡ operands_of tags values t
  pub from : 2 ≤ i
  pub going : Going tags values index state₀ found₀ len₀ t (occurs_among tags values t (let_values run)) (values_from run i) state found len

module _ (tags values index table : List ℕ) (words : ℕ) (state₀ found₀ : List ℕ) (len₀ t : ℕ) (run : List ℕ) where
  module _ (ask : Ask tags values index table words state₀ found₀ len₀ t) (is : run ≡ operands_of tags values t) where
    pub run-at-start : RunAt tags values index table words state₀ found₀ len₀ t run state₀ found₀ len₀ 0
    run-at-start = record { ask = ask; is = is; going = run-start tags values index table words state₀ found₀ len₀ t ask run }

    pub values-at-start : ValuesAt tags values index table words state₀ found₀ len₀ t run state₀ found₀ len₀ 2
    values-at-start = record { ask = ask; is = is; from = omega arith; going = values-start tags values index table words state₀ found₀ len₀ t ask run }

  module _ (state found : List ℕ) (len i : ℕ) (s : RunAt tags values index table words state₀ found₀ len₀ t run state found len i) where
    pub run-at-end : length run ≤ i → Walked tags values index state₀ found₀ len₀ (occurs_among tags values t (operands_of tags values t)) state found len
    run-at-end h = rw (← s.is) (run_end tags values index table words state₀ found₀ len₀ t s.ask run (occurs_among tags values t run) i state found len s.going h)

    module _ (h : i < length run) where
      pub run-at-skip : t ≤ get_or run i 0 → RunAt tags values index table words state₀ found₀ len₀ t run state found len (i + 1)
      run-at-skip l = record {
        ask = s.ask;
        is = s.is;
        going = run-skip tags values index table words state₀ found₀ len₀ t s.ask run (occurs_among tags values t run) i state found len s.going h l;
      }

      module _ (l : get_or run i 0 < t) where
        pub run-at-next : (state' found' : List ℕ) (len' : ℕ) → length found' ≡ length found
            → Walked tags values index state found len (occurrences_at tags values (get_or run i 0)) state' found' len'
            → RunAt tags values index table words state₀ found₀ len₀ t run state' found' len' (i + 1)
        run-at-next state' found' len' same w = record {
          ask = s.ask;
          is = s.is;
          going = run-next tags values index table words state₀ found₀ len₀ t s.ask run (occurs_among tags values t run) i state found len s.going h l state' found' len' same w;
        }

  module _ (state found : List ℕ) (len i : ℕ) (s : ValuesAt tags values index table words state₀ found₀ len₀ t run state found len i) where
    pub values-at-end : length run ≤ i → Walked tags values index state₀ found₀ len₀ (occurs_among tags values t (let_values (operands_of tags values t))) state found len
    values-at-end h =
        rw (← s.is) (values-end tags values index table words state₀ found₀ len₀ t s.ask run (occurs_among tags values t (let_values run)) i s.from state found len s.going h)

    module _ (h : i < length run) where
      pub values-at-skip : t ≤ get_or run i 0 → ValuesAt tags values index table words state₀ found₀ len₀ t run state found len (i + 2)
      values-at-skip l = record {
        ask = s.ask;
        is = s.is;
        from = omega (arith, s.from);
        going = values-skip tags values index table words state₀ found₀ len₀ t s.ask run (occurs_among tags values t (let_values run)) i s.from state found len s.going h l;
      }

      module _ (l : get_or run i 0 < t) where
        pub values-at-next : (state' found' : List ℕ) (len' : ℕ) → length found' ≡ length found
            → Walked tags values index state found len (occurrences_at tags values (get_or run i 0)) state' found' len'
            → ValuesAt tags values index table words state₀ found₀ len₀ t run state' found' len' (i + 2)
        values-at-next state' found' len' same w = record {
          ask = s.ask;
          is = s.is;
          from = omega (arith, s.from);
          going = values-next tags values index table words state₀ found₀ len₀ t s.ask run (occurs_among tags values t (let_values run)) i s.from state found len s.going h l state' found' len' same w;
        }

pub ruleset along = (run-at-start, run-at-skip, run-at-next, run-at-end)

pub ruleset along-values = (values-at-start, values-at-skip, values-at-next, values-at-end)
