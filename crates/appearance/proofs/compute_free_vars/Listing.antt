-- Laws of the whole list: what the walk of the top term asks for, and what it leaves.
-- Assumes nothing.
use Prim.Native.Nat.{ℕ, ◌/◌, ◌≤◌, ◌<◌}
use mathlib.Core.Path.{◌≡◌, refl, ap, ◌∙◌}
use mathlib.Core.Bool.{false}
use mathlib.Core.List.{List}
use lib.ListN.{length, get_or, replicate, length-replicate}
use lib.Seq.{take_all}
use lib.Dec.{eqb}
use native.Mathlib.Omega.{arith}
use Rattle.cells.specs.Limits.{cell_limit}
use Rattle.cells.proofs.marks.Laws.{zeros}
use Rattle.free_variables.specs.Names.{free_in}
use Rattle.free_variables.specs.Once.{firsts}
use Rattle.free_variables.specs.Appearing.{occurrences_at, appearing_at}
use Rattle.free_variables.proofs.appearing.Once.{leave_out-none}
use Rattle.free_variables.proofs.appearing.Listed.{listed-few}
use Rattle.appearance.specs.Pairs.{IndexedVariables}
use Rattle.appearance.specs.Rows.{number_of, words_of, Filled, Rows}
use Rattle.appearance.specs.Walk.{Known, Prepared, state_size, is_hidden, new_in, Walked, Ask, Places, Fresh}
use Rattle.appearance.proofs.rows.Numbers.{number_small, number-words}
use Rattle.appearance.proofs.rows.Words.{filled_row}
use Rattle.appearance.proofs.compute_free_vars.Gathering.{leave_out-on}
use Rattle.appearance.proofs.compute_free_vars.Laws.{below-limit}

pub fresh : Fresh (replicate state_size 0)
fresh = record { size = length-replicate {A = ℕ} state_size 0; zeroes = zeros state_size }

module _ (tags values : List ℕ) (n : ℕ) (index : List ℕ) (pool : IndexedVariables tags values n index) where
  known-below : (v : ℕ) → Known tags values index v → v < n
  known-below v k = (pool.found _ _ v k.place).0

  module _ (words : ℕ) (table : List ℕ) (rows : Rows tags values n words table) (t : ℕ) (l : t < n) where
    wide : (v : ℕ) → Known tags values index v → number_of tags v / 32 < words
    wide v k = rw rows.words_are (number-words tags n v (known-below v k) k.tag)

    few_words : words ≤ 257
    unfolding words_of
    few_words = omega (arith, rows.words_are, number_small tags n, pool.small)

    prepared : Prepared tags values index table words t
    unfolding free_in
    prepared = record {
      small = omega (arith, pool.small);
      pairs = record {
        back = pool.back;
        found = λ name sort v e. (omega (arith, pool.small, (pool.found name sort v e).0), (pool.found name sort v e).1);
        numbered = λ v k. rows.numbered.at v (known-below v k) k.tag;
      };
      once = λ v h e. pool.once v (omega arith) e;
      short = λ u h. pool.short u (omega arith);
      wide = wide;
      rows = λ u h tag slot v k free. (rows.free u (omega arith) tag slot).at v (known-below v k) k.tag free;
    }

    module _ (state₀ : List ℕ) (new : Fresh state₀) (state : List ℕ) (filled : Filled state₀ 8192 words state) where
      none_hidden : (v : ℕ) → v < cell_limit → get_or state v 0 ≡ 0
      none_hidden v h = filled.grown.below v h ∙ new.zeroes v

      pub list-ask : (found : List ℕ) → Ask tags values index table words state found 0 t
      list-ask found = record {
        prepared = prepared;
        wanted = record {
          size = filled.grown.long ∙ new.size;
          row = λ v k e. filled_row state₀ 8192 words state filled (omega (arith, new.size, few_words)) (number_of tags v) (wide v k);
        };
        few = record { at = λ v h. omega (arith, none_hidden v h) };
        room = omega arith;
      }

      all_new : new_in state (occurrences_at tags values t) ≡ appearing_at tags values t
      unfolding new_in appearing_at is_hidden
      all_new = ap (firsts eqb)
          (leave_out-on (is_hidden state) (λ v. false) (occurrences_at tags values t)
          (λ v e. rw (none_hidden v ((below-limit tags values t (omega (arith, pool.small))).at v e)))
          ∙ leave_out-none (λ v. false) (λ v. refl) (occurrences_at tags values t))

      pub list-end : (found state' found' : List ℕ) (len : ℕ) → n ≤ length found
          → Walked tags values index state found 0 (occurrences_at tags values t) state' found' len → Places (appearing_at tags values t) found' len
      list-end found state' found' len room w = record {
        within = w.gathered.within;
        are = w.gathered.places ∙ rw all_new (take_all (length found) (appearing_at tags values t) (omega (arith, listed-few tags values t)));
      }
