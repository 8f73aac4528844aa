-- The table of all rows: laws of the loop of `make_all`.
-- Assumes nothing.
use Prim.Native.Nat.{ℕ, ◌+◌, ◌≤◌, ◌<◌}
use mathlib.Core.Path.{◌≡◌, ap, ◌∙◌}
use mathlib.Core.List.{List}
use lib.ListN.{length, get_or, set, length-set}
use lib.Seq.{get_or-set_same, get_or-set_other}
use lib.Dec.{eqb}
use native.Mathlib.Omega.{arith}
use borrow.Author.Tests.{eqb-true, eqb-false}
use Rattle.cells.specs.ByPlace.{by-test}
use Rattle.free_variables.specs.Names.{free_in}
use Rattle.appearance.specs.Pairs.{IndexedVariables}
use Rattle.appearance.specs.Rows.{words_of, Numbered, Holds, RowsBelow, Makes}
use Rattle.appearance.proofs.rows.Kept.{holds_kept, rows-kept}
use Rattle.appearance.proofs.rows.Numbers.{words_small}

module _ (tags values : List ℕ) (n words : ℕ) (a : List ℕ) (p next : ℕ) (s : RowsBelow tags values n words a p next) (h : p < n) where
  -- what is written at the place of a term with parts is in no row, and no number
  rows-set : 21 < get_or tags p 0 → (x : ℕ) → RowsBelow tags values n words (set a p x) p next
  rows-set k x = record {
    words_are = s.words_are;
    within = s.within;
    above = s.above;
    numbered = record {
      at = λ v l e. other v (λ q. omega (arith, ap (λ (i : ℕ). get_or tags i 0) q)) ∙ s.numbered.at v l e;
    };
    starts = λ u l t z. rw (other u (λ q. omega arith)) (s.starts u l t (rw (other u (λ q. omega arith)) at z));
    ends = λ u l t. rw (other u (λ q. omega arith)) (s.ends u l t);
    free = λ u l t z.
        let y : get_or a u 0 ≡ 0 → ⊥ = rw (other u (λ q. omega arith)) at z in
        let b : n ≤ get_or a u 0 = s.starts u l t y in
        rw (other u (λ q. omega arith))
        (holds_kept tags n words a (set a p x) (get_or a u 0) (free_in tags values u) s.words_are (λ i f g. other i (λ q. omega arith)) (s.free u l t y));
  }
    where
      other : (i : ℕ) → (i ≡ p → ⊥) → get_or (set a p x) i 0 ≡ get_or a i 0
      other i q = get_or-set_other a p i x 0 q

  -- one more term
  rows_more : (next' : ℕ) → next ≤ next'
      → (21 < get_or tags p 0 → (get_or a p 0 ≡ 0 → ⊥) → n ≤ get_or a p 0)
      → (21 < get_or tags p 0 → get_or a p 0 + words ≤ next')
      → (21 < get_or tags p 0 → (get_or a p 0 ≡ 0 → ⊥) → Holds tags n a (get_or a p 0) (free_in tags values p))
      → RowsBelow tags values n words a (p + 1) next'
  rows_more next' g start end free = record {
    words_are = s.words_are;
    within = omega arith;
    above = omega (arith, s.above);
    numbered = s.numbered;
    starts = λ u l. by-test (eqb u p)
        (λ o. rw (eqb-true u p o) start)
        (λ o. s.starts u (let q = eqb-false u p o in omega arith));
    ends = λ u l. by-test (eqb u p)
        (λ o. rw (eqb-true u p o) end)
        (λ o t. omega (arith, s.ends u (let q = eqb-false u p o in omega arith) t));
    free = λ u l. by-test (eqb u p)
        (λ o. rw (eqb-true u p o) free)
        (λ o. s.free u (let q = eqb-false u p o in omega arith));
  }

-- ---- the loop at p, where the rows end at `next`
pub record Making (tags values : List ℕ) (n words : ℕ) (a : List ℕ) (p next : ℕ) : Type 0 where
  pub long : length a ≡ 73728
  pub low : 8192 ≤ next
  pub high : next ≤ 73728
  pub small : n ≤ 8192
  pub words_small : words ≤ 257
  pub rows : RowsBelow tags values n words a p next

module _ (tags values : List ℕ) (n : ℕ) (index : List ℕ) (x : IndexedVariables tags values n index) (words : ℕ) where
  pub making-start : (a : List ℕ) → Numbered tags n a → words ≡ words_of tags n → length a ≡ 73728 → Making tags values n words a 0 8192
  making-start a r w l = record {
    long = l;
    low = omega arith;
    high = omega arith;
    small = x.small;
    words_small = omega (arith, words_small tags n x.small);
    rows = record {
      words_are = w;
      within = omega arith;
      above = x.small;
      numbered = r;
      starts = λ u h. absurd (omega arith);
      ends = λ u h. absurd (omega arith);
      free = λ u h. absurd (omega arith);
    };
  }

  module _ (a : List ℕ) (p next : ℕ) (s : Making tags values n words a p next) (h : p < n) (tag : ℕ) (is : tag ≡ get_or tags p 0) (l : 22 ≤ tag) where
    parts : 21 < get_or tags p 0
    parts = omega arith

    pub making-none : Making tags values n words (set a p 0) (p + 1) next
    making-none = record {
      long = length-set a p 0 ∙ s.long;
      low = s.low;
      high = s.high;
      small = s.small;
      words_small = s.words_small;
      rows = rows_more tags values n words (set a p 0) p next (rows-set tags values n words a p next s.rows (omega arith) parts 0) (omega arith)
          next (omega arith) (λ t z. absurd (z here)) (λ t. rw here (omega (arith, s.low, s.words_small))) (λ t z. absurd (z here));
    }
      where
        here : get_or (set a p 0) p 0 ≡ 0
        here = get_or-set_same a p 0 0 (omega (arith, s.long, s.small))

    pub making-more : next + words ≤ 73728 → (b : List ℕ) → Makes tags values index words a next p b
        → Making tags values n words (set b p next) (p + 1) (next + words)
    making-more r b m = record {
      long = length-set b p next ∙ m.long ∙ s.long;
      low = omega (arith, s.low);
      high = r;
      small = s.small;
      words_small = s.words_small;
      rows = rows_more tags values n words (set b p next) p next (rows-set tags values n words b p next kept (omega arith) parts next) (omega arith)
          (next + words) (omega arith) (λ t z. rw here s.rows.above) (λ t. rw here (omega arith)) (λ t z. rw here row);
    }
      where
        kept : RowsBelow tags values n words b p next
        kept = rows-kept tags values n words a p next s.rows b m.below

        here : get_or (set b p next) p 0 ≡ next
        here = get_or-set_same b p next 0 (omega (arith, m.long, s.long, s.small))

        row : Holds tags n (set b p next) next (free_in tags values p)
        row = holds_kept tags n words b (set b p next) next (free_in tags values p) s.rows.words_are
            (λ i f g. get_or-set_other b p i next 0 (λ e. omega (arith, s.rows.above)))
            (m.holds n x (record { rows = s.rows; room = omega (arith, s.long) }) parts)

pub ruleset makings = (making-start, making-none)
