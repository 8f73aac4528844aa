-- Rows of words: laws of adding one row to another and of filling one.
--     grown-same, grown-both, grown-set     a row grows
--     filled_row                            all bits of a row that is filled are set
-- Assumes nothing.
use Prim.Native.Nat.{ℕ, ◌+◌, ◌-◌, ◌/◌, ◌%◌, ◌≤◌, ◌<◌, min}
use mathlib.Core.Path.{◌≡◌, refl, ◌∙◌}
use mathlib.Core.Bool.{true, or-true}
use mathlib.Core.List.{List}
use lib.ListN.{replicate, length, get_or, set, length-set}
use lib.Seq.{get_or-set_same, get_or-set_other}
use lib.Bits.{bit_or}
use lib.Dec.{leb, ltb}
use native.Mathlib.Omega.{arith}
use borrow.Rule.Slice.PartMut.{put_mid, same_len_mid}
use borrow.Author.Rules.{rules}
use Rattle.std.proofs.lemmas.List.{places}
use borrow.Author.Tests.{leb-true, leb-false, ltb-true, ltb-false}
use Rattle.cells.specs.ByPlace.{by-test}
use Rattle.appearance.specs.Bits.{test_bit, in_row}
use Rattle.appearance.specs.Rows.{Grown, Filled}
use Rattle.appearance.proofs.bits.Laws.{test-or, test-every, row_more}

-- ---- a row grows
pub grown-same : (a : List ℕ) (to : ℕ) → Grown a to a
grown-same a to = record { long = refl; below = λ i h. refl; bits = λ k e. e }

pub grown-both : (a b c : List ℕ) (to : ℕ) → Grown a to b → Grown b to c → Grown a to c
grown-both a b c to p q = record {
  long = q.long ∙ p.long;
  below = λ i h. q.below i h ∙ p.below i h;
  bits = λ k e. q.bits k (p.bits k e);
}

-- a word of the row, or after it, gets more bits
pub grown-set : (a₀ : List ℕ) (to : ℕ) (a : List ℕ) (i x : ℕ) → Grown a₀ to a → to ≤ i
    → ((c : ℕ) → c < 32 → test_bit (get_or a i 0) c ≡ true → test_bit x c ≡ true) → Grown a₀ to (set a i x)
grown-set a₀ to a i x s h more = record {
  long = length-set a i x ∙ s.long;
  below = λ j l. get_or-set_other a i j x 0 (λ e. omega arith) ∙ s.below j l;
  bits = λ k e. row_more a to k i x (λ c q r t. more c (omega arith) t) (s.bits k e);
}

-- ---- filling a row: the words from `start` on and before `end`
module _ (a : List ℕ) (start end : ℕ) (ys : List ℕ) (low : start ≤ end) (high : end ≤ length a) (all : ys ≡ replicate (end - start) 4294967295) where
  fill-inside : (i : ℕ) → start ≤ i → i < end → get_or (put_mid start (end - start) a ys) i 0 ≡ 4294967295
  fill-inside i h l = rw all (search (rules, places))

  fill-outside : (i : ℕ) → (start ≤ i → end ≤ i) → get_or (put_mid start (end - start) a ys) i 0 ≡ get_or a i 0
  fill-outside i h = rw all (search (rules, places))

  fill-bits : (to k : ℕ) → in_row a to k ≡ true → in_row (put_mid start (end - start) a ys) to k ≡ true
  unfolding in_row
  fill-bits to k e = by-test (leb start (to + k / 32))
      (λ o. by-test (ltb (to + k / 32) end)
      (λ p. rw (fill-inside (to + k / 32) (leb-true _ _ o) (ltb-true _ _ p)) (test-every (k % 32) (omega arith)))
      (λ p. rw (fill-outside (to + k / 32) (λ q. ltb-false _ _ p)) e))
      (λ o. rw (fill-outside (to + k / 32) (λ q. absurd (omega (arith, leb-false _ _ o)))) e)

  pub fill-words : (to words : ℕ) → start ≡ min (length a) to → end ≡ min (length a) (to + words) → Filled a to words (put_mid start (end - start) a ys)
  fill-words to words f g = record {
    grown = record {
      long = same_len_mid start (end - start) a ys (rw all (search (rules, places)));
      below = λ i l. fill-outside i (λ k. omega arith);
      bits = fill-bits to;
    };
    every = λ j h l. fill-inside (to + j) (omega arith) (omega arith);
  }

pub filled_row : (a : List ℕ) (to words : ℕ) (a' : List ℕ) → Filled a to words a' → to + words ≤ length a → (k : ℕ) → k / 32 < words → in_row a' to k ≡ true
unfolding in_row
filled_row a to words a' s h k l = rw (s.every (k / 32) l (omega arith)) (test-every (k % 32) (omega arith))

-- ---- adding a row: the loop at j
pub record AddingRow (a₀ : List ℕ) (to from words : ℕ) (a : List ℕ) (j : ℕ) : Type 0 where
  pub within : j ≤ words
  pub grown : Grown a₀ to a
  pub added : from + words ≤ to → to + words ≤ length a₀ → (k : ℕ) → k / 32 < j → in_row a₀ from k ≡ true → in_row a to k ≡ true

module _ (a₀ : List ℕ) (to from words : ℕ) (a : List ℕ) (j : ℕ) (s : AddingRow a₀ to from words a j)
    (h : j < words) (f g : ℕ) (p : f ≡ to) (q : g ≡ j)
    (d e x : ℕ) (r : d ≡ from) (o : e ≡ j) (is : x ≡ get_or a (d + e) 0) (l : f + g < length a) where
  grows : Grown a₀ to (set a (f + g) (bit_or (get_or a (f + g) 0) x))
  grows = grown-set a₀ to a (f + g) _ s.grown (omega arith) (λ c b t. rw (test-or c, t))

  -- the word that is added
  new_word : from + words ≤ to → (k : ℕ) → k / 32 ≡ j → in_row a₀ from k ≡ true → in_row (set a (f + g) (bit_or (get_or a (f + g) 0) x)) to k ≡ true
  unfolding in_row
  new_word u k z t =
      let w : f + g ≡ to + k / 32 = omega arith in
      let y : x ≡ get_or a₀ (from + k / 32) 0 = is ∙ rw (r, o, ← z) (s.grown.below (from + k / 32) (omega arith)) in
      rw (← w, get_or-set_same a (f + g) (bit_or (get_or a (f + g) 0) x) 0 l, test-or (k % 32), y, t, or-true)

  pub add-more : AddingRow a₀ to from words (set a (f + g) (bit_or (get_or a (f + g) 0) x)) (j + 1)
  add-more = record {
    within = omega arith;
    grown = grows;
    added = λ u v k m t. by-test (ltb (k / 32) j)
        (λ b. row_more a to k (f + g) _ (λ c q i w. rw (test-or c, w)) (s.added u v k (ltb-true _ _ b) t))
        (λ b. new_word u k (omega (arith, ltb-false (k / 32) j b)) t);
  }
