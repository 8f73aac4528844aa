-- Laws of `Bits`: bits of words, then bits of rows, then ways through the code.
--     test-or, test-xor, test-and, test-power, test-every    a bit of a word
--     with-bit, with-keeps, without-keeps                    what setting and clearing a bit makes of a row
--     with-long, with-other, without-long, without_other     what they leave of the list
--     meets-not                                              two rows that do not meet have no bit in common
-- Assumes nothing.
use Prim.Native.Nat.{ℕ, zero, suc, ◌+◌, ◌-◌, ◌*◌, ◌/◌, ◌%◌, ◌^◌, ◌≤◌, ◌<◌, min, max}
use mathlib.Core.Path.{◌≡◌, refl, sym, ap, ◌∙◌}
use mathlib.Core.Bool.{Bool, true, false, not, ◌&&◌, ◌||◌, cond, or-true}
use mathlib.Core.List.{List}
use lib.ListN.{length, get_or, set, length-set, get_or-eq_default}
use lib.Seq.{get_or-set_same, get_or-set_other, set_out, set-get_or}
use lib.Bits.{bit_and, bit_or, bit_xor, differ, and_step, or_step, xor_step}
use lib.Pow.{pow_pos, shl_exact}
use lib.Dec.{leb, eqb}
use native.Mathlib.Omega.{arith}
use borrow.Author.Tests.{eqb-true, eqb-false, eq-eqb, ne_eqb, leb-true, leb-false, not-false}
use Rattle.cells.specs.ByPlace.{by-test}
use Rattle.cells.proofs.Bounds.{no_more, one_more}
use Rattle.appearance.specs.Bits.{test_bit, in_row, with_bit, without_bit, cleared, common, meets}

pub clash : {C : Type 0} → false ≡ true → C
clash e = absurd (let z : ◌≡◌ {A = ℕ} 0 1 = cc in omega arith)

-- ---- bits of words
halved : (x q m : ℕ) → m < 2 → x ≡ q * 2 + m → x / 2 ≡ q
halved x q m h e = omega arith

lowest : (x q m : ℕ) → m < 2 → x ≡ q * 2 + m → x % 2 ≡ m
lowest x q m h e = omega arith

max-digits : (x y : ℕ) → x < 2 → y < 2 → eqb (max x y) 1 ≡ (eqb x 1 || eqb y 1)
max-digits zero zero h k = refl
max-digits zero (suc zero) h k = refl
max-digits zero (suc (suc y)) h k = absurd (omega arith)
max-digits (suc zero) zero h k = refl
max-digits (suc zero) (suc zero) h k = refl
max-digits (suc zero) (suc (suc y)) h k = absurd (omega arith)
max-digits (suc (suc x)) y h k = absurd (omega arith)

min-digits : (x y : ℕ) → x < 2 → y < 2 → eqb (min x y) 1 ≡ (eqb x 1 && eqb y 1)
min-digits zero zero h k = refl
min-digits zero (suc zero) h k = refl
min-digits zero (suc (suc y)) h k = absurd (omega arith)
min-digits (suc zero) zero h k = refl
min-digits (suc zero) (suc zero) h k = refl
min-digits (suc zero) (suc (suc y)) h k = absurd (omega arith)
min-digits (suc (suc x)) y h k = absurd (omega arith)

differ-digits : (x y : ℕ) → x < 2 → y < 2 → (differ x y < 2) × (eqb (differ x y) 1 ≡ cond (eqb y 1) (not (eqb x 1)) (eqb x 1))
differ-digits zero zero h k = (omega arith, refl)
differ-digits zero (suc zero) h k = (omega arith, refl)
differ-digits zero (suc (suc y)) h k = absurd (omega arith)
differ-digits (suc zero) zero h k = (omega arith, refl)
differ-digits (suc zero) (suc zero) h k = (omega arith, refl)
differ-digits (suc zero) (suc (suc y)) h k = absurd (omega arith)
differ-digits (suc (suc x)) y h k = absurd (omega arith)

pub test-or : (b x y : ℕ) → test_bit (bit_or x y) b ≡ (test_bit x b || test_bit y b)
unfolding test_bit
test-or zero x y = rw (lowest (bit_or x y) _ _ (omega arith) (or_step x y)) (max-digits (x % 2) (y % 2) (omega arith) (omega arith))
test-or (suc b) x y = rw (halved (bit_or x y) _ _ (omega arith) (or_step x y)) (test-or b (x / 2) (y / 2))

pub test-and : (b x y : ℕ) → test_bit (bit_and x y) b ≡ (test_bit x b && test_bit y b)
unfolding test_bit
test-and zero x y = rw (lowest (bit_and x y) _ _ (omega arith) (and_step x y)) (min-digits (x % 2) (y % 2) (omega arith) (omega arith))
test-and (suc b) x y = rw (halved (bit_and x y) _ _ (omega arith) (and_step x y)) (test-and b (x / 2) (y / 2))

pub test-xor : (b x y : ℕ) → test_bit (bit_xor x y) b ≡ cond (test_bit y b) (not (test_bit x b)) (test_bit x b)
unfolding test_bit
test-xor zero x y =
    let d = differ-digits (x % 2) (y % 2) (omega arith) (omega arith) in
    rw (lowest (bit_xor x y) _ _ d.0 (xor_step x y)) d.1
test-xor (suc b) x y =
    rw (halved (bit_xor x y) _ _ (differ-digits (x % 2) (y % 2) (omega arith) (omega arith)).0 (xor_step x y)) (test-xor b (x / 2) (y / 2))

test-none : (b : ℕ) → test_bit 0 b ≡ false
unfolding test_bit
test-none zero = refl
test-none (suc b) = test-none b

power-half : (b : ℕ) → 2 ^ suc b / 2 ≡ 2 ^ b
power-half b = omega arith

pub test-power : (b c : ℕ) → test_bit (2 ^ b) c ≡ eqb b c
unfolding test_bit
test-power zero zero = refl
test-power zero (suc c) = test-none c ∙ sym (ne_eqb 0 (suc c) (λ e. omega arith))
test-power (suc b) zero =
    let z : 2 ^ suc b % 2 ≡ 0 = omega arith in
    rw z (sym (ne_eqb (suc b) 0 (λ e. omega arith)))
test-power (suc b) (suc c) = rw (power-half b) (test-power b c ∙ same)
  where
    same : eqb b c ≡ eqb (suc b) (suc c)
    same = by-test (eqb b c)
        (λ o. rw o (sym (eq-eqb (suc b) (suc c) (ap suc (eqb-true b c o)))))
        (λ o. rw o (sym (ne_eqb (suc b) (suc c) (λ e. eqb-false b c o (omega arith)))))

-- n bits that are set
test-ones : (n b : ℕ) → b < n → test_bit (2 ^ n - 1) b ≡ true
unfolding test_bit
test-ones zero b h = absurd (omega arith)
test-ones (suc n) zero h =
    let p = pow_pos n in
    let z : (2 ^ suc n - 1) % 2 ≡ 1 = omega arith in
    rw z
test-ones (suc n) (suc b) h =
    let p = pow_pos n in
    let z : (2 ^ suc n - 1) / 2 ≡ 2 ^ n - 1 = omega arith in
    rw z (test-ones n b (omega arith))

pub test-every : (b : ℕ) → b < 32 → test_bit 4294967295 b ≡ true
test-every b h = test-ones 32 b h

-- ---- bits of rows
-- a bit of a list that has no such word is clear
pub row-past : (a : List ℕ) (from k : ℕ) → length a ≤ from + k / 32 → in_row a from k ≡ false
unfolding in_row
row-past a from k h = rw (get_or-eq_default a 0 h) (test-none (k % 32))

pub row_within : (a : List ℕ) (from k : ℕ) → in_row a from k ≡ true → from + k / 32 < length a
row_within a from k e =
    by-test (leb (length a) (from + k / 32))
    (λ o. clash (sym (row-past a from k (leb-true _ _ o)) ∙ e))
    (λ o. leb-false _ _ o)

-- the same word
pub row_same : (a b : List ℕ) (from k : ℕ) → get_or b (from + k / 32) 0 ≡ get_or a (from + k / 32) 0 → in_row a from k ≡ true → in_row b from k ≡ true
unfolding in_row
row_same a b from k e h = rw e h

-- a word that has the bits of another, in its place
pub row_more : (a : List ℕ) (from k i x : ℕ) → ((c : ℕ) → c ≡ k % 32 → i ≡ from + k / 32 → test_bit (get_or a i 0) c ≡ true → test_bit x c ≡ true)
    → in_row a from k ≡ true → in_row (set a i x) from k ≡ true
unfolding in_row
row_more a from k i x more e =
    by-test (eqb (from + k / 32) i)
    (λ o.
    let q : from + k / 32 ≡ i = eqb-true _ _ o in
    let h : i < length a = omega (arith, row_within a from k e) in
    rw (q, get_or-set_same a i x 0 h) (more (k % 32) refl (sym q) (rw q at e)))
    (λ o. rw (get_or-set_other a i (from + k / 32) x 0 (eqb-false _ _ o)) e)

module _ (a : List ℕ) (from k : ℕ) where
  pub with-long : length (with_bit a from k) ≡ length a
  unfolding with_bit
  with-long = length-set a _ _

  pub with-other : (i : ℕ) → (i ≡ from + k / 32 → ⊥) → get_or (with_bit a from k) i 0 ≡ get_or a i 0
  unfolding with_bit
  with-other i n = get_or-set_other a _ i _ 0 n

  pub with-bit : from + k / 32 < length a → in_row (with_bit a from k) from k ≡ true
  unfolding in_row with_bit
  with-bit h =
      rw (get_or-set_same a (from + k / 32) _ 0 h, test-or (k % 32), test-power (k % 32) (k % 32), eq-eqb (k % 32) (k % 32) refl, or-true)

  pub with-keeps : (j : ℕ) → in_row a from j ≡ true → in_row (with_bit a from k) from j ≡ true
  unfolding with_bit
  with-keeps j = row_more a from j _ _ (λ c q i e. rw (test-or c, e))

  pub without-long : length (without_bit a from k) ≡ length a
  unfolding without_bit
  without-long = length-set a _ _

  pub without_other : (i : ℕ) → (i ≡ from + k / 32 → ⊥) → get_or (without_bit a from k) i 0 ≡ get_or a i 0
  unfolding without_bit
  without_other i n = get_or-set_other a _ i _ 0 n

  pub without-keeps : (j : ℕ) → (j ≡ k → ⊥) → in_row a from j ≡ true → in_row (without_bit a from k) from j ≡ true
  unfolding without_bit cleared
  without-keeps j n = row_more a from j _ _
      (λ c q i e. by-test (eqb (bit_and (get_or a (from + k / 32) 0) (2 ^ (k % 32))) 0)
      (λ o. rw o e)
      (λ o. rw (o, test-xor c, test-power (k % 32) c, ne_eqb (k % 32) c (λ g. n (omega arith))) e))

-- ---- rows that do not meet
or-none : (x y : Bool) → (x || y) ≡ false → (x ≡ false) × (y ≡ false)
or-none true y e = clash (sym e)
or-none false y e = (refl, e)

module _ (a b : List ℕ) where
  meets_word : (words i from start : ℕ) → meets a from b start words ≡ false → i < words → common (get_or a (from + i) 0) (get_or b (start + i) 0) ≡ false
  unfolding meets
  meets_word zero i from start e h = absurd (omega arith)
  meets_word (suc words) zero from start e h =
      let x : from + 0 ≡ from = omega arith in
      let y : start + 0 ≡ start = omega arith in
      rw (x, y) (or-none _ _ e).0
  meets_word (suc words) (suc i) from start e h =
      let x : from + suc i ≡ from + 1 + i = omega arith in
      let y : start + suc i ≡ start + 1 + i = omega arith in
      rw (x, y) (meets_word words i (from + 1) (start + 1) (or-none (common (get_or a from 0) (get_or b start 0)) _ e).1 (omega arith))

  pub meets-not : (from start words k : ℕ) → meets a from b start words ≡ false → k / 32 < words → in_row a from k ≡ true → in_row b start k ≡ true → ⊥
  unfolding in_row common
  meets-not from start words k e h p q =
      let z : bit_and (get_or a (from + k / 32) 0) (get_or b (start + k / 32) 0) ≡ 0 = eqb-true _ 0 (not-false _ (meets_word words (k / 32) from start e h)) in
      let t : test_bit (bit_and (get_or a (from + k / 32) 0) (get_or b (start + k / 32) 0)) (k % 32) ≡ true = rw (test-and (k % 32), p, q) in
      clash (sym (test-none (k % 32)) ∙ rw z at t)

-- ---- setting a bit: f and g are the numbers of its word
one_shifted : (b : ℕ) → b < 32 → 1 * 2 ^ b % 4294967296 ≡ 2 ^ b
one_shifted b h = shl_exact 1 b 32 (omega arith) (omega arith) ∙ omega arith

module _ (a : List ℕ) (from k f g : ℕ) (p : f ≡ from) (q : g ≡ k / 32) where
  pub set_here : set a (f + g) (bit_or (get_or a (f + g) 0) (1 * 2 ^ (k % 32) % 4294967296)) ≡ with_bit a from k
  unfolding with_bit
  set_here = rw (p, q, one_shifted (k % 32) (omega arith))

  pub set_past : length a ≤ f + g → a ≡ with_bit a from k
  unfolding with_bit
  set_past h = rw (← p, ← q) (sym (set_out a (f + g) _ h))

  -- x is the word
  module _ (x : ℕ) (is : x ≡ get_or a (f + g) 0) where
    pub clear_none : bit_and x (1 * 2 ^ (k % 32) % 4294967296) ≡ 0 → a ≡ without_bit a from k
    unfolding without_bit cleared
    clear_none z =
        let y : bit_and (get_or a (f + g) 0) (2 ^ (k % 32)) ≡ 0 = rw (is, one_shifted (k % 32) (omega arith)) at z in
        rw (← p, ← q, eq-eqb _ 0 y) (sym (set-get_or a (f + g) 0))

    pub clear-here : (bit_and x (1 * 2 ^ (k % 32) % 4294967296) ≡ 0 → ⊥)
        → set a (f + g) (bit_xor (get_or a (f + g) 0) (1 * 2 ^ (k % 32) % 4294967296)) ≡ without_bit a from k
    unfolding without_bit cleared
    clear-here n =
        let m : bit_and (get_or a (f + g) 0) (2 ^ (k % 32)) ≡ 0 → ⊥ = λ y. n (rw (is, one_shifted (k % 32) (omega arith)) y) in
        rw (← p, ← q, ne_eqb _ 0 m, one_shifted (k % 32) (omega arith))

  pub clear-past : length a ≤ f + g → a ≡ without_bit a from k
  unfolding without_bit
  clear-past h = rw (← p, ← q) (sym (set_out a (f + g) _ h))

pub ruleset sets = (set_here, set_past)

pub ruleset clears = (clear_none, clear-here, clear-past)

-- ---- the loop of `meets` at j: what is left says what all says
pub record Meeting (a : List ℕ) (from : ℕ) (b : List ℕ) (start words j : ℕ) : Type 0 where
  pub within : j ≤ words
  pub left : meets a from b start words ≡ meets a (from + j) b (start + j) (words - j)

module _ (a : List ℕ) (from : ℕ) (b : List ℕ) (start words : ℕ) (j : ℕ) (s : Meeting a from b start words j) where
  module _ (h : j < words) (f g k l : ℕ) (p : f ≡ from) (q : g ≡ j) (r : k ≡ start) (o : l ≡ j)
      (x y : ℕ) (at_x : x ≡ get_or a (f + g) 0) (at_y : y ≡ get_or b (k + l) 0) where
    word-x : get_or a (from + j) 0 ≡ x
    word-x = rw (at_x, p, q)

    word-y : get_or b (start + j) 0 ≡ y
    word-y = rw (at_y, r, o)

    pub meet-here : (bit_and x y ≡ 0 → ⊥) → true ≡ meets a from b start words
    unfolding meets common
    meet-here n = rw (s.left, one_more words j h, word-x, word-y, ne_eqb _ 0 n)

    pub meet-more : bit_and x y ≡ 0 → Meeting a from b start words (j + 1)
    unfolding meets common
    meet-more z =
        let u : from + j + 1 ≡ from + (j + 1) = omega arith in
        let v : start + j + 1 ≡ start + (j + 1) = omega arith in
        record { within = omega arith; left = s.left ∙ rw (one_more words j h, word-x, word-y, eq-eqb _ 0 z, u, v) }

  pub meet-end : words ≤ j → false ≡ meets a from b start words
  unfolding meets
  meet-end h = rw (s.left, no_more words j h)

pub ruleset meetings = (meet-here, meet-more, meet-end)
