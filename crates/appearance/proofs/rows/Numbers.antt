-- The numbers of variables: laws of `number_of` and of the loop that writes them.
--     number-injective     two variables with one number are one
--     number-words         the bit of a variable below n stands in a row's words
--     words_small          a row has at most 257 words
-- Assumes nothing.
use Prim.Native.Nat.{ℕ, zero, suc, ◌+◌, ◌-◌, ◌/◌, ◌≤◌, ◌<◌}
use mathlib.Core.Path.{◌≡◌, refl, sym, ◌∙◌}
use mathlib.Core.List.{List}
use lib.ListN.{length, get_or, set, length-set}
use lib.Seq.{get_or-set_same, get_or-set_other}
use lib.Dec.{ltb, eqb}
use native.Mathlib.Omega.{arith}
use native.Mathlib.Numerals.{add-one}
use borrow.Author.Tests.{eqb-true, eqb-false, ne_eqb, ltb-true, ltb-false}
use Rattle.cells.specs.ByPlace.{by-test}
use Rattle.appearance.specs.Rows.{number_of, words_of, Numbered}

module _ (tags : List ℕ) where
  number-variable : (p : ℕ) → get_or tags p 0 ≡ 21 → number_of tags (suc p) ≡ number_of tags p + 1
  unfolding number_of
  number-variable p e = rw e

  number-other : (p : ℕ) → (get_or tags p 0 ≡ 21 → ⊥) → number_of tags (suc p) ≡ number_of tags p
  unfolding number_of
  number-other p n = rw (ne_eqb (get_or tags p 0) 21 n) (omega arith)

  -- one more place has at most one more variable
  number_step : (p : ℕ) → (number_of tags p ≤ number_of tags (suc p)) × (number_of tags (suc p) ≤ number_of tags p + 1)
  number_step p =
      by-test (eqb (get_or tags p 0) 21)
      (λ o. let e = number-variable p (eqb-true _ _ o) in (omega arith, omega arith))
      (λ o. let e = number-other p (eqb-false _ _ o) in (omega arith, omega arith))

  number-grows : (d p : ℕ) → number_of tags p ≤ number_of tags (p + d)
  number-grows zero p = let e : p + 0 ≡ p = omega arith in rw e (omega arith)
  number-grows (suc d) p =
      let e : p + suc d ≡ suc (p + d) = omega arith in
      rw e (omega (arith, number-grows d p, (number_step (p + d)).0))

  pub number_small : (p : ℕ) → number_of tags p ≤ p
  unfolding number_of
  number_small zero = omega arith
  number_small (suc p) = omega (arith, number_small p, (number_step p).1)

  pub number-less : (v w : ℕ) → get_or tags v 0 ≡ 21 → v < w → number_of tags v < number_of tags w
  number-less v w e h =
      let d : ℕ = w - suc v in
      let q : suc v + d ≡ w = omega arith in
      omega (arith, number-variable v e, rw q at (number-grows d (suc v)))

  pub number-injective : (v w : ℕ) → get_or tags v 0 ≡ 21 → get_or tags w 0 ≡ 21 → number_of tags v ≡ number_of tags w → v ≡ w
  number-injective v w e f q =
      by-test (ltb v w)
      (λ o. absurd (omega (arith, number-less v w e (ltb-true v w o))))
      (λ o. by-test (ltb w v)
      (λ p. absurd (omega (arith, number-less w v f (ltb-true w v p))))
      (λ p. omega (arith, ltb-false v w o, ltb-false w v p)))

  pub number-words : (n v : ℕ) → v < n → get_or tags v 0 ≡ 21 → number_of tags v / 32 < words_of tags n
  unfolding words_of
  number-words n v h e = omega (arith, number-less v n e h)

  pub words_small : (n : ℕ) → n ≤ 8192 → words_of tags n ≤ 257
  unfolding words_of
  words_small n h = omega (arith, number_small n)

  pub words_are : (n count : ℕ) → count ≡ number_of tags n → count / 32 + 1 ≡ words_of tags n
  unfolding words_of
  words_are n count e = rw e

-- ---- the loop at p: the variables below p have their numbers, and are counted
pub record Numbering (tags : List ℕ) (n : ℕ) (table₀ table : List ℕ) (count p : ℕ) : Type 0 where
  pub within : p ≤ n
  pub long : length table ≡ length table₀
  pub count-is : count ≡ number_of tags p
  pub numbered : Numbered tags p table

module _ (tags : List ℕ) (n : ℕ) (table₀ : List ℕ) where
  pub number-start : Numbering tags n table₀ table₀ 0 0
  unfolding number_of
  number-start = record { within = omega arith; long = refl; count-is = refl; numbered = record { at = λ v h e. absurd (omega arith) } }

  module _ (table : List ℕ) (count p : ℕ) (s : Numbering tags n table₀ table count p) where
    pub number_fits : n ≤ 8192 → count ≤ 8192
    number_fits h = omega (arith, s.within, s.count-is, number_small tags p)

    module _ (h : p < n) (tag : ℕ) (is : tag ≡ get_or tags p 0) where
      pub number-skip : (tag ≡ 21 → ⊥) → Numbering tags n table₀ table count (p + 1)
      number-skip k = record {
        within = omega arith;
        long = s.long;
        count-is = rw (add-one p, number-other tags p (λ e. k (is ∙ e))) s.count-is;
        numbered = record {
          at = λ v g e. by-test (eqb v p)
              (λ o. absurd (k (is ∙ rw (eqb-true v p o) at e)))
              (λ o. s.numbered.at v (let m = eqb-false v p o in omega arith) e);
        };
      }

      pub number-next : tag ≡ 21 → n ≤ length table₀ → Numbering tags n table₀ (set table p count) (count + 1) (p + 1)
      number-next k l = record {
        within = omega arith;
        long = length-set table p count ∙ s.long;
        count-is = rw (add-one p, number-variable tags p (sym is ∙ k), s.count-is);
        numbered = record {
          at = λ v g e. by-test (eqb v p)
              (λ o. rw (eqb-true v p o, get_or-set_same table p count 0 (omega (arith, s.long))) s.count-is)
              (λ o. rw (get_or-set_other table p v count 0 (eqb-false v p o)) (s.numbered.at v (let m = eqb-false v p o in omega arith) e));
        };
      }

pub ruleset numbers = (number-start, number-skip, number-next)
