-- Laws of the special sort rules: one for each way out of a rule's function and one for each turn of its loop.
-- Assumes nothing.
use Prim.Native.Nat.{ℕ, suc, ◌+◌, ◌-◌, ◌≤◌, ◌<◌}
use mathlib.Core.Path.{◌≡◌, refl}
use mathlib.Core.Bool.{Bool, true, false, cond, not}
use mathlib.Core.List.{List, [], ◌∷◌}
use lib.ListN.{length, get_or, drop, drop_of_length-le}
use lib.Seq.{drop-cons}
use lib.Dec.{ltb, eqb}
use native.Mathlib.Omega.{arith}
use native.Mathlib.Numerals.{add-one}
use borrow.Author.Tests.{lt-ltb, le-ltb, ltb-false, eq-eqb, ne_eqb, eqb-true}
use Rattle.std.specs.Prelude.{Option, Some, None}
use Rattle.std.specs.List.{list_any, find}
use Rattle.cells.specs.ByPlace.{by-test}
use Rattle.cells.specs.Cell.{cells_of, sort_of, same_cells, is_at}
use Rattle.sorts.specs.SortRule.{Computed, place, made, no_answer, is_sort, last_sort, sort_tag, any_real, selected, bit_vector, concat_from, bv_const, rare_list, singleton, by_special}
use Rattle.sorts.specs.declared.special.Special.{Special}
use Rattle.cells.proofs.Cells.{same-lengths, at_other}

nil : (l : List ℕ) → length l ≡ 0 → l ≡ []
nil [] z = refl
nil (x ∷ l) z = absurd (omega arith)

cons : (l : List ℕ) → (length l ≡ 0 → ⊥) → l ≡ get_or l 0 0 ∷ drop 1 l
cons [] n = absurd (n refl)
cons (x ∷ l) n = refl

two : (l : List ℕ) → 2 ≤ length l → l ≡ get_or l 0 0 ∷ (get_or l 1 0 ∷ drop 2 l)
two [] h = absurd (omega arith)
two (x ∷ []) h = absurd (omega arith)
two (x ∷ (y ∷ l)) h = refl

-- ---- what is read of the sort q that the term at o states
module _ (values : List ℕ) (o q : ℕ) (is : q ≡ sort_of values o) (r : ℕ) where
  pub tag_is : (tags : List ℕ) → r ≡ get_or tags q 0 → r ≡ sort_tag tags values o
  unfolding sort_tag
  tag_is tags e = rw (e, is)

  pub part-is : r ≡ get_or values (q + 1) 0 → r ≡ get_or values (sort_of values o + 1) 0
  part-is e = rw (e, is)

-- ---- rules that read the first operand or the last
module _ (tags values : List ℕ) (s : ℕ) (os : List ℕ) where
  module _ (z : length os ≡ 0) where
    pub selected-none : false ≡ is_sort tags values s (selected tags values os)
    unfolding is_sort selected
    selected-none = rw (nil os z)

    pub singleton-none : false ≡ is_sort tags values s (singleton values os)
    unfolding is_sort singleton
    singleton-none = rw (nil os z)

    pub rare-none : (r : Bool) → r ≡ is_at tags values s 8 (0 ∷ []) → r ≡ is_sort tags values s (rare_list values os)
    unfolding is_sort rare_list
    rare-none r e = rw (nil os z) e

  module _ (n : length os ≡ 0 → ⊥) where
    pub rare-some : (q : ℕ) → q ≡ sort_of values (get_or os 0 0) → eqb s q ≡ is_sort tags values s (rare_list values os)
    unfolding is_sort rare_list
    rare-some q is = rw (cons os n, is)

    pub singleton-some :
        (q : ℕ) → q ≡ sort_of values (get_or os 0 0) → (r : Bool) → r ≡ is_at tags values s 12 (q ∷ []) →
        r ≡ is_sort tags values s (singleton values os)
    unfolding is_sort singleton
    singleton-some q is r e = rw (cons os n, e, is)

    module _ (k : ℕ) (tag : k ≡ sort_tag tags values (get_or os 0 0)) where
      pub selected-other : (k ≡ 11 → ⊥) → false ≡ is_sort tags values s (selected tags values os)
      unfolding is_sort selected
      selected-other o = rw (cons os n, ← tag, ne_eqb _ _ o)

      pub selected-array :
          k ≡ 11 → (q : ℕ) → q ≡ sort_of values (get_or os 0 0) → (p : ℕ) → p ≡ get_or values (q + 2) 0 →
          eqb s p ≡ is_sort tags values s (selected tags values os)
      unfolding is_sort selected
      selected-array a q is p e = rw (cons os n, ← tag, eq-eqb _ _ a, e, is)

-- the last of a list
module _ (tags values : List ℕ) (s : ℕ) where
  pub last_none : (os : List ℕ) → length os < 1 → false ≡ is_sort tags values s (last_sort values os)
  unfolding is_sort last_sort
  last_none os h = rw (nil os (omega arith))

  pub last_some :
      (os : List ℕ) → 1 ≤ length os → (q : ℕ) → q ≡ sort_of values (get_or os (length os - 1) 0) →
      eqb s q ≡ is_sort tags values s (last_sort values os)
  unfolding is_sort last_sort
  last_some [] n q is = absurd (omega arith)
  last_some (o ∷ []) n q is = rw is
  last_some (o ∷ (p ∷ os)) n q is =
      let e : length (o ∷ (p ∷ os)) - 1 ≡ suc (length (p ∷ os) - 1) = omega arith in
      last_some (p ∷ os) (omega arith) q (rw e at is)

pub ruleset ends = (last_none, last_some)

pub ruleset selects = (selected-none, selected-other, selected-array)

pub ruleset singletons = (singleton-none, singleton-some)

pub ruleset rare-lists = (rare-none, rare-some)

-- ---- BvConst, which reads the second operand
module _ (tags values : List ℕ) (s : ℕ) where
  pub const-short : (os : List ℕ) → length os < 2 → false ≡ is_sort tags values s (bv_const tags values os)
  unfolding is_sort bv_const
  const-short [] h = refl
  const-short (o ∷ []) h = refl
  const-short (o ∷ (w ∷ os)) h = absurd (omega arith)

  module _ (os : List ℕ) (h : 2 ≤ length os) (k : ℕ) (tag : k ≡ get_or tags (get_or os 1 0) 0) (r : Bool) where
    pub const-known :
        k ≡ 16 → (w : ℕ) → w ≡ get_or values (get_or os 1 0 + 2) 0 → r ≡ is_at tags values s 7 (w ∷ []) →
        r ≡ is_sort tags values s (bv_const tags values os)
    unfolding is_sort bv_const
    const-known a w is e = rw (two os h, ← tag, eq-eqb _ _ a, e, is)

    pub const-param : (k ≡ 16 → ⊥) → r ≡ is_at tags values s 6 [] → r ≡ is_sort tags values s (bv_const tags values os)
    unfolding is_sort bv_const
    const-param o e = rw (two os h, ← tag, ne_eqb _ _ o, e)

pub ruleset consts = (const-short, const-known, const-param)

-- ---- Add, Sub, Mult
module _ (tags values : List ℕ) where
  pub any_real-any : (os : List ℕ) → any_real tags values os ≡ list_any (λ o. eqb (sort_tag tags values o) 3) os
  unfolding any_real
  any_real-any [] = refl
  any_real-any (o ∷ os) = rw (any_real-any os)

  pub arithmetic-is :
      (s : ℕ) (os : List ℕ) (a : Bool) → a ≡ any_real tags values os → (v : Bool) → a ≡ v → (r : Bool) → r ≡ is_at tags values s (cond v 3 2) [] →
      r ≡ is_sort tags values s (made (cond (any_real tags values os) 3 2) [])
  unfolding is_sort
  arithmetic-is s os a is v t r e = rw (← is, t, e)

-- ---- bit-vector operations
module _ (tags values : List ℕ) where
  -- the sort of the first operand that isn't ParamBitVec, if there is one
  pub first_bits : Option ℕ → Computed
  first_bits None = made 6 []
  first_bits (Some o) = cond (eqb (sort_tag tags values o) 7) (place (sort_of values o)) no_answer

  pub bit_vector-first : (os : List ℕ) → bit_vector tags values os ≡ first_bits (find (λ o. not (eqb (sort_tag tags values o) 6)) os)
  unfolding bit_vector first_bits
  bit_vector-first [] = refl
  bit_vector-first (o ∷ os) =
      by-test (eqb (sort_tag tags values o) 6)
      (λ e. let n : eqb (sort_tag tags values o) 7 ≡ false = ne_eqb _ _ (λ s. omega (arith, eqb-true _ _ e)) in rw (e, n) (bit_vector-first os))
      (λ e. rw e)

  module _ (s : ℕ) (os : List ℕ) where
    pub bits-none : None ≡ find (λ o. not (eqb (sort_tag tags values o) 6)) os → (r : Bool) → r ≡ is_at tags values s 6 [] → r ≡ is_sort tags values s (bit_vector tags values os)
    unfolding is_sort first_bits
    bits-none f r e = rw (bit_vector-first os, ← f, e)

    module _ (o : ℕ) (f : Some o ≡ find (λ o. not (eqb (sort_tag tags values o) 6)) os) (k : ℕ) (tag : k ≡ sort_tag tags values o) where
      pub bits-other : (k ≡ 7 → ⊥) → eqb k 7 ≡ is_sort tags values s (bit_vector tags values os)
      unfolding is_sort first_bits
      bits-other n = rw (bit_vector-first os, ← f, ← tag, ne_eqb _ _ n)

      pub bits-here : k ≡ 7 → (q : ℕ) → q ≡ sort_of values o → eqb s q ≡ is_sort tags values s (bit_vector tags values os)
      unfolding is_sort first_bits
      bits-here a q is = rw (bit_vector-first os, ← f, ← tag, eq-eqb _ _ a, is)

-- ---- BvConcat
pub sum_past : (width more : ℕ) → 4294967296 ≤ width → width ≡ cond (ltb width 4294967296) (width + more) width
sum_past width more h = rw (le-ltb _ _ h)

pub sum_fits : (width more : ℕ) → width < 4294967296 → width + more ≡ cond (ltb width 4294967296) (width + more) width
sum_fits width more h = rw (lt-ltb _ _ h)

module _ (tags values : List ℕ) where
  -- any width past u32 gives the same
  past :
      (a b : ℕ) → 4294967296 ≤ a → 4294967296 ≤ b → (param : Bool) (os : List ℕ) →
      concat_from tags values a param os ≡ concat_from tags values b param os
  unfolding concat_from
  past a b ha hb param [] = rw (le-ltb _ _ ha, le-ltb _ _ hb)
  past a b ha hb param (o ∷ os) =
      let more = get_or values (sort_of values o + 1) 0 in
      by-test (eqb (sort_tag tags values o) 7)
      (λ e. rw e (past (a + more) (b + more) (omega arith) (omega arith) param os))
      (λ e. by-test (eqb (sort_tag tags values o) 6)
      (λ f. rw (e, f) (past a b ha hb true os))
      (λ f. rw (e, f)))

  -- the sum that `add_width` gives stands for the sum
  capped :
      (width more : ℕ) (param : Bool) (os : List ℕ) →
      concat_from tags values (width + more) param os ≡ concat_from tags values (cond (ltb width 4294967296) (width + more) width) param os
  capped width more param os =
      by-test (ltb width 4294967296)
      (λ e. rw e)
      (λ e. rw e (past _ _ (omega (arith, ltb-false width 4294967296 e)) (omega (arith, ltb-false width 4294967296 e)) param os))

  -- w is what the operands from i on give, with the sum of the widths before i, and whether a ParamBitVec stands before i
  module _ (w : Computed) (width : ℕ) (param : Bool) (os : List ℕ) (i : ℕ) (inv : w ≡ concat_from tags values width param (drop i os)) (s : ℕ) where
    module _ (h : length os ≤ i) where
      pub concat-param : param ≡ true → (r : Bool) → r ≡ is_at tags values s 6 [] → r ≡ is_sort tags values s w
      unfolding is_sort concat_from
      concat-param p r e = rw (inv, drop_of_length-le os h, p, e)

      module _ (n : param ≡ false) where
        pub concat-fits : width < 4294967296 → (r : Bool) → r ≡ is_at tags values s 7 (width ∷ []) → r ≡ is_sort tags values s w
        unfolding is_sort concat_from
        concat-fits l r e = rw (inv, drop_of_length-le os h, n, lt-ltb _ _ l, e)

        pub concat-past : 4294967296 ≤ width → false ≡ is_sort tags values s w
        unfolding is_sort concat_from
        concat-past l = rw (inv, drop_of_length-le os h, n, le-ltb _ _ l)

    module _ (h : i < length os) (k : ℕ) (tag : k ≡ sort_tag tags values (get_or os i 0)) where
      pub concat-width :
          k ≡ 7 → (more : ℕ) → more ≡ get_or values (sort_of values (get_or os i 0) + 1) 0 →
          (sum : ℕ) → sum ≡ cond (ltb width 4294967296) (width + more) width → w ≡ concat_from tags values sum param (drop (i + 1) os)
      unfolding concat_from
      concat-width a more m sum e =
          rw (inv, drop-cons os i 0 h, ← tag, eq-eqb _ _ a, ← m, e, add-one i) (capped width more param (drop (suc i) os))

      pub concat-next : k ≡ 6 → w ≡ concat_from tags values width true (drop (i + 1) os)
      unfolding concat_from
      concat-next a =
          let o : eqb k 7 ≡ false = ne_eqb _ _ (λ b. omega (arith, a, b)) in
          rw (inv, drop-cons os i 0 h, ← tag, o, eq-eqb _ _ a, add-one i)

      pub concat-other : (k ≡ 7 → ⊥) → (k ≡ 6 → ⊥) → false ≡ is_sort tags values s w
      unfolding is_sort concat_from
      concat-other o p = rw (inv, drop-cons os i 0 h, ← tag, ne_eqb _ _ o, ne_eqb _ _ p)

pub ruleset sums = (sum_past, sum_fits)

pub ruleset concats = (concat-param, concat-fits, concat-past, concat-width, concat-other, concat-next)

-- ---- a width that is a count of operands
-- k is the tag at s, and run its cells
module _ (tags values : List ℕ) (s tag count k : ℕ) (is : k ≡ get_or tags s 0) (e : k ≡ tag) (run : List ℕ) (cells : run ≡ cells_of values s) where
  pub width-parts : (length run ≡ 1 → ⊥) → false ≡ is_at tags values s tag (count ∷ [])
  unfolding is_at
  width-parts n = rw (← is, eq-eqb _ _ e, ← cells) (same-lengths run (count ∷ []) n)

  pub width_is : length run ≡ 1 → (w : ℕ) → w ≡ get_or run 0 0 → eqb w count ≡ is_at tags values s tag (count ∷ [])
  unfolding is_at same_cells
  width_is l w q = rw (← is, eq-eqb _ _ e, ← cells, q) (one run l)
    where
      one : (run : List ℕ) → length run ≡ 1 → eqb (get_or run 0 0) count ≡ same_cells run (count ∷ [])
      one [] l = absurd (omega arith)
      one (x ∷ []) l = by-test (eqb x count) (λ e. rw e) (λ e. rw e)
      one (x ∷ (y ∷ run)) l = absurd (omega arith)

pub ruleset widths = (at_other, width-parts, width_is)

-- ---- any special rule
-- r says whether the sort at s is the one that the rule k gives
pub special-is : (tags values : List ℕ) (s : ℕ) (special k : Special) (os : List ℕ) (r : Bool)
    → special ≡ k → r ≡ is_sort tags values s (by_special tags values k os) → r ≡ is_sort tags values s (by_special tags values special os)
special-is tags values s special k os r e q = rw e q
