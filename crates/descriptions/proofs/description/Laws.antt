-- Laws of `Description`, one for each way out of the code.
-- Assumes nothing.
use Rattle.std.specs.Prelude.{Option, Some, None, is_some}
use Prim.Native.Nat.{ℕ, ◌+◌, ◌-◌, ◌≤◌, ◌<◌, min}
use mathlib.Core.Path.{◌≡◌, refl, sym, ap, ◌∙◌}
use mathlib.Core.Bool.{Bool, true, false, ◌||◌}
use mathlib.Core.List.{List, ◌∷◌, append-nil}
use Rattle.std.proofs.Common.{append_assoc}
use Rattle.cells.specs.ByPlace.{by-test}
use lib.ListN.{length, get_or, drop, set, replicate, drop_of_length-le, length-drop, length-set, length-replicate}
use lib.Seq.{sets, sets-eq, length-sets, length-take-le, drop-drop, take_all}
use lib.Dec.{leb, ltb}
use native.Mathlib.Omega.{arith}
use native.Mathlib.Numerals.{add-one}
use borrow.Author.Tests.{lt-ltb, le-ltb, ltb-false, leb-true, leb-false}
use Rattle.cells.specs.Cell.{cells_of}
use Rattle.descriptions.specs.Description.{find, is_found, repeats, is_full, append, found_or, adding, Added-is, Room, Put, zero_from}
use borrow.Rule.Slice.PartMut.{mid_of, put_mid}

-- ---- check 15: f is what is found below p
pub repeats-is : (tags values : List ℕ) (p tag : ℕ) (cells : List ℕ) → tag ≡ get_or tags p 0 → cells ≡ cells_of values p → (f : Option ℕ) → f ≡ find tags values p tag cells
    → (r : Bool) → r ≡ is_some f → r ≡ repeats tags values p
unfolding repeats
repeats-is tags values p tag cells t c f is r e = rw (e, ← t, ← c, ← is) (some f)
  where
    some : (f : Option ℕ) → is_some f ≡ is_found f
    some (Some q) = refl
    some None = refl

-- ---- no room
or-false : (a b : Bool) → (a || b) ≡ false → (a ≡ false) × (b ≡ false)
or-false true b e = absurd (let z : ◌≡◌ {A = ℕ} 0 1 = cc in omega arith)
or-false false b e = (refl, e)

module _ (tags values : List ℕ) (limit n k : ℕ) where
  pub full-cells : 4294967295 < k → true ≡ is_full tags values limit n k
  unfolding is_full
  full-cells h = rw (lt-ltb _ _ h)

  module _ (h : k ≤ 4294967295) where
    pub full_start : length tags ≤ n → true ≡ is_full tags values limit n k
    unfolding is_full
    full_start l = rw (le-ltb _ _ h, lt-ltb (length tags) (n + 1 + k) (omega arith))

    module _ (s : n < length tags) where
      pub full-tags : length tags - n ≤ k → true ≡ is_full tags values limit n k
      unfolding is_full
      full-tags l = rw (le-ltb _ _ h, lt-ltb (length tags) (n + 1 + k) (omega arith))

      module _ (t : k < length tags - n) where
        pub full-values : length values < n + 1 + k → true ≡ is_full tags values limit n k
        unfolding is_full
        full-values l = rw (le-ltb _ _ h, le-ltb (length tags) (n + 1 + k) (omega arith), lt-ltb _ _ l)

        pub full-limit : n + 1 + k ≤ length values → ltb limit (n + 1 + k) ≡ is_full tags values limit n k
        unfolding is_full
        full-limit l = rw (le-ltb _ _ h, le-ltb (length tags) (n + 1 + k) (omega arith), le-ltb _ _ l)

pub ruleset fullness = (full-cells, full_start, full-tags, full-values, full-limit)

module _ (tags values : List ℕ) (limit n k : ℕ) (full : Bool) (is : full ≡ is_full tags values limit n k) (e : full ≡ false) where
  pub has_room : Room tags values n k
  unfolding is_full
  has_room =
      let (a, r) = or-false _ _ (sym is ∙ e) in
      let (b, r) = or-false _ _ r in
      let (d, r) = or-false _ _ r in
      record { in-tags = ltb-false _ _ b; in-values = ltb-false _ _ d; in_cell = ltb-false _ _ a }

  pub in-limit : n + 1 + k ≤ limit
  unfolding is_full
  in-limit =
      let (a, r) = or-false (ltb 4294967295 k) _ (sym is ∙ e) in
      let (b, r) = or-false (ltb (length tags) (n + 1 + k)) _ r in
      let (d, r) = or-false (ltb (length values) (n + 1 + k)) _ r in
      ltb-false limit (n + 1 + k) r

-- ---- writing a description: a part of an array is replaced, from `at` on
pub part-sets : (at k : ℕ) (a part new : List ℕ) → at + k ≤ length a → part ≡ new → length new ≡ k → put_mid at k a part ≡ sets a at new
part-sets at k a part new h e l = rw (e, sets-eq new a at (omega arith), drop-drop k at a, ← l) (simp append_assoc)

-- a part that is filled with zeroes
pub filled : (at k : ℕ) (a part : List ℕ) → at + k ≤ length a → part ≡ replicate (length (mid_of at k a)) 0 → part ≡ replicate k 0
filled at k a part h e = e ∙ ap (λ n. replicate n 0) (length-take-le k (drop at a) (rw length-drop (omega arith)))

pub cells-put : (at k : ℕ) (tags values cells tag-part value-part : List ℕ) → at + k ≤ length tags → at + k ≤ length values → k ≡ length cells
    → tag-part ≡ replicate k 0 → value-part ≡ cells → Put tags values at (replicate (length cells) 0) cells (put_mid at k tags tag-part) (put_mid at k values value-part)
cells-put at k tags values cells tag-part value-part t v n e c = record {
  tags-are = rw (← n) (part-sets at k tags tag-part (replicate k 0) t e (length-replicate k 0));
  values-are = part-sets at k values value-part cells v c (sym n);
}

-- a header and then its cells
module _ (tags values : List ℕ) (n tag : ℕ) (cells tags' values' : List ℕ)
    (s : Put (set tags n tag) (set values n (length cells)) (n + 1) (replicate (length cells) 0) cells tags' values') where
  pub put-tags-long : length tags' ≡ length tags
  put-tags-long = rw (s.tags-are, length-sets, length-set)

  pub put-values-long : length values' ≡ length values
  put-values-long = rw (s.values-are, length-sets, length-set)

  pub put-header : Put tags values n (tag ∷ replicate (length cells) 0) (length cells ∷ cells) tags' values'
  put-header = record { tags-are = rw add-one at s.tags-are; values-are = rw add-one at s.values-are }

pub ruleset headers = (put-tags-long, put-values-long, put-header)

-- ---- adding: f is what is found below n, and full says whether there is no room
module _ (tags values : List ℕ) (limit n tag : ℕ) (cells : List ℕ) (f : Option ℕ) (is : f ≡ find tags values n tag cells) where
  pub add-there : (p : ℕ) → f ≡ Some p → Added-is tags values limit n tag cells (Some p) n tags values
  unfolding adding found_or
  add-there p e = record { place = rw (← is, e); count = rw (← is, e); tags-are = rw (← is, e); values-are = rw (← is, e) }

  module _ (e : f ≡ None) (full : Bool) (room : full ≡ is_full tags values limit n (length cells)) where
    pub add-full : full ≡ true → Added-is tags values limit n tag cells None n tags values
    unfolding adding found_or append
    add-full y = record { place = rw (← is, e, ← room, y); count = rw (← is, e, ← room, y); tags-are = rw (← is, e, ← room, y); values-are = rw (← is, e, ← room, y) }

    pub add-new : full ≡ false → (end : ℕ) → end ≡ n + 1 + length cells → (tags' values' : List ℕ)
        → Put tags values n (tag ∷ replicate (length cells) 0) (length cells ∷ cells) tags' values'
        → Added-is tags values limit n tag cells (Some n) end tags' values'
    unfolding adding found_or append
    add-new y end q tags' values' s = record {
      place = rw (← is, e, ← room, y);
      count = rw (← is, e, ← room, y, q);
      tags-are = s.tags-are ∙ rw (← is, e, ← room, y);
      values-are = s.values-are ∙ rw (← is, e, ← room, y);
    }

-- ---- cutting back
-- the cells from the lesser of n and the length on are zeroes
pub zeroed : (n k : ℕ) (a part : List ℕ) → k ≡ min n (length a) → part ≡ replicate (length a - k) 0 → put_mid k (length a - k) a part ≡ zero_from n a
unfolding zero_from
zeroed n k a part is e =
    by-test (leb n (length a))
    (λ l. let h : n ≤ length a = leb-true n (length a) l in
    let q : k ≡ n = omega arith in
    rw (e, q, drop-drop (length a - n) n a, drop_of_length-le a {i = n + (length a - n)} (omega arith), append-nil))
    (λ l. let h : length a < n = leb-false n (length a) l in
    let q : k ≡ length a = omega arith in
    let z : length a - length a ≡ 0 = omega arith in
    let y : length a - n ≡ 0 = omega arith in
    rw (e, q, z, y, take_all (length a) a (omega arith), take_all n a (omega arith), drop_of_length-le a {i = length a} (omega arith)))
