-- Laws of the pool that two arrays hold: adding a description to the arrays puts it into the pool, or finds no room for it.
-- Assumes nothing.
use Rattle.std.specs.Prelude.{Option, Some, None}
use Prim.Native.Nat.{ℕ, ◌+◌, ◌≤◌, ◌<◌}
use mathlib.Core.Path.{◌≡◌, refl, sym, ◌∙◌}
use mathlib.Core.Bool.{Bool, true, false, ◌&&◌, ◌||◌}
use mathlib.Core.List.{List, ◌∷◌, ◌++◌, append_assoc}
use lib.ListN.{length, take, drop, replicate, length-append, length-replicate}
use lib.Seq.{sets, length-sets, sets-eq, take_at, length-take-le, get_or-take}
use lib.Dec.{leb, ltb}
use native.Mathlib.Omega.{arith}
use borrow.Author.Tests.{le-ltb, le-leb, leb-true, ltb-false}
use Rattle.cells.specs.Place.{term_at}
use Rattle.cells.specs.declared.TermPlace.{TermPlace}
use Rattle.cells.specs.ByPlace.{by-test}
use Rattle.cells.specs.Cell.{is_at}
use Rattle.descriptions.specs.Description.{find, is_full, append, found_or, adding, Added-is}
use Rattle.cells.proofs.Walks.{first-end, first_below}
use Rattle.descriptions.proofs.description.Fills.{Fills, filled, or_else, fills-grown}
use Rattle.descriptions.proofs.description.Growth.{Same, find-grown, new-grown}
use Rattle.formulas.specs.Built.{Pool, Placed, count, extend, place_at, put}
use Rattle.building.specs.Arrays.{pool_of, fits}
use Rattle.building.specs.Walk.{State, Left, Puts}
use Rattle.building.proofs.Interning.{Good, extend-count}

-- ---- whether a pool fits
and_left : (a b : Bool) → (a && b) ≡ true → a ≡ true
and_left true b e = refl
and_left false b e = cc

and_right : (a b : Bool) → (a && b) ≡ true → b ≡ true
and_right true b e = e
and_right false b e = cc

module _ (q : Pool) (size : ℕ) where
  pub fits-true : count q ≤ size → count q ≤ 8192 → fits q size ≡ true
  unfolding fits
  fits-true h l = rw (le-leb (count q) size h, le-leb (count q) 8192 l)

  pub fits-room : fits q size ≡ true → (count q ≤ size) × (count q ≤ 8192)
  unfolding fits
  fits-room e = (leb-true _ _ (and_left (leb (count q) size) _ e), leb-true _ _ (and_right (leb (count q) size) _ e))

-- a pool that does not fit has none after it that does
pub fits_not : (q q' : Pool) (size : ℕ) → count q ≤ count q' → fits q size ≡ false → fits q' size ≡ false
fits_not q q' size h e =
    by-test (fits q' size)
    (λ y. let (a, b) = fits-room q' size y in let z : false ≡ true = sym e ∙ fits-true q size (omega arith) (omega arith) in cc)
    (λ y. y)

-- ---- the pool that arrays hold
pub pool-count : (tags values : List ℕ) (n : ℕ) → n ≤ length tags → count (pool_of tags values n) ≡ n
pool-count tags values n h = length-take-le n tags h

module _ (end n : ℕ) (tags values : List ℕ) (s : State end n tags values) where
  counted : count (pool_of tags values n) ≡ n
  counted = pool-count tags values n s.within

  fills-part : Fills (take n values) n 0
  fills-part = fills-grown values n (take n values) n (omega arith) (λ i h. get_or-take n values i 0 h) s.fills filled

  pub pool-good : Good (pool_of tags values n)
  pool-good = record {
    size = length-take-le n values (omega (arith, s.within, s.size)) ∙ sym counted;
    fills = rw counted fills-part;
  }

  -- a description is found in the arrays where it is found in the pool
  pool-find : (tag : ℕ) (cells : List ℕ) → find (take n tags) (take n values) (count (pool_of tags values n)) tag cells ≡ find tags values n tag cells
  pool-find tag cells =
      let same : Same n (take n tags) (take n values) tags values = record {
        long = omega (arith, length-take-le n values (omega (arith, s.within, s.size)));
        long' = omega (arith, s.within, s.size);
        tags-same = λ i h. sym (get_or-take n tags i 0 h);
        values_same = λ i h. sym (get_or-take n values i 0 h);
      } in
      rw counted
      (sym (find-grown n (take n tags) (take n values) tags values same n tag cells (omega arith) fills-part
      ∙ (rw (← first-end values n (λ q. is_at tags values q tag cells) _ n refl (omega arith)) (none (find (take n tags) (take n values) n tag cells)))))
    where
      none : (f : Option ℕ) → or_else f None ≡ f
      none (Some p) = refl
      none None = refl

-- ---- stores from n on
module _ (vs l : List ℕ) (n : ℕ) (h : n + length vs ≤ length l) where
  sets-whole : (m : ℕ) → m ≡ n + length vs → take m (sets l n vs) ≡ take n l ++ vs
  sets-whole m e =
      rw (sets-eq vs l n h)
      (take_at (take n l ++ vs) (drop (n + length vs) l) m
      (simp length-append (omega (arith, length-take-le n l (omega arith)))))

  sets-front : take n (sets l n vs) ≡ take n l
  sets-front =
      rw (sets-eq vs l n h, append_assoc)
      (take_at (take n l) (vs ++ drop (n + length vs) l) n (length-take-le n l (omega arith)))

-- ---- adding a description to arrays of one length
or-false : (a b : Bool) → (a || b) ≡ false → (a ≡ false) × (b ≡ false)
or-false true b e = absurd (let z : ◌≡◌ {A = ℕ} 0 1 = cc in omega arith)
or-false false b e = (refl, e)

module _ (tags values : List ℕ) (n k : ℕ) (size : length tags ≡ length values) where
  full-not : n + 1 + k ≤ length tags → n + 1 + k ≤ 8192 → is_full tags values 8192 n k ≡ false
  unfolding is_full
  full-not h l = rw (le-ltb 4294967295 k (omega arith), le-ltb (length tags) (n + 1 + k) h, le-ltb (length values) (n + 1 + k) (omega arith), le-ltb 8192 (n + 1 + k) l)

  room_for : is_full tags values 8192 n k ≡ false → (n + 1 + k ≤ length tags) × (n + 1 + k ≤ 8192)
  unfolding is_full
  room_for e =
      let end : ℕ = n + 1 + k in
      let (a, r) = or-false (ltb 4294967295 k) (ltb (length tags) end || (ltb (length values) end || ltb 8192 end)) e in
      let (b, r) = or-false (ltb (length tags) end) (ltb (length values) end || ltb 8192 end) r in
      let (d, r) = or-false (ltb (length values) end) (ltb 8192 end) r in
      (ltb-false (length tags) end b, ltb-false 8192 end r)

by-found : {P : Type 0} (f : Option ℕ) → ((p : ℕ) → f ≡ Some p → P) → (f ≡ None → P) → P
by-found (Some p) at nothing = at p refl
by-found None at nothing = nothing refl

module _ (n : ℕ) (tags values : List ℕ) (s : State n n tags values) (tag : ℕ) (cells : List ℕ) where
  abbrev o : Placed
  o = put (pool_of tags values n) tag cells

  -- what adding comes to: the description stands; or there is no room; or it is written after n
  data Case : Option ℕ → ℕ → List ℕ → List ℕ → Type 0 where
    stood : {p : ℕ} → find tags values n tag cells ≡ Some p → Case (Some p) n tags values
    refused : find tags values n tag cells ≡ None → is_full tags values 8192 n (length cells) ≡ true → Case None n tags values
    written : find tags values n tag cells ≡ None → is_full tags values 8192 n (length cells) ≡ false
        → Case (Some n) (n + 1 + length cells) (sets tags n (tag ∷ replicate (length cells) 0)) (sets values n (length cells ∷ cells))

  module _ (f : Option ℕ) (e : find tags values n tag cells ≡ f) where
    put_is : o ≡ place_at (pool_of tags values n) tag cells f
    unfolding put
    put_is = rw (pool-find n n tags values s tag cells, e)

  kept : Left n tags values tags values
  kept = record { tags-size = refl; values-size = refl; tags-kept = refl; values-kept = refl }

  puts-stood : (p : ℕ) → find tags values n tag cells ≡ Some p → Puts n tags values o (Some ((term_at p), n)) tags values
  unfolding find
  puts-stood p e = record {
    outcome = rw (put_is (Some p) e) (record { pool-is = refl; place_is = refl; below = first_below values n _ p e; state = s });
    left = kept;
  }

  puts-refused : find tags values n tag cells ≡ None → is_full tags values 8192 n (length cells) ≡ true → Puts n tags values o None tags values
  puts-refused e y = record {
    outcome = rw (put_is None e)
        (by-test (fits (extend (pool_of tags values n) tag cells) (length tags))
        (λ w.
        let (a, b) = fits-room (extend (pool_of tags values n) tag cells) (length tags) w in
        let k : count (extend (pool_of tags values n) tag cells) ≡ n + 1 + length cells =
        omega (arith, extend-count (pool_of tags values n) tag cells, counted n n tags values s) in
        let z : true ≡ false = sym y ∙ full-not tags values n (length cells) s.size (omega arith) (omega arith) in cc)
        (λ w. w));
    left = kept;
  }

  puts-written : (tags' values' : List ℕ) → find tags values n tag cells ≡ None → is_full tags values 8192 n (length cells) ≡ false
      → tags' ≡ sets tags n (tag ∷ replicate (length cells) 0) → values' ≡ sets values n (length cells ∷ cells)
      → Fills values' (n + 1 + length cells) 0
      → Puts n tags values o (Some ((term_at n), (n + 1 + length cells))) tags' values'
  puts-written tags' values' e y te ve f =
      let (a, b) = room_for tags values n (length cells) s.size y in
      let lt : length tags' ≡ length tags = rw te (length-sets tags n (tag ∷ replicate (length cells) 0)) in
      let lv : length values' ≡ length values = rw ve (length-sets values n (length cells ∷ cells)) in
      let rt : n + length (tag ∷ replicate (length cells) 0) ≤ length tags = simp length-replicate (omega arith) in
      let rv : n + length (length cells ∷ cells) ≤ length values = omega (arith, s.size) in
      let pt : take (n + 1 + length cells) tags' ≡ take n tags ++ (tag ∷ replicate (length cells) 0) =
      rw te (sets-whole (tag ∷ replicate (length cells) 0) tags n rt (n + 1 + length cells) (simp length-replicate (omega arith))) in
      let pv : take (n + 1 + length cells) values' ≡ take n values ++ (length cells ∷ cells) =
      rw ve (sets-whole (length cells ∷ cells) values n rv (n + 1 + length cells) (omega arith)) in
      record {
        outcome = rw (put_is None e) (record {
          pool-is = rw (pt, pv);
          place_is = sym (counted n n tags values s);
          below = omega arith;
          state = record { size = lt ∙ s.size ∙ sym lv; within = omega arith; small = b; fills = f; source = omega arith };
        });
        left = record {
          tags-size = lt;
          values-size = lv;
          tags-kept = rw te (sets-front (tag ∷ replicate (length cells) 0) tags n rt);
          values-kept = rw ve (sets-front (length cells ∷ cells) values n rv);
        };
      }

  -- the place and the count, as a call answers them
  abbrev answer : Option ℕ → ℕ → Option (TermPlace × ℕ)
  answer (Some p) m = Some ((term_at p), m)
  answer None m = None

  module _ (r : Option ℕ) (m : ℕ) (tags' values' : List ℕ) (i : Added-is tags values 8192 n tag cells r m tags' values') where
    case : Case r m tags' values'
    unfolding adding found_or append
    case =
        rw (i.place, i.count, i.tags-are, i.values-are)
        (by-found (find tags values n tag cells) (λ p e. rw e (stood e))
        (λ e. by-test (is_full tags values 8192 n (length cells)) (λ b. rw (e, b) (refused e b)) (λ b. rw (e, b) (written e b))))

    puts-answer : Puts n tags values o (answer r m) tags' values'
    puts-answer = go case (λ p e h. (new-grown tags values 8192 n tag cells r m tags' values' i s.fills p e h).fills)
      where
        go : {a : Option ℕ} {b : ℕ} {t v : List ℕ} → Case a b t v → ((p : ℕ) → a ≡ Some p → n < b → Fills v b 0) → Puts n tags values o (answer a b) t v
        go (stood e) f = puts-stood _ e
        go (refused e y) f = puts-refused e y
        go (written e y) f = puts-written _ _ e y refl refl (f n refl (omega arith))

    pub put_at : (p : ℕ) → r ≡ Some p → Puts n tags values o (Some ((term_at p), m)) tags' values'
    put_at p e = rw e at puts-answer

    pub put-small : (p : ℕ) → r ≡ Some p → p < 8192
    put-small p e = let h = (put_at p e).outcome in omega (arith, h.below, h.state.small)

    pub put_full : r ≡ None → Puts n tags values o None tags' values'
    put_full e = rw e at puts-answer
