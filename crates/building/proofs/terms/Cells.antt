-- Laws of the memo made empty, of its indices, of gathering cells in the row, and of a literal.
-- Assumes nothing.
use Rattle.cells.specs.declared.TermPlace.{TermPlace}
use Rattle.std.specs.Prelude.{Option, Some}
use Prim.Native.Nat.{ℕ, zero, suc, ◌+◌, ◌-◌, ◌≤◌, ◌<◌}
use mathlib.Core.Path.{◌≡◌, refl, sym, ap, ◌∙◌}
use mathlib.Core.Bool.{Bool, true, false}
use mathlib.Core.List.{List, [], ◌∷◌, ◌++◌, map}
use lib.ListN.{replicate, length-replicate, drop_of_length-le, length, get_or, take, drop, set, length-set, length-drop, length-take}
use lib.Seq.{take-suc, take-suc-set, take-set-le, take_all, drop-set-add, length-take-le}
use lib.Dec.{ltb}
use native.Mathlib.Omega.{arith}
use native.Mathlib.Numerals.{add-one}
use borrow.Rule.Slice.PartMut.{put_mid, same_len_mid}
use Rattle.std.proofs.lemmas.Slice.{take-put_mid, take-put_mid_below, between_is}
use Rattle.std.proofs.lemmas.List.{take_at, length-append, drop-append-le}
use Rattle.cells.specs.Place.{term_at}
use Rattle.cells.specs.ByPlace.{by-test}
use Rattle.cells.specs.Cell.{cells_of, operands_of}
use Rattle.formulas.specs.Normal.{lit}
use Rattle.formulas.specs.Built.{put, intern}
use Rattle.building.specs.Arrays.{pool_of}
use Rattle.building.specs.Walk.{State, Puts, memo_of, MemoEmpty, RowHolds, slot_of, places_in, run_of}

-- ---- the memo made empty
zero-at : (n i : ℕ) → get_or {A = ℕ} (replicate n 0) i 0 ≡ 0
zero-at zero i = refl
zero-at (suc n) zero = refl
zero-at (suc n) (suc i) = zero-at n i

pub memo-zeroed : (work zeros : List ℕ) → length work ≡ 24576 → (n : ℕ) → 16384 ≡ n → zeros ≡ replicate n 0 → MemoEmpty (zeros ++ drop 16384 work)
unfolding memo_of
memo-zeroed work zeros l n e z =
    let m : length zeros ≡ 16384 = rw z (length-replicate n 0 ∙ sym e) in
    record {
      size = rw (length-append, length-drop) (omega arith);
      none = λ i. rw (take_at zeros (drop 16384 work) 16384 m, z) (zero-at n i);
    }

-- ---- the memo's index
module _ (t : ℕ) (polarity : Bool) where
  pub slot-true : polarity ≡ true → t ≡ slot_of t polarity
  unfolding slot_of
  slot-true e = rw e

  pub slot-false : polarity ≡ false → 8192 + t ≡ slot_of t polarity
  unfolding slot_of
  slot-false e = rw e

pub ruleset slots = (slot-true, slot-false)

module _ (work : List ℕ) (t : ℕ) (polarity : Bool) (i : ℕ) (is : i ≡ slot_of t polarity) (known : ℕ) (read : known ≡ get_or (take 16384 work) i 0) where
  pub place_none : known ≡ 0 → 0 ≡ get_or (memo_of work) (slot_of t polarity) 0 - 1
  unfolding memo_of
  place_none z = rw (← is, ← read, z)

  pub place-known : known - 1 ≡ get_or (memo_of work) (slot_of t polarity) 0 - 1
  unfolding memo_of
  place-known = rw (← is, ← read)

pub ruleset places = (place_none, place-known)

-- ---- cells written to the row, one after another
row-memo : (work : List ℕ) (k p : ℕ) → 16384 ≤ k → memo_of (set work k p) ≡ memo_of work
unfolding memo_of
row-memo work k p h = take-set-le 16384 work k p h

memo-before : (work : List ℕ) (k n : ℕ) (ys : List ℕ) → 16384 ≤ k → k ≤ length work → memo_of (put_mid k n work ys) ≡ memo_of work
unfolding memo_of
memo-before work k n ys h l = take-put_mid_below k n work ys 16384 h l

-- what is written from k on comes after what lies between m and k
rows-joined : (m k n : ℕ) (xs ys : List ℕ) → m ≤ k → k ≤ length xs → length ys ≡ n
    → take (k + n - m) (drop m (put_mid k n xs ys)) ≡ take (k - m) (drop m xs) ++ ys
rows-joined m k n xs ys h l e =
    between_is (put_mid k n xs ys) m (k + n)
    ∙ ap (drop m) (take-put_mid k n xs ys (k + n) (rw e) l)
    ∙ drop-append-le m (take k xs) ys (rw (length-take-le k xs l) h)
    ∙ ap (λ (z : List ℕ). z ++ ys) (sym (between_is xs m k))

-- the row's cells before k are these
pub record Written (memo cells work : List ℕ) (k : ℕ) : Type 0 where
  pub long : length work ≡ 24576
  pub started : 16384 ≤ k
  pub within : k ≤ 24576
  pub memo-same : memo_of work ≡ memo
  pub are : take (k - 16384) (drop 16384 work) ≡ cells

written-first : (work : List ℕ) → length work ≡ 24576 → Written (memo_of work) [] work 16384
written-first work l = record { long = l; started = omega arith; within = omega arith; memo-same = refl; are = refl }

module _ (memo cells work : List ℕ) (k : ℕ) (s : Written memo cells work k) where
  written-more : k < 24576 → (p : ℕ) → Written memo (cells ++ (p ∷ [])) (set work k p) (k + 1)
  written-more h p = record {
    long = length-set work k p ∙ s.long;
    started = omega (arith, s.started);
    within = omega arith;
    memo-same = row-memo work k p s.started ∙ s.memo-same;
    are =
        let e : k + 1 - 16384 ≡ suc (k - 16384) = omega (arith, s.started) in
        let q : k ≡ 16384 + (k - 16384) = omega (arith, s.started) in
        let row : drop 16384 (set work k p) ≡ set (drop 16384 work) (k - 16384) p =
        ap (λ (x : ℕ). drop 16384 (set work x p)) q ∙ drop-set-add 16384 work (k - 16384) p in
        rw (e, row, take-suc-set (drop 16384 work) (k - 16384) p (rw length-drop (omega (arith, s.started, s.long))), s.are);
  }

  written-all : (n : ℕ) (ys : List ℕ) → length ys ≡ n → k + n ≤ 24576 → Written memo (cells ++ ys) (put_mid k n work ys) (k + n)
  written-all n ys e h =
      let w : k ≤ length work = omega (arith, s.long, s.within) in
      record {
        long = same_len_mid k n work ys (e ∙ sym (length-take-le n (drop k work) (rw length-drop (omega (arith, s.long))))) ∙ s.long;
        started = omega (arith, s.started);
        within = h;
        memo-same = memo-before work k n ys s.started w ∙ s.memo-same;
        are = rows-joined 16384 k n work ys s.started w e ∙ rw s.are;
      }

  written-end : (work₀ : List ℕ) → length work₀ ≡ 24576 → memo ≡ memo_of work₀ → RowHolds cells k work₀ work
  written-end work₀ l e = record {
    started = s.started;
    within = s.within;
    are = s.are;
    kept = record { size = s.long ∙ sym l; same = s.memo-same ∙ e };
  }

-- ---- the operands' places
map-append : {A B : Type 0} (f : A → B) (xs ys : List A) → map f (xs ++ ys) ≡ map f xs ++ map f ys
map-append f [] ys = refl
map-append f (x ∷ xs) ys = ap (◌∷◌ (f x)) (map-append f xs ys)

-- the loop of `gather` at j: the row begins with the sort and the places of the first j operands
pub record Gathering (memo : List ℕ) (polarity : Bool) (run work : List ℕ) (k j : ℕ) : Type 0 where
  pub at : k ≡ 16385 + j
  pub passed : j ≤ length run
  pub room : length run < 8192
  pub written : Written memo (0 ∷ places_in memo polarity (take j run)) work k

module _ (polarity : Bool) (run work : List ℕ) where
  module _ (l : length work ≡ 24576) where
    pub gather-start : length run < 8192 → Gathering (memo_of (set work 16384 0)) polarity run (set work 16384 0) 16385 0
    gather-start h = record {
      at = refl;
      passed = omega arith;
      room = h;
      written = rw (row-memo work 16384 0 (omega arith)) (written-more _ [] work 16384 (written-first work l) (omega arith) 0);
    }

    pub gather-end : (work' : List ℕ) (k j : ℕ) → Gathering (memo_of (set work 16384 0)) polarity run work' k j → length run ≤ j
        → RowHolds (0 ∷ places_in (memo_of work) polarity run) k work work'
    gather-end work' k j s h =
        let e = row-memo work 16384 0 (omega arith) in
        rw (← e) (written-end _ _ work' k (rw (take_all j run h) at s.written) work l e)

  pub gather-more : (memo : List ℕ) (k j : ℕ) → Gathering memo polarity run work k j → j < length run → (p : ℕ) → p ≡ get_or (memo_of work) (slot_of (get_or run j 0) polarity) 0 - 1
      → Gathering memo polarity run (set work k p) (k + 1) (j + 1)
  gather-more memo k j s h p e = record {
    at = omega (arith, s.at);
    passed = omega arith;
    room = s.room;
    written =
        let q : p ≡ get_or memo (slot_of (get_or run j 0) polarity) 0 - 1 = rw (← s.written.memo-same) e in
        rw (add-one j, take-suc run j 0 h, map-append (λ u. get_or memo (slot_of u polarity) 0 - 1) (take j run) (get_or run j 0 ∷ []), ← q)
        (written-more memo _ work k s.written (omega (arith, s.at, s.room)) p);
  }

pub ruleset gatherings = (gather-start, gather-more, gather-end)

-- ---- a quantifier's body and pairs
module _ (body : ℕ) (run work : List ℕ) (l : length work ≡ 24576) where
  twice : memo_of (set (set work 16384 0) 16385 body) ≡ memo_of work
  twice = row-memo (set work 16384 0) 16385 body (omega arith) ∙ row-memo work 16384 0 (omega arith)

  first-two : Written (memo_of work) (0 ∷ body ∷ []) (set (set work 16384 0) 16385 body) 16386
  first-two = written-more _ _ _ 16385 (written-more _ [] work 16384 (written-first work l) (omega arith) 0) (omega arith) body

  pub pairs-none : length run < 1 → RowHolds (0 ∷ body ∷ drop 1 run) 16386 work (set (set work 16384 0) 16385 body)
  pairs-none h = rw (drop_of_length-le run {i = 1} (omega arith)) (written-end _ _ _ _ first-two work l refl)

  pub pairs-all : length run < 8192 → (pairs : List ℕ) → pairs ≡ take (length run - 1) (drop 1 run) → (n m : ℕ) → n ≡ length (take (length run - 1) (drop 1 run)) → m ≡ n
      → RowHolds (0 ∷ body ∷ drop 1 run) (16386 + n) work (put_mid 16386 m (set (set work 16384 0) 16385 body) pairs)
  pairs-all h pairs p n m e f =
      let all : take (length run - 1) (drop 1 run) ≡ drop 1 run = take_all (length run - 1) (drop 1 run) (rw length-drop (omega arith)) in
      let d : length pairs < 8191 = rw (p, all, length-drop 1 run) (omega arith) in
      rw (f, ← all, ← p) (written-end _ _ _ _ (written-all _ _ _ 16386 first-two n pairs (rw p (sym e)) (omega (arith, ap length p))) work l refl)

-- ---- parts of the arrays
pub memo-part : (work : List ℕ) → length work ≡ 24576 → 16384 ≡ length (take 16384 work)
memo-part work l = sym (length-take-le 16384 work (omega arith))

module _ (end n : ℕ) (tags values : List ℕ) (s : State end n tags values) where
  pub values-part : end ≡ length (take end values)
  values-part = sym (length-take-le end values (omega (arith, s.source, s.within, s.size)))

  -- a run with the sort before it fits the row
  pub run_short : (t : ℕ) → t < end → (run : List ℕ) → run ≡ run_of end tags values t → length run < 8192
  unfolding operands_of cells_of
  run_short t h run e =
      rw e
      (by-test (ltb (get_or (take end tags) t 0) 22) (λ o. rw o (omega arith))
      (λ o. rw (o, length-drop, length-take, length-drop, ← values-part) (omega (arith, s.source, s.small))))

-- ---- a literal
module _ (n : ℕ) (tags values : List ℕ) (t : ℕ) (polarity : Bool) where
  pub literal-true : polarity ≡ true → State n n tags values → t < n
      → Puts n tags values (intern (lit polarity t) (pool_of tags values n)) (Some ((term_at t), n)) tags values
  unfolding intern
  literal-true e s h =
      rw e (record {
        outcome = record { pool-is = refl; place_is = refl; below = h; state = s };
        left = record { tags-size = refl; values-size = refl; tags-kept = refl; values-kept = refl };
      })

  pub literal-false : polarity ≡ false → (r : Option (TermPlace × ℕ)) (tags' values' : List ℕ)
      → Puts n tags values (put (pool_of tags values n) 34 (0 ∷ t ∷ [])) r tags' values'
      → Puts n tags values (intern (lit polarity t) (pool_of tags values n)) r tags' values'
  unfolding intern
  literal-false e r tags' values' s = rw e s

pub ruleset literals = (literal-true, literal-false)
