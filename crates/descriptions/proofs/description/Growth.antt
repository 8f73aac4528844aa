-- What adding a description keeps: the cells below the count, the headers that fill the pool, and where each description stands.
-- Assumes nothing.
use Rattle.std.specs.Prelude.{Option, Some, None}
use Prim.Native.Nat.{ℕ, suc, ◌+◌, ◌-◌, ◌≤◌, ◌<◌}
use mathlib.Core.Path.{◌≡◌, refl, sym, ◌∙◌}
use mathlib.Core.Bool.{true}
use mathlib.Core.List.{List, [], ◌∷◌, ◌++◌, append_assoc}
use lib.ListN.{length, get_or, take, drop, set, replicate, length-set, length-drop}
use lib.Seq.{sets, length-sets, sets-eq, drop_at, take_at, length-take-le, get_or-set_same, get_or-set_other, get_or-take, get_or-drop, ext_get_or}
use native.Mathlib.Omega.{arith}
use native.Mathlib.Nat.{ne_of_lt}
use native.Mathlib.Numerals.{add-one}
use borrow.Author.Tests.{eq-eqb}
use Rattle.cells.specs.ByPlace.{by-test}
use Rattle.cells.specs.Cell.{cells_of, is_at}
use Rattle.cells.specs.Headers.{first_from}
use Rattle.descriptions.specs.Description.{find, is_full, append, found_or, adding, Added-is, Room}
use Rattle.cells.proofs.Cells.{same_refl}
use Rattle.cells.proofs.Walks.{first-here}
use Rattle.descriptions.proofs.description.Laws.{has_room}
use Rattle.descriptions.proofs.description.Fills.{Fills, filled, more, or_else, fills-grown, header-grown}

-- ---- stores from i on
sets-before : (vs l : List ℕ) (i j : ℕ) → j < i → get_or (sets l i vs) j 0 ≡ get_or l j 0
sets-before [] l i j h = refl
sets-before (v ∷ vs) l i j h = sets-before vs (set l i v) (suc i) j (omega arith) ∙ get_or-set_other l i j v 0 (ne_of_lt h)

sets_first : (v : ℕ) (vs l : List ℕ) (i : ℕ) → i < length l → get_or (sets l i (v ∷ vs)) i 0 ≡ v
sets_first v vs l i h = sets-before vs (set l i v) (suc i) i (omega arith) ∙ get_or-set_same l i v 0 h

sets-run : (vs l : List ℕ) (i : ℕ) → i + length vs ≤ length l → take (length vs) (drop i (sets l i vs)) ≡ vs
sets-run vs l i h =
    rw (
      sets-eq vs l i h,
      append_assoc,
      drop_at (take i l) (vs ++ drop (i + length vs) l) i (length-take-le i l (omega arith)),
      take_at vs (drop (i + length vs) l) (length vs) refl,
    )

-- ---- two pools whose cells below n are the same
pub record Same (n : ℕ) (tags values tags' values' : List ℕ) : Type 0 where
  pub long : n ≤ length values
  pub long' : n ≤ length values'
  pub tags-same : (i : ℕ) → i < n → get_or tags' i 0 ≡ get_or tags i 0
  pub values_same : (i : ℕ) → i < n → get_or values' i 0 ≡ get_or values i 0

run_long : (l : List ℕ) (p k : ℕ) → p + 1 + k ≤ length l → length (take k (drop (p + 1) l)) ≡ k
run_long l p k h = length-take-le k (drop (p + 1) l) (rw length-drop (omega arith))

module _ (n : ℕ) (tags values tags' values' : List ℕ) (s : Same n tags values tags' values') where
  module _ (p : ℕ) (h : p < n) (w : get_or values p 0 < n - p) where
    pub cells_same : cells_of values' p ≡ cells_of values p
    unfolding cells_of
    cells_same =
        let k : ℕ = get_or values p 0 in
        let e : length (take k (drop (p + 1) values)) ≡ k = run_long values p k (omega (arith, s.long)) in
        let e' : length (take k (drop (p + 1) values')) ≡ k = run_long values' p k (omega (arith, s.long')) in
        rw (s.values_same p h)
        (ext_get_or 0 (take k (drop (p + 1) values')) (take k (drop (p + 1) values)) (e' ∙ sym e)
        (λ i l.
        let b : i < k = omega arith in
        rw (get_or-take k (drop (p + 1) values') i 0 b, get_or-take k (drop (p + 1) values) i 0 b, get_or-drop (p + 1) values' i 0, get_or-drop (p + 1) values i 0)
        (s.values_same (p + 1 + i) (omega arith))))

    pub at_same : (tag : ℕ) (cells : List ℕ) → is_at tags' values' p tag cells ≡ is_at tags values p tag cells
    unfolding is_at
    at_same tag cells = rw (s.tags-same p h, cells_same)

  -- a description that stands below n stands where it did; else it stands where it is found from n on
  pub find-grown : (m tag : ℕ) (cells : List ℕ) → n ≤ m → Fills values n 0
      → find tags' values' m tag cells ≡ or_else (find tags values n tag cells) (first_from values' m (λ q. is_at tags' values' q tag cells) n)
  unfolding find
  find-grown m tag cells g f =
      header-grown values n values' m g s.values_same (λ q. is_at tags values q tag cells) (λ q. is_at tags' values' q tag cells)
      (λ p h w. at_same p h w tag cells) f

-- ---- a description after n
module _ (tags values : List ℕ) (n tag : ℕ) (cells : List ℕ) (room : Room tags values n (length cells)) where
  abbrev tags⁺ : List ℕ
  tags⁺ = sets tags n (tag ∷ replicate (length cells) 0)

  abbrev values⁺ : List ℕ
  values⁺ = sets values n (length cells ∷ cells)

  pub put_same : Same n tags values tags⁺ values⁺
  put_same = record {
    long = omega (arith, room.in-values);
    long' = rw length-sets (omega (arith, room.in-values));
    tags-same = λ i h. sets-before (tag ∷ replicate (length cells) 0) tags n i h;
    values_same = λ i h. sets-before (length cells ∷ cells) values n i h;
  }

  pub put_count : get_or values⁺ n 0 ≡ length cells
  put_count = sets_first (length cells) cells values n (omega (arith, room.in-values))

  pub put-tag : get_or tags⁺ n 0 ≡ tag
  put-tag = sets_first tag (replicate (length cells) 0) tags n (omega (arith, room.in-tags))

  pub put-cells : cells_of values⁺ n ≡ cells
  unfolding cells_of
  put-cells = rw (put_count, add-one n) (sets-run cells (set values n (length cells)) (suc n) (rw length-set (omega (arith, room.in-values))))

  put-at : is_at tags⁺ values⁺ n tag cells ≡ true
  unfolding is_at
  put-at =
      rw (eq-eqb (get_or tags⁺ n 0) tag put-tag, put-cells)
      (same_refl cells)

  put-fills : Fills values n 0 → Fills values⁺ (n + 1 + length cells) 0
  put-fills f =
      let e : n + (1 + get_or values⁺ n 0) ≡ n + 1 + length cells = omega (arith, put_count) in
      fills-grown values n values⁺ (n + 1 + length cells) (omega arith) put_same.values_same f
      (more {p = n} (omega arith) (rw put_count (omega arith)) (rw e filled))

  put-found : Fills values n 0 → find tags values n tag cells ≡ None → find tags⁺ values⁺ (n + 1 + length cells) tag cells ≡ Some n
  put-found f e =
      rw (find-grown n tags values tags⁺ values⁺ put_same (n + 1 + length cells) tag cells (omega arith) f, e)
      (sym (first-here values⁺ (n + 1 + length cells) (λ q. is_at tags⁺ values⁺ q tag cells) _ n refl (omega arith) true (sym put-at) refl))

  put-still : Fills values n 0 → (other : ℕ) (others : List ℕ) (q : ℕ) → find tags values n other others ≡ Some q
      → find tags⁺ values⁺ (n + 1 + length cells) other others ≡ Some q
  put-still f other others q e =
      rw (find-grown n tags values tags⁺ values⁺ put_same (n + 1 + length cells) other others (omega arith) f, e)

-- ---- what adding can come to
-- the pool of m cells has the description at p after the n cells, and every description that stood below n where it stood
pub record Grown (tags values : List ℕ) (n tag : ℕ) (cells : List ℕ) (p m : ℕ) (tags' values' : List ℕ) : Type 0 where
  pub place : p ≡ n
  pub count : m ≡ n + 1 + length cells
  pub fills : Fills values' m 0
  pub found : find tags' values' m tag cells ≡ Some p
  pub still : (other : ℕ) (others : List ℕ) (q : ℕ) → find tags values n other others ≡ Some q → find tags' values' m other others ≡ Some q

data Outcome (tags values : List ℕ) (n tag : ℕ) (cells : List ℕ) : Option ℕ → ℕ → List ℕ → List ℕ → Type 0 where
  stood : {p : ℕ} → find tags values n tag cells ≡ Some p → Outcome tags values n tag cells (Some p) n tags values
  refused : Outcome tags values n tag cells None n tags values
  put : find tags values n tag cells ≡ None → Room tags values n (length cells)
      → Outcome tags values n tag cells (Some n) (n + 1 + length cells) (sets tags n (tag ∷ replicate (length cells) 0)) (sets values n (length cells ∷ cells))

by-found : {P : Type 0} (f : Option ℕ) → ((p : ℕ) → f ≡ Some p → P) → (f ≡ None → P) → P
by-found (Some p) at nothing = at p refl
by-found None at nothing = nothing refl

module _ (tags values : List ℕ) (limit n tag : ℕ) (cells : List ℕ) (r : Option ℕ) (m : ℕ) (tags' values' : List ℕ) (s : Added-is tags values limit n tag cells r m tags' values') where
  outcome : Outcome tags values n tag cells r m tags' values'
  unfolding adding found_or append
  outcome =
      rw (s.place, s.count, s.tags-are, s.values-are)
      (by-found (find tags values n tag cells) (λ p e. rw e (stood e))
      (λ e. by-test (is_full tags values limit n (length cells)) (λ b. rw (e, b) refused)
      (λ b. rw (e, b) (put e (has_room tags values limit n (length cells) _ refl b)))))

  -- no cell below n changes
  pub tags-kept : (i : ℕ) → i < n → get_or tags' i 0 ≡ get_or tags i 0
  tags-kept i h = kept outcome
    where
      kept : {a : Option ℕ} {b : ℕ} {t v : List ℕ} → Outcome tags values n tag cells a b t v → get_or t i 0 ≡ get_or tags i 0
      kept (stood e) = refl
      kept refused = refl
      kept (put e room) = sets-before (tag ∷ replicate (length cells) 0) tags n i h

  pub values-kept : (i : ℕ) → i < n → get_or values' i 0 ≡ get_or values i 0
  values-kept i h = kept outcome
    where
      kept : {a : Option ℕ} {b : ℕ} {t v : List ℕ} → Outcome tags values n tag cells a b t v → get_or v i 0 ≡ get_or values i 0
      kept (stood e) = refl
      kept refused = refl
      kept (put e room) = sets-before (length cells ∷ cells) values n i h

  -- an old place is where the description is found
  pub there-found : (p : ℕ) → r ≡ Some p → m ≡ n → find tags' values' n tag cells ≡ Some p
  there-found p q e = found outcome q e
    where
      found : {a : Option ℕ} {b : ℕ} {t v : List ℕ} → Outcome tags values n tag cells a b t v → a ≡ Some p → b ≡ n → find t v n tag cells ≡ Some p
      found (stood e) i h = e ∙ i
      found refused i h = absurd (let z : ◌≡◌ {A = ℕ} 0 1 = cc in omega arith)
      found (put e room) i h = absurd (omega (arith, h))

  -- a new place, in a pool that headers fill
  pub new-grown : Fills values n 0 → (p : ℕ) → r ≡ Some p → n < m → Grown tags values n tag cells p m tags' values'
  new-grown f p q h = grown (rw q at outcome) h
    where
      grown : {a b : ℕ} {t v : List ℕ} → Outcome tags values n tag cells (Some a) b t v → n < b → Grown tags values n tag cells a b t v
      grown (stood e) h = absurd (omega (arith, h))
      grown (put e room) h = record {
        place = refl;
        count = refl;
        fills = put-fills tags values n tag cells room f;
        found = put-found tags values n tag cells room f e;
        still = put-still tags values n tag cells room f;
      }
