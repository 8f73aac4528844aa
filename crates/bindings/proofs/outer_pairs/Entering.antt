-- One pair more in a prepared array: after n pairs it has n + 1, and the new one is the last that is left.
-- Assumes nothing.
use Prim.Native.Nat.{ℕ, suc, ◌+◌, ◌*◌, ◌≤◌, ◌<◌}
use mathlib.Core.Path.{◌≡◌, sym, ap, ◌∙◌}
use mathlib.Core.Bool.{true, false}
use mathlib.Core.List.{List, [], ◌∷◌, ◌++◌}
use lib.ListN.{length, get_or, set, length-set}
use lib.Seq.{get_or-set_same, get_or-set_other}
use lib.Dec.{eqb}
use native.Mathlib.Omega.{arith}
use native.Mathlib.Numerals.{add-one}
use borrow.Author.Tests.{eqb-true, eqb-false}
use Rattle.cells.specs.ByPlace.{by-test}
use Rattle.bindings.specs.Binding.{Binding, same}
use Rattle.bindings.specs.OuterPairs.{pair_in, link_of, head_of, still_left, is_pair, left_below, left_in, bucket_of, OnChain, here, next, Bucket, entered, Room, Filled}
use Rattle.bindings.proofs.binding.Laws.{same-is}
use Rattle.bindings.proofs.Distinct.{clash}
use Rattle.bindings.proofs.outer_pairs.Left.{pair_is, below_more, below-same, chain-kept}

-- ---- the cells of the array with a as pair n
module _ (l : List ℕ) (i v : ℕ) where
  on : i < length l → get_or (set l i v) i 0 ≡ v
  on h = get_or-set_same l i v 0 h

  off : (j : ℕ) → (j ≡ i → ⊥) → get_or (set l i v) j 0 ≡ get_or l j 0
  off j o = get_or-set_other l i j v 0 o

module _ (cells : List ℕ) (n : ℕ) (a : Binding) (b : ℕ) (r : Room cells n) (k : Bucket cells a b) where
  -- after each of the five writes but the last
  abbrev named : List ℕ
  named = set cells (5 * n) a.name

  abbrev sorted : List ℕ
  sorted = set named (5 * n + 1) a.sort

  abbrev marked : List ℕ
  marked = set sorted (5 * n + 2) 1

  abbrev linked : List ℕ
  linked = set marked (5 * n + 3) (head_of cells b)

  pub entered-length : length (entered cells n a b) ≡ length cells
  unfolding entered
  entered-length = simp length-set

  entered-other : (i : ℕ) → (i ≡ 5 * n → ⊥) → (i ≡ 5 * n + 1 → ⊥) → (i ≡ 5 * n + 2 → ⊥) → (i ≡ 5 * n + 3 → ⊥) → (i ≡ 5 * b + 4 → ⊥)
      → get_or (entered cells n a b) i 0 ≡ get_or cells i 0
  unfolding entered
  entered-other i p q s t u =
      off linked (5 * b + 4) (n + 1) i u ∙ off marked (5 * n + 3) (head_of cells b) i t ∙ off sorted (5 * n + 2) 1 i s
      ∙ off named (5 * n + 1) a.sort i q ∙ off cells (5 * n) a.name i p

  entered-name : get_or (entered cells n a b) (5 * n) 0 ≡ a.name
  unfolding entered
  entered-name =
      off linked (5 * b + 4) (n + 1) (5 * n) (λ e. omega arith) ∙ off marked (5 * n + 3) (head_of cells b) (5 * n) (λ e. omega arith)
      ∙ off sorted (5 * n + 2) 1 (5 * n) (λ e. omega arith) ∙ off named (5 * n + 1) a.sort (5 * n) (λ e. omega arith)
      ∙ on cells (5 * n) a.name (omega (arith, r.inside))

  entered-sort : get_or (entered cells n a b) (5 * n + 1) 0 ≡ a.sort
  unfolding entered
  entered-sort =
      off linked (5 * b + 4) (n + 1) (5 * n + 1) (λ e. omega arith) ∙ off marked (5 * n + 3) (head_of cells b) (5 * n + 1) (λ e. omega arith)
      ∙ off sorted (5 * n + 2) 1 (5 * n + 1) (λ e. omega arith) ∙ on named (5 * n + 1) a.sort (simp length-set (omega (arith, r.inside)))

  entered-left : get_or (entered cells n a b) (5 * n + 2) 0 ≡ 1
  unfolding entered
  entered-left =
      off linked (5 * b + 4) (n + 1) (5 * n + 2) (λ e. omega arith) ∙ off marked (5 * n + 3) (head_of cells b) (5 * n + 2) (λ e. omega arith)
      ∙ on sorted (5 * n + 2) 1 (simp length-set (omega (arith, r.inside)))

  entered-link : link_of (entered cells n a b) n ≡ head_of cells b
  unfolding entered
  entered-link =
      off linked (5 * b + 4) (n + 1) (5 * n + 3) (λ e. omega arith) ∙ on marked (5 * n + 3) (head_of cells b) (simp length-set (omega (arith, r.inside)))

  entered-head : head_of (entered cells n a b) b ≡ n + 1
  unfolding entered
  entered-head = on linked (5 * b + 4) (n + 1) (simp length-set (omega (arith, k.inside)))

  -- ---- its records
  pair-new : pair_in (entered cells n a b) n ≡ a
  pair-new = rw (entered-name, entered-sort)

  left-new : still_left (entered cells n a b) n ≡ true
  unfolding still_left
  left-new = rw entered-left

  module _ (j : ℕ) (o : j ≡ n → ⊥) where
    pair-old : pair_in (entered cells n a b) j ≡ pair_in cells j
    pair-old =
        rw (
          entered-other (5 * j) (λ e. o (omega arith)) (λ e. omega arith) (λ e. omega arith) (λ e. omega arith) (λ e. omega arith),
          entered-other (5 * j + 1) (λ e. omega arith) (λ e. o (omega arith)) (λ e. omega arith) (λ e. omega arith) (λ e. omega arith),
        )

    left-old : still_left (entered cells n a b) j ≡ still_left cells j
    unfolding still_left
    left-old =
        rw (entered-other (5 * j + 2) (λ e. omega arith) (λ e. omega arith) (λ e. o (omega arith)) (λ e. omega arith) (λ e. omega arith))

    link-old : link_of (entered cells n a b) j ≡ link_of cells j
    link-old = entered-other (5 * j + 3) (λ e. omega arith) (λ e. omega arith) (λ e. omega arith) (λ e. o (omega arith)) (λ e. omega arith)

  head-old : (d : ℕ) → (d ≡ b → ⊥) → head_of (entered cells n a b) d ≡ head_of cells d
  head-old d o = entered-other (5 * d + 4) (λ e. omega arith) (λ e. omega arith) (λ e. omega arith) (λ e. omega arith) (λ e. o (omega arith))

  -- ---- after n pairs, none of which is a
  module _ (f : Filled cells n) (lacks : (j : ℕ) → is_pair cells a j ≡ false) where
    abbrev after : List ℕ
    after = entered cells n a b

    back⁺ : (j : ℕ) → link_of after j ≤ j
    back⁺ j =
        by-test (eqb j n)
        (λ e. let z : j ≡ n = eqb-true _ _ e in rw (z, entered-link) (f.heads b))
        (λ e. rw (link-old j (eqb-false _ _ e)) (f.ready.back j))

    heads⁺ : (d : ℕ) → head_of after d ≤ n + 1
    heads⁺ d =
        by-test (eqb d b)
        (λ e. let z : d ≡ b = eqb-true _ _ e in rw (z, entered-head) (omega arith))
        (λ e. rw (head-old d (eqb-false _ _ e)) (omega (arith, f.heads d)))

    rest⁺ : (j : ℕ) → n + 1 ≤ j → still_left after j ≡ false
    rest⁺ j h = left-old j (λ e. omega arith) ∙ f.rest j (omega arith)

    -- a chain of before, now from the bucket's new head
    chain-old : (d j : ℕ) → OnChain cells (head_of cells d) j → OnChain after (head_of cells d) j
    chain-old d j o = chain-kept cells j after n (λ q h. link-old q (λ e. omega arith)) f.ready.back o (f.heads d)

    chain⁺ : (d j : ℕ) → OnChain cells (head_of cells d) j → OnChain after (head_of after d) j
    chain⁺ d j o =
        by-test (eqb d b)
        (λ e. let z : d ≡ b = eqb-true _ _ e in
        rw (z, entered-head, add-one n) (next {q = n} {k = j} (rw entered-link (chain-old b j (rw z at o)))))
        (λ e. rw (head-old d (eqb-false _ _ e)) (chain-old d j o))

    reached⁺ : (j : ℕ) → still_left after j ≡ true → OnChain after (head_of after (bucket_of (length after) (pair_in after j))) j
    reached⁺ j l =
        by-test (eqb j n)
        (λ e. let z : j ≡ n = eqb-true _ _ e in rw (z, pair-new, entered-length, ← k.is, entered-head, add-one n) here)
        (λ e. let o : j ≡ n → ⊥ = eqb-false _ _ e in
        rw (pair-old j o, entered-length) (chain⁺ (bucket_of (length cells) (pair_in cells j)) j (f.ready.reached j (sym (left-old j o) ∙ l))))

    apart : (j : ℕ) → still_left cells j ≡ true → same (pair_in cells j) a ≡ true → ⊥
    apart j l s = clash (is_pair cells a j) (pair_is cells a j l s) (lacks j)

    single⁺ : (i j : ℕ) → still_left after i ≡ true → still_left after j ≡ true → same (pair_in after i) (pair_in after j) ≡ true → i ≡ j
    single⁺ i j l m s =
        by-test (eqb i n)
        (λ e. let z : i ≡ n = eqb-true _ _ e in
        by-test (eqb j n) (λ e'. z ∙ sym (eqb-true _ _ e'))
        (λ e'. let o : j ≡ n → ⊥ = eqb-false _ _ e' in
        let t : same a (pair_in cells j) ≡ true = rw (z, pair-new, pair-old j o) at s in
        let same-one : a ≡ pair_in cells j = same-is a (pair_in cells j) t in
        absurd (apart j (sym (left-old j o) ∙ m) (cc))))
        (λ e. let o : i ≡ n → ⊥ = eqb-false _ _ e in
        by-test (eqb j n)
        (λ e'. let z : j ≡ n = eqb-true _ _ e' in
        let t : same (pair_in cells i) a ≡ true = rw (z, pair-new, pair-old i o) at s in
        absurd (apart i (sym (left-old i o) ∙ l) t))
        (λ e'. let o' : j ≡ n → ⊥ = eqb-false _ _ e' in
        f.ready.single i j (sym (left-old i o) ∙ l) (sym (left-old j o') ∙ m) (rw (pair-old i o, pair-old j o') at s)))

    pub filled⁺ : Filled after (n + 1)
    filled⁺ = record {
      ready = record { room = rw entered-length f.ready.room; back = back⁺; reached = reached⁺; single = single⁺ };
      rest = rest⁺;
      heads = heads⁺;
    }

    below_new : left_below after (suc n) ≡ left_below cells n ++ (a ∷ [])
    unfolding left_below
    below_new =
        rw (left-new, pair-new, below-same cells after n (λ j h. left-old j (λ e. omega arith)) (λ j h. pair-old j (λ e. omega arith)))

    pub pairs⁺ : left_in after ≡ left_in cells ++ (a ∷ [])
    unfolding left_in
    pairs⁺ =
        below_more after (n + 1) rest⁺ (length after) (rw entered-length (omega (arith, r.inside))) ∙ ap (left_below after) (add-one n) ∙ below_new
        ∙ ap (λ l. l ++ (a ∷ [])) (sym (below_more cells n f.rest (length cells) (omega (arith, r.inside))))
