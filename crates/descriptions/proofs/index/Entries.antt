-- The index with one header more: after check 15 has passed it, and after it was added.
-- Assumes nothing.
use Rattle.std.specs.Prelude.{Option, Some, None, is_some}
use Prim.Native.Nat.{ℕ, zero, suc, ◌+◌, ◌-◌, ◌≤◌, ◌<◌}
use mathlib.Core.Path.{◌≡◌, refl, sym, ap, ◌∙◌}
use mathlib.Core.Bool.{Bool, true, false, cond}
use mathlib.Core.List.{List, [], ◌∷◌}
use lib.ListN.{length, get_or, set, replicate, length-set}
use lib.Seq.{get_or-set_same, get_or-set_other}
use lib.Dec.{eqb}
use native.Mathlib.Omega.{arith}
use native.Mathlib.Numerals.{add-one}
use borrow.Author.Tests.{eq-eqb, eqb-true, eqb-false}
use Rattle.cells.specs.ByPlace.{by-test}
use Rattle.cells.specs.Cell.{cells_of, is_at}
use Rattle.cells.specs.Headers.{first_in, first_from, first_header, headers_from}
use Rattle.descriptions.specs.Description.{find, is_found, repeats, first_repeat, zero_from}
use Rattle.descriptions.specs.Index.{bucket_of, head_of, chain_in, on_chain, look_up, PointsBack, Reached, start, next, Within, bucket_at, Linked, Index, entered, Indexes}
use Rattle.cells.proofs.Cells.{same-eq, same_refl}
use Rattle.cells.proofs.HeaderLists.{left_end, left_before, left_place, left_rest}
use Rattle.cells.proofs.Walks.{first-end, first-here, first_next}
use Rattle.descriptions.proofs.description.Fills.{Fills, filled, more, or_else, or_nothing, fills-grown, header-grown, well-formed-fills}
use Rattle.descriptions.proofs.index.Laws.{chain-suc, on_or, on_same}

-- ---- the walk over the headers below a place that it reaches
module _ (values : List ℕ) where
  fills-next : (p : ℕ) → Fills values p 0 → Fills values (p + (1 + get_or values p 0)) 0
  fills-next p f =
      fills-grown values p values (p + (1 + get_or values p 0)) (omega arith) (λ q h. refl) f
      (more {p = p} (omega arith) (omega arith) filled)

  pub reached-fills : {p : ℕ} → Reached values p → Fills values p 0
  reached-fills start = filled
  reached-fills (next {p = p} r) = fills-next p (reached-fills r)

  pub reached-same : (values' : List ℕ) (p : ℕ) → ((q : ℕ) → q < p → get_or values' q 0 ≡ get_or values q 0)
      → {q : ℕ} → Reached values q → q ≤ p → Reached values' q
  reached-same values' p same start h = start
  reached-same values' p same (next {p = q} r) h =
      rw (← same q (omega arith)) (next (reached-same values' p same r (omega arith)))

-- ---- an empty index
zeros : (k u : ℕ) → get_or {A = ℕ} (replicate k 0) u 0 ≡ 0
zeros zero u = refl
zeros (suc k) zero = refl
zeros (suc k) (suc u) = zeros k u

-- an array of 0 only
pub index-start : (tags values index old : List ℕ) → length index ≡ 12288 → index ≡ zero_from 0 old → Index tags values 0 index
unfolding zero_from look_up on_chain chain_in find first_header first_from first_in
index-start tags values index old l e =
    let z : (i : ℕ) → get_or index i 0 ≡ 0 = λ i. rw e (zeros (length old - 0) i) in
    record {
      size = l;
      reached = start;
      links-back = record { back = λ i. omega (arith, z i) };
      entry = λ i q e'. absurd (omega (arith, z i));
      link = λ i q h e'. absurd (omega (arith, z i));
      head = λ b q e'. absurd (omega (arith, z (8192 + b)));
      holds = λ tag cells. rw (z (8192 + bucket_of tag cells));
    }

at_same : (tags values : List ℕ) (p tag : ℕ) (cells : List ℕ) → is_at tags values p tag cells ≡ true → (get_or tags p 0 ≡ tag) × (cells_of values p ≡ cells)
unfolding is_at
at_same tags values p tag cells e =
    by-test (eqb (get_or tags p 0) tag)
    (λ o. (eqb-true _ _ o, same-eq (cells_of values p) cells (rw o at e)))
    (λ o. let z : false ≡ true = rw o at e in let y : ◌≡◌ {A = ℕ} 0 1 = cc in absurd (omega arith))

at_own : (tags values : List ℕ) (q : ℕ) → is_at tags values q (get_or tags q 0) (cells_of values q) ≡ true
unfolding is_at
at_own tags values q = rw (eq-eqb (get_or tags q 0) (get_or tags q 0) refl) (same_refl (cells_of values q))

-- ---- one header more, at p: tags' and values' are as the arrays before at every header below p
module _ (tags values : List ℕ) (p : ℕ) (index : List ℕ) (s : Index tags values p index) (h : p < 8192) (tags' values' : List ℕ)
    (same : (q : ℕ) → q < p → get_or values' q 0 ≡ get_or values q 0)
    (agree : (q : ℕ) → q < p → get_or values q 0 < p - q → (tag : ℕ) (cells : List ℕ) → is_at tags' values' q tag cells ≡ is_at tags values q tag cells) where
  abbrev p' : ℕ
  p' = p + (1 + get_or values' p 0)

  entry-below : (i : ℕ) → get_or index i 0 ≤ p
  entry-below i = below (get_or index i 0) refl
    where
      below : (c : ℕ) → get_or index i 0 ≡ c → c ≤ p
      below zero e = omega arith
      below (suc q) e = let w : q < p = (s.entry i q e).before in omega arith

  -- a header below p is one of the new arrays, in the same bucket
  here⁺ : Reached values' p
  here⁺ = reached-same values values' p same s.reached (omega arith)

  within_same : (q : ℕ) → Within values p q → Within values' p' q
  within_same q w = record {
    before = omega (arith, w.before);
    fits = rw (same q w.before) (omega (arith, w.fits));
    header = reached-same values values' p same w.header (omega (arith, w.before));
  }

  bucket-same : (q : ℕ) → Within values p q → bucket_at tags' values' q ≡ bucket_at tags values q
  bucket-same q w =
      let (x, y) = at_same tags' values' q (get_or tags q 0) (cells_of values q)
      (agree q w.before w.fits (get_or tags q 0) (cells_of values q) ∙ at_own tags values q) in
      rw (x, y)

  -- what is found below p, and at p
  found-next : (tag : ℕ) (cells : List ℕ)
      → find tags' values' p' tag cells ≡ or_else (find tags values p tag cells) (cond (is_at tags' values' p tag cells) (Some p) None)
  unfolding find
  found-next tag cells =
      let test : ℕ → Bool = λ q. is_at tags values q tag cells in
      let test' : ℕ → Bool = λ q. is_at tags' values' q tag cells in
      header-grown values p values' p' (omega arith) same test test' (λ q l k. agree q l k tag cells) (reached-fills values s.reached)
      ∙ ap (or_else (first_header values p test))
      (by-test (test' p)
      (λ e. rw e (sym (first-here values' p' test' _ p refl (omega arith) true (sym e) refl)))
      (λ e. rw e (sym (first-end values' p' test' _ p' (first_next values' p' test' _ p refl (omega arith) false (sym e) refl (get_or values' p 0) refl) (omega arith)))))

  module _ (b : ℕ) (small : b < 4093) where
    abbrev index⁺ : List ℕ
    index⁺ = entered index p b

    head-here : get_or index⁺ (8192 + b) 0 ≡ p + 1
    unfolding entered
    head-here = get_or-set_same (set index p (head_of index b)) (8192 + b) (p + 1) 0 (rw length-set (omega (arith, s.size)))

    link_here : get_or index⁺ p 0 ≡ head_of index b
    unfolding entered
    link_here =
        get_or-set_other (set index p (head_of index b)) (8192 + b) p (p + 1) 0 (λ e. absurd (omega arith))
        ∙ get_or-set_same index p (head_of index b) 0 (omega (arith, s.size))

    other : (i : ℕ) → (p ≡ i → ⊥) → (8192 + b ≡ i → ⊥) → get_or index⁺ i 0 ≡ get_or index i 0
    unfolding entered
    other i n m =
        get_or-set_other (set index p (head_of index b)) (8192 + b) i (p + 1) 0 (λ e. m (sym e))
        ∙ get_or-set_other index p i (head_of index b) 0 (λ e. n (sym e))

    -- an entry is the new header, or an entry of before
    by-entry : (P : ℕ → ℕ → Type 0) → P (8192 + b) (p + 1) → P p (head_of index b) → ((i : ℕ) → P i (get_or index i 0)) → (i : ℕ) → P i (get_or index⁺ i 0)
    by-entry P head link old i =
        by-test (eqb (8192 + b) i)
        (λ e. let z : 8192 + b ≡ i = eqb-true _ _ e in rw (← z, head-here) head)
        (λ e. by-test (eqb p i)
        (λ e'. let z : p ≡ i = eqb-true _ _ e' in rw (← z, link_here) link)
        (λ e'. rw (other i (eqb-false _ _ e') (eqb-false _ _ e)) (old i)))

    back⁺ : PointsBack index⁺
    back⁺ = record { back = by-entry (λ i c. c ≤ i) (omega arith) (entry-below (8192 + b)) s.links-back.back }

    within⁺ : (i q : ℕ) → get_or index⁺ i 0 ≡ suc q → Within values' p' q
    within⁺ i q = by-entry (λ j c. c ≡ suc q → Within values' p' q) here (old (8192 + b)) old i
      where
        here : p + 1 ≡ suc q → Within values' p' q
        here e = let z : p ≡ q = omega arith in rw (← z) (record { before = omega arith; fits = omega arith; header = here⁺ })

        old : (j : ℕ) → get_or index j 0 ≡ suc q → Within values' p' q
        old j e = within_same q (s.entry j q e)

    module _ (bucket : b ≡ bucket_of (get_or tags' p 0) (cells_of values' p)) where
      link⁺ : (i q : ℕ) → i < 8192 → get_or index⁺ i 0 ≡ suc q → Linked tags' values' p' i q
      link⁺ i q l e =
          by-test (eqb p i)
          (λ o. let z : p ≡ i = eqb-true p i o in rw (← z) (first (sym link_here ∙ ap (λ j. get_or index⁺ j 0) z ∙ e)))
          (λ o. old (sym (other i (eqb-false p i o) (λ z. absurd (omega arith))) ∙ e))
        where
          first : head_of index b ≡ suc q → Linked tags' values' p' p q
          first z = record {
            from = record { before = omega arith; fits = omega arith; header = here⁺ };
            bucket = bucket-same q (s.entry (8192 + b) q z) ∙ s.head b q z ∙ bucket;
          }

          old : get_or index i 0 ≡ suc q → Linked tags' values' p' i q
          old z = record {
            from = within_same i (s.link i q l z).from;
            bucket = bucket-same q (s.entry i q z) ∙ (s.link i q l z).bucket ∙ sym (bucket-same i (s.link i q l z).from);
          }

      head⁺ : (d q : ℕ) → head_of index⁺ d ≡ suc q → bucket_at tags' values' q ≡ d
      head⁺ d q e =
          by-test (eqb b d)
          (λ o. let z : b ≡ d = eqb-true b d o in first z (sym head-here ∙ ap (head_of index⁺) z ∙ e))
          (λ o. old (sym (other (8192 + d) (λ z. absurd (omega arith)) (λ z. eqb-false b d o (omega arith))) ∙ e))
        where
          first : b ≡ d → p + 1 ≡ suc q → bucket_at tags' values' q ≡ d
          first z y = let w : p ≡ q = omega arith in rw (← w) (sym bucket ∙ z)

          old : head_of index d ≡ suc q → bucket_at tags' values' q ≡ d
          old z = bucket-same q (s.entry (8192 + d) q z) ∙ s.head d q z

    module _ (bucket : b ≡ bucket_of (get_or tags' p 0) (cells_of values' p)) (tag : ℕ) (cells : List ℕ) where
      abbrev test' : ℕ → Bool
      test' q = is_at tags' values' q tag cells

      abbrev d : ℕ
      d = bucket_of tag cells

      kept : on_chain index⁺ test' (head_of index d) None ≡ find tags values p tag cells
      unfolding look_up
      kept =
          on_same index index⁺ (λ q. is_at tags values q tag cells) test' p s.links-back
          (λ q l. other q (λ e. absurd (omega arith)) (λ e. absurd (omega arith)))
          (λ i q e. agree q (s.entry i q e).before (s.entry i q e).fits tag cells) (8192 + d) None (entry-below (8192 + d))
          ∙ s.holds tag cells

      -- in the bucket of p the chain starts at p
      in-bucket : b ≡ d → look_up tags' values' index⁺ tag cells ≡ or_else (find tags values p tag cells) (cond (test' p) (Some p) None)
      unfolding look_up
      in-bucket e =
          ap (λ x. on_chain index⁺ test' x None) (ap (head_of index⁺) (sym e) ∙ head-here ∙ add-one p)
          ∙ chain-suc index⁺ test' back⁺ p None ∙ ap (λ x. on_chain index⁺ test' x (cond (test' p) (Some p) None)) (link_here ∙ ap (head_of index) e)
          ∙ on_or index⁺ test' (head_of index d) (cond (test' p) (Some p) None)
          ∙ rw kept

      -- in another bucket nothing changes, and the description at p is another
      in-other : (b ≡ d → ⊥) → look_up tags' values' index⁺ tag cells ≡ or_else (find tags values p tag cells) (cond (test' p) (Some p) None)
      unfolding look_up
      in-other n =
          by-test (test' p)
          (λ e. let (x, y) = at_same tags' values' p tag cells e in absurd (n (rw (bucket, x, y))))
          (λ e. rw (e, other (8192 + d) (λ o. absurd (omega arith)) (λ o. n (omega arith)), kept) (sym (or_nothing (find tags values p tag cells))))

      holds⁺ : look_up tags' values' index⁺ tag cells ≡ find tags' values' p' tag cells
      holds⁺ =
          by-test (eqb b d) (λ e. in-bucket (eqb-true b d e)) (λ e. in-other (eqb-false b d e))
          ∙ sym (found-next tag cells)

    pub enter-index : b ≡ bucket_of (get_or tags' p 0) (cells_of values' p) → Index tags' values' p' index⁺
    unfolding entered
    enter-index bucket = record {
      size = length-set (set index p (head_of index b)) (8192 + b) (p + 1) ∙ length-set index p (head_of index b) ∙ s.size;
      reached = next (reached-same values values' p same s.reached (omega arith));
      links-back = back⁺;
      entry = within⁺;
      link = link⁺ bucket;
      head = head⁺ bucket;
      holds = holds⁺ bucket;
    }

-- ---- the header at p of the arrays themselves
module _ (tags values : List ℕ) (p : ℕ) (index : List ℕ) (s : Index tags values p index) where
  pub index_back : PointsBack index
  index_back = s.links-back

  module _ (tag : ℕ) (t : tag ≡ get_or tags p 0) (cells : List ℕ) (c : cells ≡ cells_of values p) (b : ℕ) (is : b ≡ bucket_of tag cells) where
    repeat-is : (f : Option ℕ) → f ≡ on_chain index (λ q. is_at tags values q tag cells) (head_of index b) None → is_found f ≡ repeats tags values p
    unfolding repeats look_up
    repeat-is f e = ap is_found e ∙ rw (← t, ← c, is) (ap is_found (s.holds tag cells))

    pub repeats-by : (f : Option ℕ) → f ≡ on_chain index (λ q. is_at tags values q tag cells) (head_of index b) None → (r : Bool) → r ≡ is_some f → r ≡ repeats tags values p
    repeats-by f e r q = q ∙ some f ∙ repeat-is f e
      where
        some : (f : Option ℕ) → is_some f ≡ is_found f
        some (Some q) = refl
        some None = refl

    pub entered-header : p < 8192 → b < 4093 → (index' : List ℕ) → index' ≡ entered index p b → Index tags values (p + (1 + get_or values p 0)) index'
    entered-header h small index' e = rw e (enter-index tags values p index s h tags values (λ q l. refl) (λ q l k tag cells. refl) b small (rw (is, t, c)))

pub ruleset headers = (index_back, repeats-by, entered-header)

pub not-indexed : (tags values : List ℕ) (n : ℕ) (index : List ℕ) → 8192 < n → Indexes tags values n index
not-indexed tags values n index h = record { whole = λ small fits none. absurd (omega arith) }

-- ---- the walk that enters the headers: what is found from p on is what is found, and the headers below p are in the index
pub record Entering (tags values : List ℕ) (n : ℕ) (index : List ℕ) (p : ℕ) : Type 0 where
  pub left : first_repeat tags values n ≡ first_from values n (repeats tags values) p
  pub has : Index tags values p index
  pub filled-from : Fills values n 0 → Fills values n p

module _ (tags values : List ℕ) (n : ℕ) where
  pub entering-start : (index : List ℕ) → Index tags values 0 index → Entering tags values n index 0
  unfolding first_repeat first_header
  entering-start index s = record { left = refl; has = s; filled-from = λ f. f }

  module _ (index : List ℕ) (p : ℕ) (s : Entering tags values n index p) where
    pub entering-end : n ≤ p → None ≡ first_repeat tags values n
    entering-end h = first-end values n (repeats tags values) _ p s.left h

    pub entering-whole : n ≤ p → Indexes tags values n index
    entering-whole h = record { whole = λ small fits none. at-end p (s.filled-from (well-formed-fills tags values n fits)) s.has h }
      where
        at-end : (u : ℕ) → Fills values n u → Index tags values u index → n ≤ u → Index tags values n index
        at-end u filled i l = i
        at-end u (more b k f) i l = absurd (omega arith)

    module _ (h : p < n) (r : Bool) (is : r ≡ repeats tags values p) where
      pub entering-here : r ≡ true → Some p ≡ first_repeat tags values n
      entering-here e = first-here values n (repeats tags values) _ p s.left h r is e

      pub entering-none : r ≡ true → (index' : List ℕ) → Indexes tags values n index'
      entering-none e index' = record { whole = λ small fits none. absurd (not-both (entering-here e ∙ none)) }
        where
          not-both : Some p ≡ None → ⊥
          not-both z = let y : ◌≡◌ {A = ℕ} 0 1 = cc in omega arith

      module _ (e : r ≡ false) (k : ℕ) (cells : k ≡ get_or values p 0) where
        pub entering-next : (index' : List ℕ) → Index tags values (p + (1 + get_or values p 0)) index' → Entering tags values n index' (p + (1 + k))
        entering-next index' i = record {
          left = first_next values n (repeats tags values) _ p s.left h r is e k cells;
          has = rw cells i;
          filled-from = λ f. rw cells (one_more p (s.filled-from f) h);
        }
          where
            one_more : (u : ℕ) → Fills values n u → u < n → Fills values n (u + (1 + get_or values u 0))
            one_more u filled l = absurd (omega arith)
            one_more u (more b j f) l = f

-- the same, as the iterator over the headers has it: these are left
pub record Walking (tags values : List ℕ) (n : ℕ) (index left : List ℕ) : Type 0 where
  pub at : ℕ
  pub is : left ≡ headers_from values n at
  pub entering : Entering tags values n index at

module _ (tags values : List ℕ) (n : ℕ) where
  pub walking-start : (index left : List ℕ) → Index tags values 0 index → left ≡ headers_from values n 0 → Walking tags values n index left
  walking-start index left s e = record { at = 0; is = e; entering = entering-start tags values n index s }

  module _ (index left : List ℕ) (s : Walking tags values n index left) where
    pub walking-end : left ≡ [] → None ≡ first_repeat tags values n
    walking-end e = entering-end tags values n index s.at s.entering (left_end values n s.at (sym s.is ∙ e))

    pub walking-whole : left ≡ [] → Indexes tags values n index
    walking-whole e = entering-whole tags values n index s.at s.entering (left_end values n s.at (sym s.is ∙ e))

    module _ (p : ℕ) (rest : List ℕ) (e : left ≡ p ∷ rest) where
      here : headers_from values n s.at ≡ p ∷ rest
      here = sym s.is ∙ e

      there : s.at ≡ p
      there = sym (left_place values n s.at p rest here)

      state : Entering tags values n index p
      state = rw (← there) s.entering

      pub walking-below : p < n
      walking-below = rw (← there) (left_before values n s.at p rest here)

      pub walking-has : Index tags values p index
      walking-has = state.has

      module _ (r : Bool) (is : r ≡ repeats tags values p) where
        pub walking-here : r ≡ true → Some p ≡ first_repeat tags values n
        walking-here = entering-here tags values n index p state walking-below r is

        pub walking-none : r ≡ true → (index' : List ℕ) → Indexes tags values n index'
        walking-none = entering-none tags values n index p state walking-below r is

        pub walking-next : r ≡ false → (index' : List ℕ) → Index tags values (p + (1 + get_or values p 0)) index' → Walking tags values n index' rest
        walking-next o index' i = record {
          at = p + (1 + get_or values p 0);
          is = rw there at (left_rest values n s.at p rest here);
          entering = entering-next tags values n index p state walking-below r is o (get_or values p 0) refl index' i;
        }
