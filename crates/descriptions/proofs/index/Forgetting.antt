-- The index with one header less, the last one.
-- Assumes nothing.
use Rattle.std.specs.Prelude.{Option, Some, None}
use Prim.Native.Nat.{ℕ, zero, suc, ◌+◌, ◌-◌, ◌≤◌, ◌<◌}
use mathlib.Core.Path.{◌≡◌, refl, sym, ap, ◌∙◌}
use mathlib.Core.Bool.{Bool, true, false, cond}
use mathlib.Core.List.{List}
use mathlib.Core.Logic.{⊎_elim}
use lib.ListN.{length, get_or, set, length-set}
use lib.Seq.{get_or-set_same, get_or-set_other}
use lib.Dec.{eqb, ltb}
use native.Mathlib.Omega.{arith}
use native.Mathlib.Numerals.{add-one}
use borrow.Author.Tests.{eq-eqb, ne_eqb, eqb-true, eqb-false, ltb-true, ltb-false}
use Rattle.cells.specs.ByPlace.{by-test}
use Rattle.cells.specs.Cell.{cells_of, is_at}
use Rattle.cells.specs.Headers.{first_header}
use Rattle.descriptions.specs.Description.{find}
use Rattle.descriptions.specs.Index.{bucket_of, head_of, chain_in, on_chain, look_up, PointsBack, Reached, next, Within, bucket_at, Linked, Index, unlinked, without, Earlier}
use Rattle.cells.proofs.Walks.{first-end, first-here, first_next, first_below}
use Rattle.descriptions.proofs.description.Fills.{or_else, header-grown}
use Rattle.descriptions.proofs.index.Laws.{chain-suc, on_or}
use Rattle.descriptions.proofs.index.Entries.{reached-fills}
use Rattle.descriptions.proofs.index.Walked.{order, within}

-- ---- what is found below p
abbrev Below : ℕ → Option ℕ → Type 0
Below p f = (q : ℕ) → f ≡ Some q → q < p

-- x and f are found below p, and what is found at p is the same
same-below : (p : ℕ) (x f z : Option ℕ) → Below p x → Below p f → ((q : ℕ) → z ≡ Some q → q ≡ p) → or_else x z ≡ or_else f z → x ≡ f
same-below p (Some a) (Some c) z hx hf hz e = e
same-below p (Some a) None z hx hf hz e = absurd (omega (arith, hx a refl, hz a (sym e)))
same-below p None (Some c) z hx hf hz e = absurd (omega (arith, hf c refl, hz c e))
same-below p None None z hx hf hz e = refl

or-twice : (f z : Option ℕ) → or_else (or_else f z) z ≡ or_else f z
or-twice (Some a) z = refl
or-twice None (Some a) = refl
or-twice None None = refl

-- ---- the way out of `leave`: x is the head of bucket b, as an index
module _ (index : List ℕ) (p b x : ℕ) (is : x ≡ head_of index b) where
  pub without_other : (x ≡ p + 1 → ⊥) → set index p 0 ≡ without index p b
  unfolding without unlinked
  without_other n = rw (ne_eqb (head_of index b) (p + 1) (λ e. n (is ∙ e)))

  pub without-head : x ≡ p + 1 → set (set index (8192 + b) (get_or index p 0)) p 0 ≡ without index p b
  unfolding without unlinked
  without-head e = rw (eq-eqb (head_of index b) (p + 1) (sym is ∙ e))

pub ruleset leaving = (without_other, without-head)

-- ---- a chain from a place up to p
module _ (index : List ℕ) (test : ℕ → Bool) (s : PointsBack index) (p : ℕ) where
  -- what it gives stands below p
  chain-below : (f c : ℕ) (last : Option ℕ) → c ≤ p → Below p last → Below p (chain_in index test f c last)
  unfolding chain_in
  chain-below zero c last h l = l
  chain-below (suc f) zero last h l = l
  chain-below (suc f) (suc q) last h l =
      chain-below f (get_or index q 0) (cond (test q) (Some q) last) (omega (arith, s.back q))
      (by-test (test q) (λ e. rw e (λ r z. let y : q ≡ r = cc in omega arith)) (λ e. rw e l))

  on_below : (c : ℕ) → c ≤ p → Below p (on_chain index test c None)
  unfolding on_chain
  on_below c h = chain-below c c None h (λ q e. let z : ◌≡◌ {A = ℕ} 0 1 = cc in absurd (omega arith))

  -- it depends on the links below p alone
  module _ (index' : List ℕ) (same : (q : ℕ) → q < p → get_or index' q 0 ≡ get_or index q 0) where
    chain-links : (f c : ℕ) (last : Option ℕ) → c ≤ p → chain_in index' test f c last ≡ chain_in index test f c last
    unfolding chain_in
    chain-links zero c last h = refl
    chain-links (suc f) zero last h = refl
    chain-links (suc f) (suc q) last h =
        rw (same q (omega arith)) (chain-links f (get_or index q 0) (cond (test q) (Some q) last) (omega (arith, s.back q)))

    on-links : (c : ℕ) → c ≤ p → on_chain index' test c None ≡ on_chain index test c None
    unfolding on_chain
    on-links c h = chain-links c c None h

-- ---- one header less: that at p, the last one
module _ (tags values : List ℕ) (p : ℕ) (at : Reached values p) (index : List ℕ) (s : Index tags values (p + (1 + get_or values p 0)) index) (h : p < 8192) where
  abbrev b : ℕ
  b = bucket_at tags values p

  module _ (small : b < 4093) where
    abbrev index⁻ : List ℕ
    index⁻ = without index p b

    -- no header stands after p
    last : (q : ℕ) → Within values (p + (1 + get_or values p 0)) q → q ≤ p
    last q w = ⊎_elim (λ back. back) (λ after. absurd (omega (arith, w.before))) (order values at w.header)

    -- ---- the entries
    first-size : length (unlinked index p b) ≡ 12288
    unfolding unlinked
    first-size = by-test (eqb (head_of index b) (p + 1)) (λ e. rw (e, length-set) s.size) (λ e. rw e s.size)

    size⁻ : length index⁻ ≡ 12288
    unfolding without
    size⁻ = rw length-set first-size

    gone : get_or index⁻ p 0 ≡ 0
    unfolding without
    gone = get_or-set_same (unlinked index p b) p 0 0 (omega (arith, first-size))

    other : (i : ℕ) → (i ≡ p → ⊥) → (i ≡ 8192 + b → ⊥) → get_or index⁻ i 0 ≡ get_or index i 0
    unfolding without unlinked
    other i n m =
        get_or-set_other (unlinked index p b) p i 0 0 n
        ∙ by-test (eqb (head_of index b) (p + 1)) (λ e. rw e (get_or-set_other index (8192 + b) i (get_or index p 0) 0 m)) (λ e. rw e)

    head-moved : head_of index b ≡ p + 1 → head_of index⁻ b ≡ get_or index p 0
    unfolding without unlinked
    head-moved e =
        get_or-set_other (unlinked index p b) p (8192 + b) 0 0 (λ z. absurd (omega arith))
        ∙ rw (eq-eqb _ _ e) (get_or-set_same index (8192 + b) (get_or index p 0) 0 (omega (arith, s.size)))

    head-kept : (head_of index b ≡ p + 1 → ⊥) → head_of index⁻ b ≡ head_of index b
    unfolding without unlinked
    head-kept n =
        get_or-set_other (unlinked index p b) p (8192 + b) 0 0 (λ z. absurd (omega arith))
        ∙ rw (ne_eqb _ _ n)

    by-entry : (P : ℕ → ℕ → Type 0) → P p 0 → (head_of index b ≡ p + 1 → P (8192 + b) (get_or index p 0))
        → ((head_of index b ≡ p + 1 → ⊥) → P (8192 + b) (head_of index b))
        → ((i : ℕ) → (i ≡ p → ⊥) → (i ≡ 8192 + b → ⊥) → P i (get_or index i 0)) → (i : ℕ) → P i (get_or index⁻ i 0)
    by-entry P none moved kept rest i =
        by-test (eqb i p)
        (λ e. let z : i ≡ p = eqb-true i p e in rw (z, gone) none)
        (λ e. by-test (eqb i (8192 + b))
        (λ o. let z : i ≡ 8192 + b = eqb-true i (8192 + b) o in
        rw z (by-test (eqb (head_of index b) (p + 1))
        (λ y. let w : head_of index b ≡ p + 1 = eqb-true _ _ y in rw (head-moved w) (moved w))
        (λ y. rw (head-kept (eqb-false _ _ y)) (kept (eqb-false _ _ y)))))
        (λ o. rw (other i (eqb-false i p e) (eqb-false i (8192 + b) o)) (rest i (eqb-false i p e) (eqb-false i (8192 + b) o))))

    -- no other entry is p
    head-below : (d : ℕ) → (head_of index d ≡ p + 1 → ⊥) → head_of index d ≤ p
    head-below d n = below (head_of index d) refl
      where
        below : (c : ℕ) → head_of index d ≡ c → c ≤ p
        below zero e = omega arith
        below (suc q) e =
            let w : q ≤ p = last q (s.entry (8192 + d) q e) in
            by-test (eqb (suc q) (p + 1))
            (λ z. absurd (n (e ∙ eqb-true (suc q) (p + 1) z)))
            (λ z. let y : suc q ≡ p + 1 → ⊥ = eqb-false (suc q) (p + 1) z in omega arith)

    other-below : (i : ℕ) → (i ≡ p → ⊥) → (i ≡ 8192 + b → ⊥) → get_or index i 0 ≤ p
    other-below i n m = below (get_or index i 0) refl
      where
        below : (c : ℕ) → get_or index i 0 ≡ c → c ≤ p
        below zero e = omega arith
        below (suc q) e =
            by-test (ltb i 8192)
            (λ l. let w : i ≤ p = last i (s.link i q (ltb-true i 8192 l) e).from in omega (arith, s.links-back.back i))
            (λ l.
            let k : 8192 + (i - 8192) ≡ i = omega (arith, ltb-false i 8192 l) in
            let f : head_of index (i - 8192) ≡ suc q = ap (λ j. get_or index j 0) k ∙ e in
            let w : head_of index (i - 8192) ≤ p = head-below (i - 8192) (λ o. m (sym k ∙ ap (λ d. 8192 + d) (sym (s.head (i - 8192) p (o ∙ add-one p))))) in
            omega arith)

    entry⁻ : (i q : ℕ) → get_or index⁻ i 0 ≡ suc q → Within values p q
    entry⁻ i q =
        by-entry (λ j c. c ≡ suc q → Within values p q)
        (λ e. absurd (omega arith))
        (λ w e. within values at (s.entry p q e).header (omega (arith, s.links-back.back p)))
        (λ n e. within values at (s.entry (8192 + b) q e).header (omega (arith, head-below b n)))
        (λ j n m e. within values at (s.entry j q e).header (omega (arith, other-below j n m)))
        i

    back⁻ : PointsBack index⁻
    back⁻ = record { back = by-entry (λ j c. c ≤ j) (omega arith) (λ w. omega (arith, s.links-back.back p)) (λ n. s.links-back.back (8192 + b)) (λ j n m. s.links-back.back j) }

    link⁻ : (i q : ℕ) → i < 8192 → get_or index⁻ i 0 ≡ suc q → Linked tags values p i q
    link⁻ i q l e =
        by-test (eqb i p)
        (λ o. let z : i ≡ p = eqb-true i p o in absurd (omega (arith, ap (λ j. get_or index⁻ j 0) (sym z) ∙ e, gone)))
        (λ o.
        let n : i ≡ p → ⊥ = eqb-false i p o in
        let f : get_or index i 0 ≡ suc q = sym (other i n (λ z. absurd (omega arith))) ∙ e in
        let w : i ≤ p = last i (s.link i q l f).from in
        record { from = within values at (s.link i q l f).from.header (omega arith); bucket = (s.link i q l f).bucket })

    head⁻ : (d q : ℕ) → head_of index⁻ d ≡ suc q → bucket_at tags values q ≡ d
    head⁻ d q e =
        by-test (eqb d b)
        (λ o.
        let z : d ≡ b = eqb-true d b o in
        let f : head_of index⁻ b ≡ suc q = ap (head_of index⁻) (sym z) ∙ e in
        by-test (eqb (head_of index b) (p + 1))
        (λ y. (s.link p q h (sym (head-moved (eqb-true _ _ y)) ∙ f)).bucket ∙ sym z)
        (λ y. s.head b q (sym (head-kept (eqb-false _ _ y)) ∙ f) ∙ sym z))
        (λ o. s.head d q (sym (other (8192 + d) (λ z. absurd (omega arith)) (λ z. eqb-false d b o (omega arith))) ∙ e))

    -- ---- what it has of a description
    module _ (tag : ℕ) (cells : List ℕ) where
      abbrev test : ℕ → Bool
      test q = is_at tags values q tag cells

      abbrev d : ℕ
      d = bucket_of tag cells

      abbrev here : (Option ℕ)
      here = cond (test p) (Some p) None

      found-next : find tags values (p + (1 + get_or values p 0)) tag cells ≡ or_else (find tags values p tag cells) here
      unfolding find
      found-next =
          header-grown values p values (p + (1 + get_or values p 0)) (omega arith) (λ q l. refl) test test (λ q l k. refl) (reached-fills values at)
          ∙ ap (or_else (first_header values p test))
          (by-test (test p)
          (λ e. rw e (sym (first-here values (p + (1 + get_or values p 0)) test _ p refl (omega arith) true (sym e) refl)))
          (λ e. rw e (sym (first-end values (p + (1 + get_or values p 0)) test _ (p + (1 + get_or values p 0))
          (first_next values (p + (1 + get_or values p 0)) test _ p refl (omega arith) false (sym e) refl (get_or values p 0) refl) (omega arith)))))

      find-below : Below p (find tags values p tag cells)
      unfolding find
      find-below q e = first_below values p test q e

      here-is : (q : ℕ) → here ≡ Some q → q ≡ p
      here-is q = by-test (test p) (λ e o. let z : Some p ≡ Some q = rw e at o in let y : p ≡ q = cc in sym y) (λ e o. let z : None ≡ Some q = rw e at o in let y : ◌≡◌ {A = ℕ} 0 1 = cc in absurd (omega arith))

      -- the chain is left with c as its head
      left-chain : (c : ℕ) → head_of index⁻ d ≡ c → c ≤ p → or_else (on_chain index test c None) here ≡ or_else (find tags values p tag cells) here
          → look_up tags values index⁻ tag cells ≡ find tags values p tag cells
      unfolding look_up
      left-chain c is l e =
          rw (is, on-links index test s.links-back p index⁻ (λ q k. other q (λ z. absurd (omega arith)) (λ z. absurd (omega arith))) c l)
          (same-below p (on_chain index test c None) (find tags values p tag cells) here (on_below index test s.links-back p c l) find-below here-is e)

      whole : on_chain index test (head_of index d) None ≡ or_else (find tags values p tag cells) here
      unfolding look_up
      whole = s.holds tag cells ∙ found-next

      holds⁻ : look_up tags values index⁻ tag cells ≡ find tags values p tag cells
      holds⁻ =
          by-test (eqb (head_of index d) (p + 1))
          (λ e.
          let w : head_of index d ≡ p + 1 = eqb-true _ _ e in
          let z : b ≡ d = s.head d p (w ∙ add-one p) in
          left-chain (get_or index p 0) (ap (head_of index⁻) (sym z) ∙ head-moved (ap (head_of index) z ∙ w)) (s.links-back.back p)
          (sym (on_or index test (get_or index p 0) here)
          ∙ sym (chain-suc index test s.links-back p None)
          ∙ ap (λ c. on_chain index test c None) (sym (w ∙ add-one p))
          ∙ whole))
          (λ e.
          let n : head_of index d ≡ p + 1 → ⊥ = eqb-false _ _ e in
          left-chain (head_of index d) (same_head n) (head-below d n)
          (ap (λ f. or_else f here) whole ∙ or-twice (find tags values p tag cells) here))
        where
          same_head : (head_of index d ≡ p + 1 → ⊥) → head_of index⁻ d ≡ head_of index d
          same_head n =
              by-test (eqb d b)
              (λ o. let z : d ≡ b = eqb-true d b o in ap (head_of index⁻) z ∙ head-kept (λ y. n (ap (head_of index) z ∙ y)) ∙ ap (head_of index) (sym z))
              (λ o. other (8192 + d) (λ z. absurd (omega arith)) (λ z. eqb-false d b o (omega arith)))

    without-index : Index tags values p index⁻
    without-index = record {
      size = size⁻;
      reached = at;
      links-back = back⁻;
      entry = entry⁻;
      link = link⁻;
      head = head⁻;
      holds = holds⁻;
    }

-- ---- the ways out of `forget`, and what it asks for further on
module _ (tags values : List ℕ) (index : List ℕ) (p m : ℕ) (e : Earlier values p m) (s : Index tags values m index) where
  pub forget-none : m ≤ p → Index tags values p index
  forget-none h = let z : m ≡ p = omega (arith, e.before) in rw (← z) s

  module _ (h : p < m) (k : ℕ) (is : k ≡ get_or values p 0) where
    past : p + (1 + get_or values p 0) ≤ m
    past = ⊎_elim (λ back. absurd (omega arith)) (λ after. after) (order values e.reached s.reached)

    pub forget-small : p + 1 + k ≤ 8192
    forget-small = omega (arith, past, e.small)

    pub forget-later : Earlier values (p + 1 + k) m
    forget-later =
        let z : p + (1 + get_or values p 0) ≡ p + 1 + k = omega arith in
        record { reached = rw z at (next e.reached); before = omega (arith, past); small = e.small }

    pub forget-last : (index₁ index' : List ℕ) (b : ℕ) (tag : ℕ) (cells : List ℕ) → Index tags values (p + 1 + k) index₁ → b ≡ bucket_of tag cells → b < 4093
        → tag ≡ get_or tags p 0 → cells ≡ cells_of values p → index' ≡ without index₁ p b → Index tags values p index'
    forget-last index₁ index' b tag cells s₁ b-is small tag_is cells_are e' =
        let z : p + 1 + k ≡ p + (1 + get_or values p 0) = omega arith in
        let y : b ≡ bucket_at tags values p = rw (b-is, tag_is, cells_are) in
        rw (e', y) (without-index tags values p e.reached index₁ (rw z at s₁) (omega (arith, past, e.small)) (rw y at small))

pub ruleset forgets = (forget-none, forget-small, forget-later, forget-last)
