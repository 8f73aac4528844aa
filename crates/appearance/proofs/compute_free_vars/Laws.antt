-- Laws of ways through the walk.
-- Assumes nothing.
use Prim.Native.Nat.{ℕ, ◌+◌, ◌-◌, ◌≤◌, ◌<◌}
use mathlib.Core.Path.{◌≡◌, refl, sym, ap, ◌∙◌}
use mathlib.Core.Bool.{Bool, true, false, not, cond, ◌||◌}
use mathlib.Core.List.{List, [], ◌∷◌, ◌++◌, append-nil}
use lib.ListN.{length, get_or, set, take, drop, length-set, length-append, length-drop}
use lib.Seq.{get_or-set_same, take-suc-set, take_all, length-take-le, take-length, take-append-le}
use lib.Dec.{ltb, eqb}
use native.Mathlib.Nat.{add-zero}
use native.Mathlib.Numerals.{add-one}
use native.Mathlib.Omega.{arith}
use borrow.Author.Tests.{eqb-true, eqb-false, eq-eqb, ne_eqb, lt-ltb, le-ltb, ltb-false}
use Rattle.cells.specs.ByPlace.{by-test}
use Rattle.cells.specs.Limits.{cell_limit}
use Rattle.cells.specs.Cell.{operands_of}
use Rattle.free_variables.specs.Free.{let_values}
use Rattle.free_variables.specs.declared.pair_kind.PairKind.{PairKind}
use Rattle.free_variables.specs.FreeMemo.{pair_kind_of, pairs_bind}
use Rattle.free_variables.specs.Once.{among, leave_out, firsts}
use Rattle.free_variables.specs.Appearing.{occurrences_at}
use Rattle.free_variables.specs.NamesWalk.{FreeFromMeans}
use Rattle.free_variables.specs.Occurs.{occurs_among, occurs_under, OccursFrom}
use Rattle.cells.specs.declared.TermPlace.{TermPlace}
use Rattle.free_variables.specs.declared.term_names.FreeFrom.{FreeFrom}
use Rattle.free_variables.specs.declared.term_names.FreeFrom.TheVariants.{Nothing, Variable, Let}
use Rattle.free_variables.proofs.appearing.Booleans.{not-both, and_split}
use Rattle.free_variables.proofs.appearing.Once.{leave_out-twice, among-leave_out}
use Rattle.free_variables.proofs.appearing.Listed.{eqb_is, eqb_refl, occurs-at, occurs-var}
use Rattle.appearance.specs.Bits.{with_bit, without_bit, meets}
use Rattle.appearance.specs.Pairs.{binders_of}
use Rattle.appearance.specs.Rows.{number_of}
use Rattle.appearance.specs.Walk.{Known, Prepared, hide_at, show_at, limit_at, Hid, Shown, is_hidden, new_in, Noted, has_none, Walked, Ask}
use Rattle.appearance.proofs.bits.Laws.{meets-not, with-long, without-long}
use Rattle.appearance.proofs.compute_free_vars.Gathering.{leave_out-on, Below, new_none, gather_none, gather-then, gather-few}
use Rattle.appearance.proofs.compute_free_vars.Hiding.{hide-counts, hide-wanted, binds-some, binders-few}

-- ---- one reason more, one less
module _ (table state : List ℕ) (v k : ℕ) (is : k ≡ get_or table v 0) (after : List ℕ) where
  pub hide-is : after ≡ without_bit (set state v (get_or state v 0 + 1)) 8192 k → after ≡ hide_at table state v
  unfolding hide_at
  hide-is e = rw (← is) e

  pub show-last : v < length state → get_or (set state v (get_or state v 0 - 1)) v 0 ≡ 0 → after ≡ with_bit (set state v (get_or state v 0 - 1)) 8192 k → after ≡ show_at table state v
  unfolding show_at
  show-last h z e = rw (eq-eqb (get_or state v 0 - 1) 0 (sym (get_or-set_same state v (get_or state v 0 - 1) 0 h) ∙ z), ← is) e

pub show-more : (table state : List ℕ) (v : ℕ) → v < length state → (get_or (set state v (get_or state v 0 - 1)) v 0 ≡ 0 → ⊥)
    → set state v (get_or state v 0 - 1) ≡ show_at table state v
unfolding show_at
show-more table state v h n = rw (ne_eqb (get_or state v 0 - 1) 0 (λ z. n (get_or-set_same state v (get_or state v 0 - 1) 0 h ∙ z)))

module _ (state : List ℕ) (v x from k : ℕ) (after : List ℕ) where
  pub hide-long : after ≡ without_bit (set state v x) from k → length after ≡ length state
  hide-long e = rw e (without-long (set state v x) from k ∙ length-set state v x)

  pub show-long : after ≡ with_bit (set state v x) from k → length after ≡ length state
  show-long e = rw e (with-long (set state v x) from k ∙ length-set state v x)

pub ruleset reasons = (hide-is, show-last, show-more, hide-long, show-long)

-- ---- by the row
module _ (tags table : List ℕ) (words : ℕ) (state : List ℕ) (t tag : ℕ) (k : tag ≡ get_or tags t 0) where
  pub none-leaf : tag < 22 → false ≡ has_none tags table words state t
  unfolding has_none
  none-leaf h = rw (← k, lt-ltb tag 22 h)

  module _ (h : 22 ≤ tag) (slot : ℕ) (s : slot ≡ get_or table t 0) where
    pub none_open : slot ≡ 0 → false ≡ has_none tags table words state t
    unfolding has_none
    none_open e = rw (← k, le-ltb tag 22 h, ← s, eq-eqb slot 0 e)

    pub none_row : (slot ≡ 0 → ⊥) → (m : Bool) → m ≡ meets table slot state 8192 words → not m ≡ has_none tags table words state t
    unfolding has_none
    none_row n m e = rw (← k, le-ltb tag 22 h, ← s, ne_eqb slot 0 n, e)

pub ruleset nones = (none-leaf, none_open, none_row)

-- ---- a variable
shown-new : (state : List ℕ) (t : ℕ) → get_or state t 0 ≡ 0 → new_in state (t ∷ []) ≡ t ∷ []
unfolding new_in firsts leave_out is_hidden
shown-new state t e = rw e

hidden-new : (state : List ℕ) (t : ℕ) → (get_or state t 0 ≡ 0 → ⊥) → new_in state (t ∷ []) ≡ []
unfolding new_in firsts leave_out is_hidden
hidden-new state t n = rw (ne_eqb (get_or state t 0) 0 n)

module _ (table state found : List ℕ) (len t : ℕ) (room : len ≤ length found) where
  pub note-hidden : (get_or state t 0 ≡ 0 → ⊥) → Noted table state found len t state found len
  unfolding is_hidden
  note-hidden n = record {
    within = room;
    places = rw (hidden-new state t n) (sym (ap (take (length found)) (append-nil (take len found)) ∙ take_all (length found) (take len found) (rw (length-take-le len found room) room)));
    left = rw (ne_eqb (get_or state t 0) 0 n);
  }

  module _ (e : get_or state t 0 ≡ 0) (after : List ℕ) (a : after ≡ hide_at table state t) where
    left_is : after ≡ cond (is_hidden state t) state (hide_at table state t)
    unfolding is_hidden
    left_is = rw (eq-eqb (get_or state t 0) 0 e) a

    pub note-full : length found ≤ len → Noted table state found len t after found len
    note-full h = record {
      within = room;
      places =
          let same : len ≡ length found = omega arith in
          rw (shown-new state t e, same) (sym (take-append-le (length found) (take (length found) found) (t ∷ []) (rw (take-length found) (omega arith))
          ∙ take_all (length found) (take (length found) found) (rw (take-length found) (omega arith))));
      left = left_is;
    }

    pub note-new : len < length found → Noted table state found len t after (set found len t) (len + 1)
    note-new h = record {
      within = rw (length-set found len t) (omega arith);
      places = rw (add-one len, shown-new state t e) (take-suc-set found len t h
          ∙ sym (take_all (length found) (take len found ++ t ∷ []) (rw (length-append (take len found) (t ∷ []), length-take-le len found room) (omega arith))));
      left = left_is;
    }

pub ruleset notes = (note-hidden, note-full, note-new)

-- ---- what a term below another asks for
pub prepared-below : (tags values index table : List ℕ) (words t : ℕ) → Prepared tags values index table words t → (u : ℕ) → u < t
    → Prepared tags values index table words u
prepared-below tags values index table words t p u l = record {
  small = omega (arith, p.small);
  pairs = p.pairs;
  once = λ v h. p.once v (omega arith);
  short = λ v h. p.short v (omega arith);
  wide = p.wide;
  rows = λ v h. p.rows v (omega arith);
}

leave-all : (xs : List ℕ) → leave_out (λ v. true) xs ≡ []
unfolding leave_out
leave-all [] = refl
leave-all (x ∷ xs) = leave-all xs

-- the occurrences of a term below the limit
pub below-limit : (tags values : List ℕ) (t : ℕ) → t < cell_limit → Below (occurrences_at tags values t)
below-limit tags values t l = record { at = λ v e. omega (arith, (occurs-var tags values v t e).1) }

-- the same under pairs
under-below : (tags values : List ℕ) (t u : ℕ) → u < cell_limit → (v : ℕ) → among eqb (occurs_under tags values t u) v ≡ true → v < cell_limit
unfolding occurs_under
under-below tags values t u l v e =
    (below-limit tags values u l).at v
    (and_split (not (pairs_bind values (pair_kind_of (get_or tags t 0)) v (operands_of tags values t))) (among eqb (occurrences_at tags values u) v)
    (sym (among-leave_out eqb eqb_is eqb_refl (λ w. pairs_bind values (pair_kind_of (get_or tags t 0)) w (operands_of tags values t)) (occurrences_at tags values u) v) ∙ e)).1

module _ (tags values index table : List ℕ) (words : ℕ) (state found : List ℕ) (len t : ℕ) (ask : Ask tags values index table words state found len t) where
  -- an occurrence in the term is a known variable
  known : (u v : ℕ) → u ≤ t → among eqb (occurrences_at tags values u) v ≡ true → Known tags values index v
  known u v l e =
      let (tag, low) = occurs-var tags values v u e in
      record { tag = tag; place = ask.prepared.once v (omega arith) tag }

  pub walk_none : occurrences_at tags values t ≡ [] → Walked tags values index state found len (occurrences_at tags values t) state found len
  walk_none e = record {
    gathered = rw e (gather_none state found len [] ask.room (new_none state));
    wanted = ask.wanted;
  }

  -- every occurrence is hidden where no bit is in common
  all-hidden : has_none tags table words state t ≡ true → (v : ℕ) → among eqb (occurrences_at tags values t) v ≡ true → is_hidden state v ≡ true
  unfolding has_none is_hidden
  all-hidden h v e = by-test (eqb (get_or state v 0) 0)
      (λ q. absurd (by-test (ltb (get_or tags t 0) 22)
      (λ low. not-both h (rw low))
      (λ high. by-test (eqb (get_or table t 0) 0)
      (λ slot. not-both h (rw (high, slot)))
      (λ slot. meets-not table state (get_or table t 0) cell_limit words (number_of tags v)
      (not-true (meets table (get_or table t 0) state cell_limit words) (rw (high, slot) at h))
      (ask.prepared.wide v (known t v (omega arith) e))
      (ask.prepared.rows t (omega arith) (ltb-false (get_or tags t 0) 22 high) (eqb-false (get_or table t 0) 0 slot) v (known t v (omega arith) e)
      (sym (occurs-at tags values v (known t v (omega arith) e).tag t) ∙ e))
      (ask.wanted.row v (known t v (omega arith) e) (eqb-true (get_or state v 0) 0 q))))))
      (λ q. rw q)
    where
      not-true : (b : Bool) → not b ≡ true → b ≡ false
      not-true true e = absurd (not-both refl (sym e))
      not-true false e = refl

  nothing-new : has_none tags table words state t ≡ true → new_in state (occurrences_at tags values t) ≡ []
  unfolding new_in firsts
  nothing-new h =
      ap (firsts eqb) (leave_out-on (is_hidden state) (λ v. true) (occurrences_at tags values t) (all-hidden h) ∙ leave-all (occurrences_at tags values t))

  pub walk-skip : (r : Bool) → r ≡ has_none tags table words state t → r ≡ true
      → Walked tags values index state found len (occurrences_at tags values t) state found len
  walk-skip r is e = record {
    gathered = gather_none state found len (occurrences_at tags values t) ask.room (nothing-new (sym is ∙ e));
    wanted = ask.wanted;
  }

  module _ (tag : get_or tags t 0 ≡ 21) (o : occurrences_at tags values t ≡ t ∷ []) where
    self : Known tags values index t
    self = record { tag = tag; place = ask.prepared.once t (omega arith) tag }

    pub walk-variable : (state' found' : List ℕ) (len' : ℕ) → Noted table state found len t state' found' len'
        → Walked tags values index state found len (occurrences_at tags values t) state' found' len'
    unfolding is_hidden among
    walk-variable state' found' len' n = by-test (eqb (get_or state t 0) 0)
        (λ e. let z = eqb-true (get_or state t 0) 0 e in
        let left : state' ≡ hide_at table state t = n.left ∙ rw e in
        record {
          gathered = record {
            within = n.within;
            places = rw o n.places;
            counts = λ v l. rw (o, shown-new state t z, left) (hide-counts table state t ask.prepared.small ask.wanted.size v l ∙ rw (or_no (eqb t v)));
          };
          wanted = rw left (hide-wanted table state t ask.prepared.small ask.wanted.size tags values index ask.prepared.pairs self ask.wanted);
        })
        (λ e. let left : state' ≡ state = n.left ∙ rw e in
        record {
          gathered = record {
            within = n.within;
            places = rw o n.places;
            counts = λ v l. rw (o, hidden-new state t (eqb-false (get_or state t 0) 0 e), left) (sym (add-zero (get_or state v 0)));
          };
          wanted = rw left ask.wanted;
        })
      where
        or_no : (b : Bool) → (b || false) ≡ b
        or_no true = refl
        or_no false = refl

  -- ---- the body at u under the pairs of the term at t
  module _ (u : ℕ) (l : u < t) (run : List ℕ) (o : run ≡ operands_of tags values t) (state₁ : List ℕ) (kind : PairKind)
      (hid : Hid tags values index kind (drop 1 run) state state₁) where
    few-pairs : (v : ℕ) → binders_of tags values index kind (drop 1 run) v ≤ cell_limit
    few-pairs v = omega (arith, binders-few tags values index table ask.prepared.pairs kind v (drop 1 run), length-drop 1 run, rw (← o) at (ask.prepared.short t (omega arith)))

    pub body-ask : Ask tags values index table words state₁ found len u
    body-ask = record {
      prepared = prepared-below tags values index table words t ask.prepared u l;
      wanted = hid.wanted;
      few = record { at = λ v h. omega (arith, hid.counts v h, ask.few.at v h, few-pairs v, ask.prepared.small) };
      room = ask.room;
    }

    module _ (state₂ found' : List ℕ) (len' : ℕ) (walked : Walked tags values index state₁ found len (occurrences_at tags values u) state₂ found' len') where
      module _ (q : kind ≡ pair_kind_of (get_or tags t 0)) (state₃ : List ℕ) (shown : Shown tags values index kind (drop 1 run) state₂ state₃) where
        same_new : new_in state₁ (occurrences_at tags values u) ≡ new_in state (occurs_under tags values t u)
        unfolding new_in occurs_under pairs_bind is_hidden
        same_new = rw (← q, ← o) (ap (firsts eqb)
            (leave_out-on (is_hidden state₁) (λ v. is_hidden state v || pairs_bind values kind v run) (occurrences_at tags values u) both
            ∙ sym (leave_out-twice (is_hidden state) (λ v. pairs_bind values kind v run) (occurrences_at tags values u))))
          where
            both : (v : ℕ) → among eqb (occurrences_at tags values u) v ≡ true → is_hidden state₁ v ≡ (is_hidden state v || pairs_bind values kind v run)
            both v e =
                let k = known u v (omega arith) e in
                let low : v < cell_limit = omega (arith, (occurs-var tags values v u e).1, ask.prepared.small) in
                rw (hid.counts v low, binds-some tags values index table ask.prepared.pairs kind v k (drop 1 run))
                (sum-hidden (get_or state v 0) (binders_of tags values index kind (drop 1 run) v))
              where
                sum-hidden : (a b : ℕ) → not (eqb (a + b) 0) ≡ (not (eqb a 0) || not (eqb b 0))
                sum-hidden a b = by-test (eqb a 0)
                    (λ e. by-test (eqb b 0)
                    (λ f. rw (e, f, eq-eqb (a + b) 0 (omega (arith, eqb-true a 0 e, eqb-true b 0 f))))
                    (λ f. rw (e, f, ne_eqb (a + b) 0 (λ z. eqb-false b 0 f (omega arith)))))
                    (λ e. rw (e, ne_eqb (a + b) 0 (λ z. eqb-false a 0 e (omega arith))))

        pub body-walked : Walked tags values index state found len (occurs_under tags values t u) state₃ found' len'
        body-walked = record {
          gathered = record {
            within = walked.gathered.within;
            places = walked.gathered.places ∙ rw same_new;
            counts = λ v h. omega (arith, rw same_new at (walked.gathered.counts v h), hid.counts v h, shown.counts v h);
          };
          wanted = shown.wanted;
        }

-- ---- by what `free_from` answers
module _ (tags values index table : List ℕ) (words : ℕ) (state found : List ℕ) (len t : ℕ) (ask : Ask tags values index table words state found len t)
    (r : FreeFrom) (means : FreeFromMeans tags values t r) (occurs : OccursFrom tags values t r) where
  pub from_nothing : r ≡ Nothing → Walked tags values index state found len (occurrences_at tags values t) state found len
  from_nothing e = walk_none tags values index table words state found len t ask (rw e at occurs)

  pub from-variable : r ≡ Variable → (state' found' : List ℕ) (len' : ℕ) → Noted table state found len t state' found' len'
      → Walked tags values index state found len (occurrences_at tags values t) state' found' len'
  from-variable e = walk-variable tags values index table words state found len t ask (rw e at means).0 (rw e at occurs)

  module _ (u : TermPlace) where
    module _ (e : r ≡ Let u) where
      pub let-below : u.0 < t
      let-below = (rw e at occurs).0

      module _ (state' found' : List ℕ) (len' : ℕ)
          (w : Walked tags values index state found len (occurs_among tags values t (let_values (operands_of tags values t))) state' found' len') where
        -- after the values the walk of the body asks for what the term's did
        pub let-ask : Ask tags values index table words state' found' len' t
        let-ask = record {
          prepared = ask.prepared;
          wanted = w.wanted;
          few = record {
            at = λ v h. gather-few state found len (occurs_among tags values t (let_values (operands_of tags values t))) state' found' len' w.gathered (limit_at t)
                (omega (arith, ask.prepared.small)) v h (ask.few.at v h);
          };
          room = w.gathered.within;
        }

        pub from-let : length found' ≡ length found → (state'' found'' : List ℕ) (len'' : ℕ)
            → Walked tags values index state' found' len' (occurs_under tags values t u.0) state'' found'' len''
            → Walked tags values index state found len (occurrences_at tags values t) state'' found'' len''
        from-let long state'' found'' len'' b = record {
          gathered = rw (rw e at occurs).1 (gather-then state found len (occurs_among tags values t (let_values (operands_of tags values t))) state' found' len' w.gathered long
              (occurs_under tags values t u.0) (record { at = λ v m. under-below tags values t u.0 (omega (arith, let-below, ask.prepared.small)) v m })
              state'' found'' len'' b.gathered);
          wanted = b.wanted;
        }
