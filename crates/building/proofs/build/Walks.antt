-- Laws of the two walks that build: the memo's entries, one step after another, a term, a run of operands, a connective, and the whole
-- walk.
-- Assumes nothing.
use Rattle.std.specs.Prelude.{Option, Some, None}
use Prim.Native.Nat.{ℕ, zero, suc, ◌+◌, ◌-◌, ◌≤◌, ◌<◌}
use mathlib.Core.Path.{◌≡◌, refl, sym, ap, ◌∙◌, fun_ext}
use mathlib.Core.Bool.{Bool, true, false}
use mathlib.Core.List.{List, [], ◌∷◌}
use lib.ListN.{length, get_or, set, take, drop, drop_of_length-le, replicate, length-replicate}
use lib.Seq.{drop-cons}
use native.Mathlib.Omega.{arith}
use native.Mathlib.Numerals.{add-one}
use borrow.Author.Tests.{lt-ltb, le-ltb}
use Rattle.cells.specs.Place.{term_at}
use Rattle.cells.specs.declared.TermPlace.{TermPlace}
use Rattle.formulas.specs.Normal.{Normal, Normals, nmany}
use Rattle.formulas.specs.Built.{Pool, Placed, PlacedAll, count, put, intern, interns, normals_of}
use Rattle.formulas.specs.Formula.{connective_tag}
use Rattle.building.specs.Arrays.{pool_of}
use Rattle.building.specs.Walk.{State, Left, Holds, Puts, Builds, memo_of, MemoEmpty, MemoKept, slot_of, places_in, FormKind, normal, taken_out, form_of, run_of, entry_form, Formed, Known, operand_forms, OperandsKnown, Before, NormalBuilt, WalkReady}
use Rattle.descriptions.specs.IndexedPool.{HasIndex, SameArrays}
use Rattle.descriptions.specs.declared.index.IndexedPool.{IndexedPool}
use Rattle.building.specs.Lent.{counted, no_place, Ready, FormedIn, KnownIn, OperandsIn, run_in}
use Rattle.building.proofs.Interning.{becomes-longer, interns-becomes, put-becomes, put-goes-on}
use Rattle.building.proofs.build.Laws.{fits-true, pool-count, pool-good}
use Rattle.building.proofs.build.Building.{memo-read, memo-here, left-refl, builds-put, builds-stood, builds-full, builds-holds, builds-noted, builds-then, builds-kept}

-- ---- the memo's entries
slot-entry : (w : FormKind) (end : ℕ) (tags values : List ℕ) (t : ℕ) (polarity : Bool) → t < 8192
    → entry_form w end tags values (slot_of t polarity) ≡ form_of w end tags values t polarity
unfolding entry_form slot_of
slot-entry w end tags values t true h = rw (lt-ltb t 8192 h)
slot-entry w end tags values t false h = let z : 8192 + t - 8192 ≡ t = omega arith in rw (le-ltb (8192 + t) 8192 (omega arith), z)

slot_small : (t : ℕ) (polarity : Bool) → t < 8192 → slot_of t polarity < 16384
unfolding slot_of
slot_small t true h = omega arith
slot_small t false h = omega arith

module _ (w : FormKind) (end n : ℕ) (tags values work : List ℕ) (ready : WalkReady w end n tags values work) (t : ℕ) where
  place-within : t < end → t < 8192
  place-within h = omega (arith, ready.state.source, ready.state.small)

  pub slot-within : (polarity : Bool) → t < end → (i : ℕ) → i ≡ slot_of t polarity → i < 16384
  slot-within polarity h i e = omega (arith, slot_small t polarity (place-within h))

-- ---- the source cells stay as they are
module _ (end : ℕ) (tags values tags₁ values₁ : List ℕ) (l : Left end tags values tags₁ values₁) where
  pub form-same : (w : FormKind) (t : ℕ) (polarity : Bool) → form_of w end tags₁ values₁ t polarity ≡ form_of w end tags values t polarity
  unfolding form_of
  form-same normal t polarity = rw (l.tags-kept, l.values-kept)
  form-same taken_out t polarity = rw (l.tags-kept, l.values-kept)

  pub entry-same : (w : FormKind) → entry_form w end tags₁ values₁ ≡ entry_form w end tags values
  unfolding entry_form
  entry-same w = fun_ext (λ i. rw (form-same w i true, form-same w (i - 8192) false))

  pub run-same : (t : ℕ) → run_of end tags₁ values₁ t ≡ run_of end tags values t
  run-same t = rw (l.tags-kept, l.values-kept)

  before_same : (t : ℕ) → Before end tags values t → Before end tags₁ values₁ t
  before_same t b = record { operand = λ i h. rw (run-same t) (b.operand i (rw (run-same t) at h)) }

-- ---- after a step
module _ (w : FormKind) (end : ℕ) (tags values work : List ℕ) (o : Placed) (r : Option (TermPlace × ℕ)) (tags₁ values₁ work₁ : List ℕ)
    (b : Builds (entry_form w end tags values) end tags values work o r tags₁ values₁ work₁) (p : TermPlace) (m : ℕ) (e : r ≡ Some (p, m)) where
  pub state-after : State end m tags₁ values₁
  state-after = (builds-holds (entry_form w end tags values) end tags values work o r tags₁ values₁ work₁ b p m e).state

  pub memo-long : length work₁ ≡ 24576
  memo-long = (builds-noted (entry_form w end tags values) end tags values work o r tags₁ values₁ work₁ b p m e).right.size

  pub ready-after : WalkReady w end m tags₁ values₁ work₁
  ready-after = record {
    state = state-after;
    right = rw (entry-same end tags values tags₁ values₁ b.puts.left w)
        (builds-noted (entry_form w end tags values) end tags values work o r tags₁ values₁ work₁ b p m e).right;
  }

  -- the next step, that of its own source, is one of the same source
  pub then-builds : (o₂ : Placed) (r₂ : Option (TermPlace × ℕ)) (tags₂ values₂ work₂ : List ℕ)
      → Builds (entry_form w end tags₁ values₁) end tags₁ values₁ work₁ o₂ r₂ tags₂ values₂ work₂
      → Builds (entry_form w end tags values) end tags values work o₂ r₂ tags₂ values₂ work₂
  then-builds o₂ r₂ tags₂ values₂ work₂ b₂ =
      builds-then (entry_form w end tags values) end tags values work o r tags₁ values₁ work₁ b p m e o₂ r₂ tags₂ values₂ work₂
      (rw (entry-same end tags values tags₁ values₁ b.puts.left w) at b₂)

  -- one more term after it
  pub then-put : (tag : ℕ) (cells : List ℕ) (r₂ : Option (TermPlace × ℕ)) (tags₂ values₂ work₂ : List ℕ)
      → Puts m tags₁ values₁ (put (pool_of tags₁ values₁ m) tag cells) r₂ tags₂ values₂ → MemoKept work₁ work₂
      → Builds (entry_form w end tags values) end tags values work (put o.pool tag cells) r₂ tags₂ values₂ work₂
  then-put tag cells r₂ tags₂ values₂ work₂ y kept =
      let h = builds-holds (entry_form w end tags values) end tags values work o r tags₁ values₁ work₁ b p m e in
      let k = builds-noted (entry_form w end tags values) end tags values work o r tags₁ values₁ work₁ b p m e in
      rw (← h.pool-is)
      (builds-then (entry_form w end tags values) end tags values work o r tags₁ values₁ work₁ b p m e _ r₂ tags₂ values₂ work₂
      (builds-put (entry_form w end tags values) end m tags₁ values₁ work₁ h.state k.right (put (pool_of tags₁ values₁ m) tag cells)
      (put-goes-on (pool_of tags₁ values₁ m) tag cells (pool-good end m tags₁ values₁ h.state)) r₂ tags₂ values₂ work₂ y kept))

-- ---- the place of what is built
place : Option (TermPlace × ℕ) → TermPlace
place None = term_at 0
place (Some r) = r.0

place-is : (r s : TermPlace × ℕ) → Some r ≡ Some s → r.0 ≡ s.0
unfolding place
place-is r s e = ap (λ (o : Option (TermPlace × ℕ)). place o) e

-- an answer's place is that with the count
pub at_count : (r : Option TermPlace) (m : ℕ) (p : TermPlace) → r ≡ Some p → counted r m ≡ Some (p, m)
at_count r m p e = rw e

pub no_count : (r : Option TermPlace) (m : ℕ) → r ≡ None → counted r m ≡ None
no_count r m e = rw e

pub done_count : (r : Option (Unit {0})) (m : ℕ) (u : Unit {0}) → r ≡ Some u → counted (no_place r) m ≡ Some ((term_at 0), m)
done_count r m u e = rw e

pub undone_count : (r : Option (Unit {0})) (m : ℕ) → r ≡ None → counted (no_place r) m ≡ None
undone_count r m e = rw e

-- ---- one term: the memo has its form, or it is built and kept
module _ (w : FormKind) (end n : ℕ) (tags values work : List ℕ) (ready : WalkReady w end n tags values work) (t : ℕ) (polarity : Bool) (within : t < end) (i : ℕ) (is : i ≡ slot_of t polarity)
    (k : ℕ) (read : k ≡ get_or work i 0) where
  small : i < 16384
  small = slot-within w end n tags values work ready t polarity within i is

  entry_read : get_or (memo_of work) i 0 ≡ k
  entry_read = memo-read work i small ∙ sym read

  pub form-known : (k ≡ 0 → ⊥) → Known w end n tags values work t polarity (Some ((term_at (k - 1)), n)) tags values work
  form-known z =
      let q : get_or (memo_of work) (slot_of t polarity) 0 ≡ suc (k - 1) = rw (← is, entry_read) (let z : k ≡ suc (k - 1) = omega arith in z) in
      record {
        formed = builds-stood (entry_form w end tags values) end n tags values work ready.state ready.right (form_of w end tags values t polarity) (k - 1)
            (omega (arith, ready.right.below (slot_of t polarity) (k - 1) q, pool-count tags values n ready.state.within))
            (rw (slot-entry w end tags values t polarity (place-within w end n tags values work ready t within)) at (ready.right.entry (slot_of t polarity) (k - 1) q));
        known = λ p m e. let v : term_at (k - 1) ≡ p = place-is _ _ e in rw (← ap (λ (x : TermPlace). x.0) v) q;
      }

  module _ (r : Option (TermPlace × ℕ)) (tags₁ values₁ work₁ : List ℕ) (b : Formed w end n tags values work (form_of w end tags values t polarity) r tags₁ values₁ work₁) where
    pub form-kept : k ≡ 0 → (p : TermPlace) (m : ℕ) → r ≡ Some (p, m) → Known w end n tags values work t polarity (Some (p, m)) tags₁ values₁ (set work₁ i (p.0 + 1))
    form-kept z p m e = record {
      formed = rw add-one (builds-kept (entry_form w end tags values) end n tags values work ready.state (form_of w end tags values t polarity) i
          (rw is (slot-entry w end tags values t polarity (place-within w end n tags values work ready t within))) (entry_read ∙ z) p.0 m tags₁ values₁ work₁ (rw e at b) small);
      known = λ q l f. let v : p ≡ q = place-is _ _ f in rw (add-one, ← is, ← ap (λ (x : TermPlace). x.0) v)
          (memo-here work₁ (memo-long w end tags values work _ r tags₁ values₁ work₁ b p m e) i small (suc p.0));
    }

-- ---- a run of operands
module _ (w : FormKind) (end n : ℕ) (tags values work : List ℕ) (t : ℕ) (polarity : Bool) (i : ℕ) (run : List ℕ) (are : run ≡ run_of end tags values t) where
  operands_end : WalkReady w end n tags values work → t < end → length run ≤ i → OperandsKnown w end n tags values work t polarity i (Some ((term_at 0), n)) tags values work
  unfolding interns
  operands_end ready h l =
      let e : drop i (run_of end tags values t) ≡ [] = rw (← are) (drop_of_length-le run l) in
      record {
        builds = rw e (record {
          puts = record {
            outcome = record { pool-is = refl; place_is = refl; below = omega (arith, ready.state.source); state = ready.state };
            left = left-refl end tags values;
          };
          memo-is = record { right = ready.right; keeps = λ j x k. k };
        });
        places = λ p m q. rw e;
      }

  module _ (h : i < length run) (u : ℕ) (at : u ≡ get_or run i 0) (r₁ : Option (TermPlace × ℕ)) (tags₁ values₁ work₁ : List ℕ)
      (j : Known w end n tags values work u polarity r₁ tags₁ values₁ work₁) where
    abbrev first : Placed
    first = intern (form_of w end tags values u polarity) (pool_of tags values n)

    abbrev rest : Normals (List ℕ) ℕ
    rest = operand_forms w end tags values t polarity (i + 1)

    run-next : drop i (run_of end tags values t) ≡ u ∷ drop (i + 1) (run_of end tags values t)
    run-next = rw (← are, drop-cons run i 0 h, ← at, add-one i)

    operands-full : r₁ ≡ None → OperandsKnown w end n tags values work t polarity i None tags₁ values₁ work₁
    unfolding interns
    operands-full e = record {
      builds = builds-full (entry_form w end tags values) end tags values work first r₁ tags₁ values₁ work₁ j.formed e _
          (rw run-next (becomes-longer _ _ (interns-becomes rest first.pool)));
      places = λ p m f. let z : ◌≡◌ {A = ℕ} 0 1 = cc in absurd (omega arith);
    }

    module _ (p : TermPlace) (m : ℕ) (e : r₁ ≡ Some (p, m)) (r₂ : Option (TermPlace × ℕ)) (tags₂ values₂ work₂ : List ℕ)
        (k : OperandsKnown w end m tags₁ values₁ work₁ t polarity (i + 1) r₂ tags₂ values₂ work₂) where
      h₂ : Holds end first p.0 m tags₁ values₁
      h₂ = builds-holds (entry_form w end tags values) end tags values work first r₁ tags₁ values₁ work₁ j.formed p m e

      l₂ : Left end tags values tags₁ values₁
      l₂ = j.formed.puts.left

      rest-same : operand_forms w end tags₁ values₁ t polarity (i + 1) ≡ rest
      rest-same =
          rw (run-same end tags values tags₁ values₁ l₂ t)
          (ap (λ (f : ℕ → Normal (List ℕ) ℕ). normals_of f (drop (i + 1) (run_of end tags values t))) (fun_ext (λ u. form-same end tags values tags₁ values₁ l₂ w u polarity)))

      abbrev after : PlacedAll
      after = interns (operand_forms w end tags₁ values₁ t polarity (i + 1)) (pool_of tags₁ values₁ m)

      whole : interns (operand_forms w end tags values t polarity i) (pool_of tags values n) ≡ record { pool = after.pool; places = p.0 ∷ after.places }
      unfolding interns
      whole =
          let e₁ : interns (operand_forms w end tags values t polarity i) (pool_of tags values n)
          ≡ record { pool = (interns rest first.pool).pool; places = first.place ∷ (interns rest first.pool).places } = rw run-next in
          e₁ ∙ rw (← h₂.pool-is, ← h₂.place_is, ← rest-same)

      operands_next : OperandsKnown w end n tags values work t polarity i r₂ tags₂ values₂ work₂
      operands_next = record {
        builds = rw whole (then-builds w end tags values work first r₁ tags₁ values₁ work₁ j.formed p m e _ r₂ tags₂ values₂ work₂ k.builds);
        places = λ q l f.
            let kept = builds-noted (entry_form w end tags₁ values₁) end tags₁ values₁ work₁ _ r₂ tags₂ values₂ work₂ k.builds q l f in
            let here : get_or (memo_of work₂) (slot_of u polarity) 0 ≡ suc p.0 = kept.keeps (slot_of u polarity) p.0 (j.known p m e) in
            let z : suc p.0 - 1 ≡ p.0 = omega arith in
            rw (whole, run-next, here, z, k.places q l f, run-same end tags values tags₁ values₁ l₂ t);
      }

-- the loop of `operand_forms` at i: whoever does the operands from i on has done all
pub record OperandsLeft (w : FormKind) (end n : ℕ) (tags values work : List ℕ) (t : ℕ) (polarity : Bool) (m : ℕ) (tags₁ values₁ work₁ : List ℕ) (i : ℕ) : Type 0 where
  pub tags-size : length tags₁ ≡ length tags
  pub values-size : length values₁ ≡ length values
  pub ready : WalkReady w end m tags₁ values₁ work₁
  pub before : Before end tags₁ values₁ t
  pub count : length (run_of end tags₁ values₁ t) ≡ length (run_of end tags values t)
  pub whole : (r : Option (TermPlace × ℕ)) (tags' values' work' : List ℕ) → OperandsKnown w end m tags₁ values₁ work₁ t polarity i r tags' values' work'
      → OperandsKnown w end n tags values work t polarity 0 r tags' values' work'

-- the same of the pool
pub record OperandsWalked (w : FormKind) (end : ℕ) (pool : IndexedPool) (work : List ℕ) (t : ℕ) (polarity : Bool) (pool₁ : IndexedPool) (work₁ : List ℕ) (i : ℕ) : Type 0 where
  pub left : OperandsLeft w end pool.count pool.tags.now pool.values.now work t polarity pool₁.count pool₁.tags.now pool₁.values.now work₁ i
  pub has_index : HasIndex pool₁
  pub same_arrays : SameArrays pool pool₁

-- `first` is the run as it was taken before the loop, and `run` as it is taken in it
module _ (w : FormKind) (end n : ℕ) (tags values work : List ℕ) (t : ℕ) (polarity : Bool)
    (m : ℕ) (tags₁ values₁ work₁ : List ℕ) (i : ℕ) (s : OperandsLeft w end n tags values work t polarity m tags₁ values₁ work₁ i)
    (first : List ℕ) (was : first ≡ run_of end tags values t) where
  pub loop-end : t < end → length first ≤ i → OperandsKnown w end n tags values work t polarity 0 (Some ((term_at 0), m)) tags₁ values₁ work₁
  loop-end h l = s.whole _ _ _ _ (operands_end w end m tags₁ values₁ work₁ t polarity i _ refl s.ready h (rw (s.count, ← was) l))

  module _ (run : List ℕ) (are : run ≡ run_of end tags₁ values₁ t) (h : i < length first) where
    loop-within : i < length run
    loop-within = rw (are, s.count, ← was) h

    module _ (r : Option (TermPlace × ℕ)) (tags₂ values₂ work₂ : List ℕ) (j : Known w end m tags₁ values₁ work₁ (get_or run i 0) polarity r tags₂ values₂ work₂) where
      pub loop-full : r ≡ None → OperandsKnown w end n tags values work t polarity 0 None tags₂ values₂ work₂
      loop-full e = s.whole _ _ _ _ (operands-full w end m tags₁ values₁ work₁ t polarity i run are loop-within _ refl r tags₂ values₂ work₂ j e)

      pub loop-next : (p : TermPlace) (l : ℕ) → r ≡ Some (p, l) → OperandsLeft w end n tags values work t polarity l tags₂ values₂ work₂ (i + 1)
      loop-next p l e = record {
        tags-size = j.formed.puts.left.tags-size ∙ s.tags-size;
        values-size = j.formed.puts.left.values-size ∙ s.values-size;
        ready = ready-after w end tags₁ values₁ work₁ _ r tags₂ values₂ work₂ j.formed p l e;
        before = before_same end tags₁ values₁ tags₂ values₂ j.formed.puts.left t s.before;
        count = rw (run-same end tags₁ values₁ tags₂ values₂ j.formed.puts.left t) s.count;
        whole = λ r' tags' values' work' k.
            s.whole r' tags' values' work' (operands_next w end m tags₁ values₁ work₁ t polarity i run are loop-within _ refl r tags₂ values₂ work₂ j p l e r' tags' values' work' k);
      }

-- ---- the pool, from one call to the next
pub ready-next : (w : FormKind) (end : ℕ) (pool : IndexedPool) (work : List ℕ) (f : Normal (List ℕ) ℕ) (r : Option TermPlace) (pool₁ : IndexedPool) (work₁ : List ℕ)
    → FormedIn w end pool work f r pool₁ work₁ → HasIndex pool₁ → (p : TermPlace) → r ≡ Some p → Ready w end pool₁ work₁
ready-next w end pool work f r pool₁ work₁ b h p e = record { walk_ready = ready-after w _ _ _ _ _ _ _ _ _ b p _ (at_count r _ p e); has_index = h }

arrays-trans : (pool pool₁ pool₂ : IndexedPool) → SameArrays pool pool₁ → SameArrays pool₁ pool₂ → SameArrays pool pool₂
arrays-trans pool pool₁ pool₂ s k = record {
  tags = k.tags ∙ s.tags;
  values = k.values ∙ s.values;
  index = k.index ∙ s.index;
  tags-size = k.tags-size ∙ s.tags-size;
  values-size = k.values-size ∙ s.values-size;
}

module _ (w : FormKind) (end : ℕ) (pool : IndexedPool) (work : List ℕ) (t : ℕ) (polarity : Bool) (pool₁ : IndexedPool) (work₁ : List ℕ) (i : ℕ)
    (s : OperandsWalked w end pool work t polarity pool₁ work₁ i) (first : List ℕ) (was : first ≡ run_in end pool t) where
  pub walked_end : t < end → length first ≤ i → OperandsIn w end pool work t polarity (Some tt) pool₁ work₁
  walked_end h l = loop-end w _ _ _ _ _ _ _ _ _ _ _ _ s.left first was h l

  module _ (run : List ℕ) (are : run ≡ run_in end pool₁ t) (h : i < length first) (r : Option TermPlace) (pool₂ : IndexedPool) (work₂ : List ℕ)
      (j : KnownIn w end pool₁ work₁ (get_or run i 0) polarity r pool₂ work₂) where
    pub walked-full : r ≡ None → OperandsIn w end pool work t polarity None pool₂ work₂
    walked-full e = loop-full w _ _ _ _ _ _ _ _ _ _ _ _ s.left first was run are h _ _ _ _ j (no_count r _ e)

    pub walked_next : (p : TermPlace) → r ≡ Some p → HasIndex pool₂ → SameArrays pool₁ pool₂ → OperandsWalked w end pool work t polarity pool₂ work₂ (i + 1)
    walked_next p e k same = record {
      left = loop-next w _ _ _ _ _ _ _ _ _ _ _ _ s.left first was run are h _ _ _ _ j p _ (at_count r _ p e);
      has_index = k;
      same_arrays = arrays-trans pool pool₁ pool₂ s.same_arrays same;
    }

-- ---- a connective over its operands' forms
module _ (w : FormKind) (end n : ℕ) (tags values work : List ℕ) (t : ℕ) (polarity b : Bool) (is : form_of w end tags values t polarity ≡ nmany b (operand_forms w end tags values t polarity 0))
    (r₁ : Option (TermPlace × ℕ)) (tags₁ values₁ work₁ : List ℕ) (j : OperandsKnown w end n tags values work t polarity 0 r₁ tags₁ values₁ work₁) where
  abbrev built : PlacedAll
  built = interns (operand_forms w end tags values t polarity 0) (pool_of tags values n)

  pub connective-full : r₁ ≡ None → Formed w end n tags values work (form_of w end tags values t polarity) None tags₁ values₁ work₁
  unfolding intern
  connective-full f =
      rw is
      (builds-full (entry_form w end tags values) end tags values work _ r₁ tags₁ values₁ work₁ j.builds f (intern (nmany b (operand_forms w end tags values t polarity 0)) (pool_of tags values n))
      (becomes-longer _ _ (put-becomes built.pool (connective_tag b) (0 ∷ built.places))))

  pub connective-put : (p : TermPlace) (m : ℕ) → r₁ ≡ Some (p, m) → (r₂ : Option (TermPlace × ℕ)) (tags₂ values₂ work₂ : List ℕ)
      → Puts m tags₁ values₁ (put (pool_of tags₁ values₁ m) (connective_tag b) (0 ∷ places_in (memo_of work₁) polarity (run_of end tags₁ values₁ t))) r₂ tags₂ values₂
      → MemoKept work₁ work₂ → Formed w end n tags values work (form_of w end tags values t polarity) r₂ tags₂ values₂ work₂
  unfolding intern
  connective-put p m f r₂ tags₂ values₂ work₂ y kept =
      let cells : places_in (memo_of work₁) polarity (run_of end tags₁ values₁ t) ≡ built.places =
      rw (run-same end tags values tags₁ values₁ j.builds.puts.left t) (sym (j.places p m f)) in
      rw (is, ← cells)
      (then-put w end tags values work _ r₁ tags₁ values₁ work₁ j.builds p m f (connective_tag b) _ r₂ tags₂ values₂ work₂ y kept)

-- ---- the whole
-- a memo that has nothing
pub ready-empty : (n : ℕ) (tags values work : List ℕ) → State n n tags values → MemoEmpty work → (w : FormKind) → WalkReady w n n tags values work
ready-empty n tags values work s empty w = record {
  state = s;
  right = record {
    size = empty.size;
    entry = λ i p e. absurd (omega (arith, empty.none i));
    below = λ i p e. absurd (omega (arith, empty.none i));
  };
}

take-zeros : (n k i : ℕ) → get_or {A = ℕ} (take n (replicate k 0)) i 0 ≡ 0
take-zeros zero k i = refl
take-zeros (suc n) zero i = refl
take-zeros (suc n) (suc k) zero = refl
take-zeros (suc n) (suc k) (suc i) = take-zeros n k i

pub zeros-empty : (work : List ℕ) → work ≡ replicate 24576 0 → MemoEmpty work
unfolding memo_of
zeros-empty work e = rw e record { size = length-replicate {A = ℕ} 24576 0; none = take-zeros 16384 24576 }

module _ (w : FormKind) (n : ℕ) (tags values work : List ℕ) (t : ℕ) (polarity : Bool) where
  pub whole-built : (r : Option (TermPlace × ℕ)) (tags' values' work' : List ℕ) → Known w n n tags values work t polarity r tags' values' work'
      → NormalBuilt n tags values (intern (form_of w n tags values t polarity) (pool_of tags values n)) r tags' values'
  whole-built (Some (p, m)) tags' values' work' j =
      let h = j.formed.puts.outcome in
      let c = ap (λ (q : Pool). count q) h.pool-is in
      let k = pool-count tags' values' m h.state.within in
      (h, fits-true _ (length tags) (omega (arith, h.state.within, j.formed.puts.left.tags-size)) (omega (arith, h.state.small)))
  whole-built None tags' values' work' j = (j.formed.puts.left, j.formed.puts.outcome)
