-- Laws of the writing of a clause, one for each way out of the code.
-- Assumes nothing.
use Rattle.std.specs.Prelude.{Option, Some, None, is_some}
use Prim.Native.Nat.{ℕ, zero, suc, ◌+◌, ◌-◌, ◌*◌, ◌/◌, ◌%◌, ◌≤◌, ◌<◌, min}
use mathlib.Core.Path.{◌≡◌, refl, sym, ap, subst, ◌∙◌}
use mathlib.Core.Bool.{true}
use mathlib.Core.List.{List, [], ◌∷◌, ◌++◌}
use lib.ListN.{length, get_or, drop, set, length-append, length-drop, drop_of_length-le}
use lib.Seq.{sets, length-sets, drop-cons}
use lib.Dec.{ltb}
use native.Mathlib.Nat.{le-mul_of_pos_right, mul-div_cancel_left, mul_comm, mod-lt, div-lt_iff_lt-mul, mul-zero, zero-mul}
use native.Mathlib.Omega.{arith}
use native.Mathlib.Numerals.{add-one}
use borrow.Author.Tests.{lt-ltb, le-ltb, ltb-true, ltb-false}
use Rattle.cells.specs.Place.{term_at}
use Rattle.cells.specs.declared.TermPlace.{TermPlace}
use Rattle.cells.specs.Cell.{operands_of}
use Rattle.cells.specs.ByPlace.{by-test}
use Rattle.formulas.specs.declared.kinds.ConnectiveKind.{ConnectiveKind}
use Rattle.formulas.specs.declared.kinds.ConnectiveKind.TheVariants.{And, Or}
use Rattle.formulas.specs.declared.view.NormalView.{NormalView}
use Rattle.formulas.specs.declared.view.NormalView.TheVariants.{Literal, Connective, Forall}
use Rattle.clauses.specs.declared.conjunctive_normal_form.Chosen.{Chosen}
use Rattle.formulas.specs.Formula.{all_before}
use Rattle.formulas.specs.Normal.{Normal}
use Rattle.formulas.specs.Clauses.{cnf, cnf_and, cnf_or}
use Rattle.formulas.specs.Built.{normal_view, form_at}
use Rattle.formulas.specs.Totals.{Totals}
use Rattle.formulas.proofs.Totals.{totals-are}
use Rattle.formulas.specs.ClauseLists.{literal_place, clause_places}
use Rattle.clauses.specs.ClauseWalk.{clauses_at, Memo}
use Rattle.clauses.specs.ClauseList.{run_of, choose, ClauseCounts, Ask, AskRun, Written}
use Rattle.clauses.proofs.ClauseAt.{append_left, append_right, product_at, clauses-and, clauses-or}
use Rattle.formulas.proofs.Reading.{before_head, before-tail, read-literal, read-forall, read-connective, run-before, connective-within}

-- ---- the walk along the operands of an `and`: w is what it finds, from j on, for the number left
module _ (w : Option Chosen) (memo run : List ℕ) (j left : ℕ) (inv : w ≡ choose memo (drop j run) left) where
  pub choose-end : length run ≤ j → None ≡ w
  unfolding choose
  choose-end h = rw (inv, drop_of_length-le run h)

  module _ (h : j < length run) (here : ℕ) (is : here ≡ clauses_at memo (get_or run j 0)) where
    pub choose-here : left < here → Some (record { place = term_at (get_or run j 0); index = left }) ≡ w
    unfolding choose
    choose-here l = rw (inv, drop-cons run j 0 h, ← is, lt-ltb _ _ l)

    pub choose-next : here ≤ left → w ≡ choose memo (drop (j + 1) run) (left - here)
    unfolding choose
    choose-next l = rw (inv, drop-cons run j 0 h, ← is, le-ltb _ _ l, add-one j)

pub ruleset chooses = (choose-end, choose-here, choose-next)

-- ---- the clauses of a run
module _ (tags values memo : List ℕ) where
  -- a number of clauses below the limit is exact
  pub exact : (u : ℕ) (us : List ℕ) → ClauseCounts tags values memo (u ∷ us) → u < length tags → length (cnf (form_at tags values u)) ≤ 2048
      → clauses_at memo u ≡ length (cnf (form_at tags values u))
  exact u us counted h l =
      ap (λ (t : Totals). t.clauses) (counted.right.at u (counted.all 0 (omega arith) h))
      ∙ (ap (λ (t : Totals). min 8193 t.clauses) (totals-are (form_at tags values u)) ∙ omega arith)

  pub counts-one : (x : ℕ) → Memo tags values memo → (x < length tags → 0 < get_or memo x 0) → ClauseCounts tags values memo (x ∷ [])
  counts-one x right here = record { right = right; all = one }
    where
      one : (i : ℕ) → i < 1 → get_or (x ∷ []) i 0 < length tags → 0 < get_or memo (get_or (x ∷ []) i 0) 0
      one zero h l = here l
      one (suc i) h l = absurd (omega arith)

  pub counts-head : (u : ℕ) (us : List ℕ) → ClauseCounts tags values memo (u ∷ us) → ClauseCounts tags values memo (u ∷ [])
  counts-head u us counted = counts-one u counted.right (counted.all 0 (omega arith))

  pub counts-tail : (u : ℕ) (us : List ℕ) → ClauseCounts tags values memo (u ∷ us) → ClauseCounts tags values memo us
  counts-tail u us counted = record { right = counted.right; all = λ i h. counted.all (suc i) (omega arith) }

  pub counts-operands : (x : ℕ) → ClauseCounts tags values memo (x ∷ []) → x < length tags → (b : ConnectiveKind) → Connective b ≡ normal_view tags values x
      → ClauseCounts tags values memo (operands_of tags values x)
  counts-operands x counted h b e = record {
    right = counted.right;
    all = λ i l w. (counted.right.operands x (counted.all 0 (omega arith) h) b e).at i l;
  }

-- what the walk finds: an operand before x whose clause of that number is the clause of number i
pub record Found (tags values memo : List ℕ) (x : ℕ) (cs : List (List (Normal (List ℕ) ℕ))) (i : ℕ) (c : Chosen) : Type 0 where
  pub counted : ClauseCounts tags values memo (c.place.0 ∷ [])
  pub below : c.place.0 < x
  pub small : length (cnf (form_at tags values c.place.0)) ≤ 2048
  pub index : c.index < length (cnf (form_at tags values c.place.0))
  pub same : get_or (cnf (form_at tags values c.place.0)) c.index [] ≡ get_or cs i []

module _ (tags values memo : List ℕ) (x : ℕ) where
  module _ (u : ℕ) (us : List ℕ) (here : ℕ) (is : here ≡ length (cnf (form_at tags values u))) (i : ℕ) where
    found-later : here ≤ i → (c : Chosen) → Found tags values memo x (cnf_and (run_of tags values us)) (i - here) c → Found tags values memo x (cnf_and (run_of tags values (u ∷ us))) i c
    found-later l c f = record {
      counted = f.counted;
      below = f.below;
      small = f.small;
      index = f.index;
      same = f.same ∙ (rw is (sym (append_right (cnf (form_at tags values u)) (cnf_and (run_of tags values us)) [] i (omega (arith, is)))));
    }

  found : x < length tags → (run : List ℕ) → ClauseCounts tags values memo run → all_before x run ≡ true → (i : ℕ)
      → length (cnf_and (run_of tags values run)) ≤ 2048 → i < length (cnf_and (run_of tags values run))
      → (c : Chosen) × ((choose memo run i ≡ Some c) × Found tags values memo x (cnf_and (run_of tags values run)) i c)
  unfolding choose
  found within [] counted b i s h = absurd (omega arith)
  found within (u ∷ us) counted b i s h =
      let total = clauses-and (form_at tags values u) (run_of tags values us) in
      let less : u < x = before_head x u us b in
      let here : clauses_at memo u ≡ length (cnf (form_at tags values u)) = exact tags values memo u us counted (omega arith) (omega (arith, total)) in
      by-test (ltb i (clauses_at memo u))
      (λ q. let l : i < clauses_at memo u = ltb-true i (clauses_at memo u) q in (
        record { place = term_at u; index = i },
        (
          rw q refl,
          record {
            counted = counts-head tags values memo u us counted;
            below = less;
            small = omega (arith, total);
            index = omega (arith, here);
            same = sym (append_left (cnf (form_at tags values u)) (cnf_and (run_of tags values us)) [] i (omega (arith, here)));
          },
        ),
      ))
      (λ q. let l : clauses_at memo u ≤ i = ltb-false i (clauses_at memo u) q in
      let f = found within us (counts-tail tags values memo u us counted) (before-tail x u us b) (i - clauses_at memo u) (omega (arith, total)) (omega (arith, total, here)) in
      (f.0, (rw q f.1.0, found-later u us (clauses_at memo u) here i l f.0 f.1.1)))

-- ---- a list of one clause with one literal
one_at : (l : Normal (List ℕ) ℕ) (i : ℕ) → i < 1 → get_or ((l ∷ []) ∷ []) i [] ≡ l ∷ []
one_at l zero h = refl
one_at l (suc i) h = absurd (omega arith)

module _ (tags values memo run : List ℕ) (cs : List (List (Normal (List ℕ) ℕ))) (l : Normal (List ℕ) ℕ) (e : cs ≡ (l ∷ []) ∷ [])
    (i : ℕ) (out : List ℕ) (at : ℕ) (ask : Ask tags values memo run cs i out at) where
  one-is : get_or cs i [] ≡ l ∷ []
  one-is = rw e (one_at l i (omega (arith, ask.index, ap length e)))

  one-room : at < length out
  one-room = omega (arith, ask.room, ap length one-is)

  one_written : (after : List ℕ) (r : ℕ) → (r ≡ at + 1) × (after ≡ set out at (literal_place l)) → Written (get_or cs i []) out at after r
  one_written after r p = rw one-is record { end = p.0; array = p.1 }

-- ---- the term at x
module _ (tags values memo : List ℕ) (x i : ℕ) (out : List ℕ) (at : ℕ) (ask : Ask tags values memo (x ∷ []) (cnf (form_at tags values x)) i out at)
    (v : NormalView) (is : v ≡ normal_view tags values x) where
  module _ (e : v ≡ Literal) where
    pub literal-room : at < length out
    literal-room = one-room tags values memo _ _ _ (ap cnf (read-literal tags values x v is e)) i out at ask

    pub literal-written : (after : List ℕ) (r : ℕ) → (r ≡ at + 1) × (after ≡ set out at x) → Written (get_or (cnf (form_at tags values x)) i []) out at after r
    literal-written = one_written tags values memo _ _ _ (ap cnf (read-literal tags values x v is e)) i out at ask

  module _ (body : TermPlace) (e : v ≡ Forall body) where
    pub forall-room : at < length out
    forall-room = one-room tags values memo _ _ _ (ap cnf (read-forall tags values x v is body e)) i out at ask

    pub forall-written : (after : List ℕ) (r : ℕ) → (r ≡ at + 1) × (after ≡ set out at 0) → Written (get_or (cnf (form_at tags values x)) i []) out at after r
    forall-written = one_written tags values memo _ _ _ (ap cnf (read-forall tags values x v is body e)) i out at ask

  module _ (b : ConnectiveKind) (e : v ≡ Connective b) (run : List ℕ) (o : run ≡ operands_of tags values x) where
    run-here : all_before x run ≡ true
    run-here = rw o (run-before tags values x v is b e)

    within : x < length tags
    within = connective-within tags values x v is b e

    run-counts : ClauseCounts tags values memo run
    run-counts = rw o (counts-operands tags values memo x ask.counted within b (sym e ∙ is))

    module _ (t : b ≡ And) where
      and_is : cnf (form_at tags values x) ≡ cnf_and (run_of tags values run)
      and_is = rw (read-connective tags values x v is b e, t, o)

      there : (c : Chosen) × ((choose memo run i ≡ Some c) × Found tags values memo x (cnf (form_at tags values x)) i c)
      there = rw and_is
          (found tags values memo x within run run-counts run-here i (omega (arith, ask.small, ap length and_is)) (omega (arith, ask.index, ap length and_is)))

      pub and-some : (w : Option Chosen) → w ≡ choose memo run i → is_some w ≡ true
      and-some w q = rw (q, there.1.0)

      module _ (w : Option Chosen) (q : w ≡ choose memo run i) (c : Chosen) (k : w ≡ Some c) where
        chosen : Found tags values memo x (cnf (form_at tags values x)) i c
        chosen =
            let both : Some there.0 ≡ Some c = sym there.1.0 ∙ (sym q ∙ k) in
            let same : there.0 ≡ c = cc in
            rw same at there.1.1

        -- the measure falls
        pub and-falls : (m : ℕ) → x * 2 + 1 ≡ m → c.place.0 * 2 + 1 < m
        and-falls m q = omega (arith, chosen.below)

        pub and-ask : Ask tags values memo (c.place.0 ∷ []) (cnf (form_at tags values c.place.0)) c.index out at
        and-ask = record {
          counted = chosen.counted;
          small = chosen.small;
          index = chosen.index;
          room = rw chosen.same ask.room;
        }

        pub and-written : (after : List ℕ) (r : ℕ) → Written (get_or (cnf (form_at tags values c.place.0)) c.index []) out at after r
            → Written (get_or (cnf (form_at tags values x)) i []) out at after r
        and-written after r w = rw (← chosen.same) w

    module _ (f : b ≡ Or) where
      or_is : cnf (form_at tags values x) ≡ cnf_or (run_of tags values run)
      or_is = rw (read-connective tags values x v is b e, f, o)

      pub or-ask : AskRun tags values memo x run (clauses_at memo x) i out at
      or-ask = record {
        ask = record {
          counted = run-counts;
          small = rw or_is at ask.small;
          index = rw or_is at ask.index;
          room = rw or_is at ask.room;
        };
        before = run-here;
        within = within;
        count = exact tags values memo x [] ask.counted within ask.small ∙ ap length or_is;
      }

      pub or-written : (after : List ℕ) (r : ℕ) → Written (get_or (cnf_or (run_of tags values run)) i []) out at after r
          → Written (get_or (cnf (form_at tags values x)) i []) out at after r
      or-written after r w = rw or_is w

pub ruleset rooms = (literal-room, forall-room)

pub ruleset asks = (and-ask, or-ask)

-- ---- one clause after another
sets-append : (out : List ℕ) (at : ℕ) (vs ws : List ℕ) → sets out at (vs ++ ws) ≡ sets (sets out at vs) (at + length vs) ws
sets-append out at [] ws = let z : at + 0 ≡ at = omega arith in sym (ap (λ (k : ℕ). sets out k ws) z)
sets-append out at (a ∷ vs) ws =
    let z : suc at + length vs ≡ at + suc (length vs) = omega arith in
    sets-append (set out at a) (suc at) vs ws ∙ ap (λ (k : ℕ). sets (sets (set out at a) (suc at) vs) k ws) z

pub places-length : (c : List (Normal (List ℕ) ℕ)) → length (clause_places c) ≡ length c
places-length [] = refl
places-length (l ∷ c) = ap suc (places-length c)

places-append : (c d : List (Normal (List ℕ) ℕ)) → clause_places (c ++ d) ≡ clause_places c ++ clause_places d
places-append [] d = refl
places-append (l ∷ c) d = ap (λ (ps : List ℕ). literal_place l ∷ ps) (places-append c d)

written_both : (c d : List (Normal (List ℕ) ℕ)) (out : List ℕ) (at : ℕ) (mid : List ℕ) (next : ℕ) (after : List ℕ) (r : ℕ)
    → Written c out at mid next → Written d mid next after r → Written (c ++ d) out at after r
written_both c d out at mid next after r p q = record {
  end = rw (length-append c d) (omega (arith, p.end, q.end));
  array =
      q.array
      ∙ (rw (places-append c d, sets-append out at (clause_places c) (clause_places d), places-length c, ← p.array, ← p.end));
}

-- ---- an `or` of a run
no_operand : (tags values run : List ℕ) (i : ℕ) → length run ≡ 0 → i < length (cnf_or (run_of tags values run)) → get_or (cnf_or (run_of tags values run)) i [] ≡ []
no_operand tags values [] zero e h = refl
no_operand tags values [] (suc i) e h = absurd (omega arith)
no_operand tags values (u ∷ run) i e h = absurd (omega arith)

factor-left : (a b i : ℕ) → i < a * b → 0 < a
factor-left zero b i h = absurd (omega (arith, zero-mul b))
factor-left (suc a) b i h = omega arith

factor-right : (a b i : ℕ) → i < a * b → 0 < b
factor-right a zero i h = absurd (omega (arith, mul-zero a))
factor-right a (suc b) i h = omega arith

-- the first operand u, with the clauses here, and the rest us
module _ (tags values memo : List ℕ) (x u : ℕ) (us : List ℕ) (total i : ℕ) (out : List ℕ) (at : ℕ)
    (ask : AskRun tags values memo x (u ∷ us) total i out at) (here : ℕ) (is : here ≡ clauses_at memo u) where
  total-is : total ≡ length (cnf (form_at tags values u)) * length (cnf_or (run_of tags values us))
  total-is = ask.count ∙ clauses-or (form_at tags values u) (run_of tags values us)

  index_is : i < length (cnf (form_at tags values u)) * length (cnf_or (run_of tags values us))
  index_is = omega (arith, total-is, ask.count, ask.ask.index)

  some-here : 0 < length (cnf (form_at tags values u))
  some-here = factor-left (length (cnf (form_at tags values u))) (length (cnf_or (run_of tags values us))) i index_is

  some-rest : 0 < length (cnf_or (run_of tags values us))
  some-rest = factor-right (length (cnf (form_at tags values u))) (length (cnf_or (run_of tags values us))) i index_is

  small-here : length (cnf (form_at tags values u)) ≤ 2048
  small-here = omega (arith, le-mul_of_pos_right (length (cnf (form_at tags values u))) some-rest, total-is, ask.count, ask.ask.small)

  small-rest : length (cnf_or (run_of tags values us)) ≤ 2048
  small-rest =
      omega (
        arith,
        le-mul_of_pos_right (length (cnf_or (run_of tags values us))) some-here,
        mul_comm (length (cnf (form_at tags values u))) (length (cnf_or (run_of tags values us))),
        total-is,
        ask.count,
        ask.ask.small,
      )

  here-is : here ≡ length (cnf (form_at tags values u))
  here-is =
      let less : u < x = before_head x u us ask.before in
      is ∙ exact tags values memo u us ask.ask.counted (omega (arith, ask.within)) small-here

  rest-is : total / here ≡ length (cnf_or (run_of tags values us))
  rest-is = rw (total-is, here-is) (mul-div_cancel_left (length (cnf_or (run_of tags values us))) some-here)

  clause-is : get_or (cnf_or (run_of tags values (u ∷ us))) i []
      ≡ get_or (cnf (form_at tags values u)) (i / (total / here)) [] ++ get_or (cnf_or (run_of tags values us)) (i % (total / here)) []
  clause-is = rw rest-is (product_at (cnf (form_at tags values u)) (cnf_or (run_of tags values us)) (length (cnf_or (run_of tags values us))) i refl index_is)

  room-is : at + (length (get_or (cnf (form_at tags values u)) (i / (total / here)) []) + length (get_or (cnf_or (run_of tags values us)) (i % (total / here)) []))
      ≤ length out
  room-is =
      rw (← length-append (get_or (cnf (form_at tags values u)) (i / (total / here)) []) (get_or (cnf_or (run_of tags values us)) (i % (total / here)) []), ← clause-is)
      ask.ask.room

  first-ask : Ask tags values memo (u ∷ []) (cnf (form_at tags values u)) (i / (total / here)) out at
  first-ask = record {
    counted = counts-head tags values memo u us ask.ask.counted;
    small = small-here;
    index = rw rest-is ((div-lt_iff_lt-mul some-rest).1 index_is);
    room = omega (arith, room-is);
  }

  module _ (mid : List ℕ) (next : ℕ) (w : Written (get_or (cnf (form_at tags values u)) (i / (total / here)) []) out at mid next) where
    rest-ask : AskRun tags values memo x us (total / here) (i % (total / here)) mid next
    rest-ask = record {
      ask = record {
        counted = counts-tail tags values memo u us ask.ask.counted;
        small = small-rest;
        index = rw rest-is (mod-lt i some-rest);
        room = omega (
          arith,
          room-is,
          w.end,
          ap length w.array,
          length-sets out at (clause_places (get_or (cnf (form_at tags values u)) (i / (total / here)) [])),
        );
      };
      before = before-tail x u us ask.before;
      within = ask.within;
      count = rest-is;
    }

    both-written : (after : List ℕ) (r : ℕ) → Written (get_or (cnf_or (run_of tags values us)) (i % (total / here)) []) mid next after r
        → Written (get_or (cnf_or (run_of tags values (u ∷ us))) i []) out at after r
    both-written after r q = rw clause-is (written_both _ _ out at mid next after r w q)

-- the walk along a run, at k: what is left is asked for, and writing it completes the whole
pub record OperandsLeft (tags values memo : List ℕ) (x : ℕ) (run : List ℕ) (i₀ : ℕ) (out₀ : List ℕ) (at₀ total i : ℕ) (out : List ℕ) (at k : ℕ) : Type 0 where
  pub ask : AskRun tags values memo x (drop k run) total i out at
  pub then : (after : List ℕ) (r : ℕ) → Written (get_or (cnf_or (run_of tags values (drop k run))) i []) out at after r
      → Written (get_or (cnf_or (run_of tags values run)) i₀ []) out₀ at₀ after r

module _ (tags values memo : List ℕ) (x : ℕ) (run : List ℕ) (i₀ : ℕ) (out₀ : List ℕ) (at₀ total i : ℕ) (out : List ℕ) (at k : ℕ)
    (w : OperandsLeft tags values memo x run i₀ out₀ at₀ total i out at k) where
  pub run-all : length run ≤ k → Written (get_or (cnf_or (run_of tags values run)) i₀ []) out₀ at₀ out at
  run-all h =
      let none : length (drop k run) ≡ 0 = rw (length-drop k run) (omega arith) in
      w.then out at (rw (no_operand tags values (drop k run) i none w.ask.ask.index) record { end = omega arith; array = refl })

  module _ (h : k < length run) (here : ℕ) (is : here ≡ clauses_at memo (get_or run k 0)) where
    abbrev after-u : List ℕ
    after-u = drop (k + 1) run

    run-is : drop k run ≡ get_or run k 0 ∷ drop (k + 1) run
    run-is = rw (add-one k) (drop-cons run k 0 h)

    split-ask : AskRun tags values memo x (get_or run k 0 ∷ after-u) total i out at
    split-ask = subst (λ (l : List ℕ). AskRun tags values memo x l total i out at) run-is w.ask

    pub run-here-some : 0 < here
    run-here-some = omega (arith, some-here tags values memo x _ _ total i out at split-ask here is, here-is tags values memo x _ _ total i out at split-ask here is)

    pub run-rest-some : 0 < total / here
    run-rest-some = rw (rest-is tags values memo x _ _ total i out at split-ask here is) (some-rest tags values memo x _ _ total i out at split-ask here is)

    -- a, d: the clause's number in the first list, and in the rest
    module _ (a : ℕ) (is-a : a ≡ i / (total / here)) where
      pub run-first : Ask tags values memo (get_or run k 0 ∷ []) (cnf (form_at tags values (get_or run k 0))) a out at
      run-first = rw is-a (first-ask tags values memo x _ _ total i out at split-ask here is)

      module _ (mid : List ℕ) (next : ℕ) (v : Written (get_or (cnf (form_at tags values (get_or run k 0))) a []) out at mid next)
          (d : ℕ) (is-d : d ≡ i % (total / here)) where
        first-written : Written (get_or (cnf (form_at tags values (get_or run k 0))) (i / (total / here)) []) out at mid next
        first-written = rw is-a at v

        pub run-next : (rest : ℕ) → rest ≡ total / here → OperandsLeft tags values memo x run i₀ out₀ at₀ rest d mid next (k + 1)
        run-next rest e = record {
          ask = rw (e, is-d) (rest-ask tags values memo x _ _ total i out at split-ask here is mid next first-written);
          then = λ after r q.
              w.then after r
              (subst (λ (l : List ℕ). Written (get_or (cnf_or (run_of tags values l)) i []) out at after r) (sym run-is)
              (both-written tags values memo x _ _ total i out at split-ask here is mid next first-written after r (rw is-d at q)));
        }

pub ruleset writes = (literal-written, forall-written, and-written, or-written)
