-- Laws of `TakenSearch`, one for each way through the code.
--     name-append     for the callers: the first of two lists, one after the other
-- Assumes nothing.
use Rattle.std.specs.Prelude.{Option, Some, None, is_some}
use Rattle.std.specs.Bool.{then_some}
use Prim.Native.Nat.{ℕ, ◌+◌, ◌≤◌, ◌<◌}
use mathlib.Core.Path.{◌≡◌, refl, sym, ap, ◌∙◌}
use mathlib.Core.Bool.{Bool, true, false, not, ◌||◌}
use mathlib.Core.List.{List, [], ◌∷◌, ◌++◌}
use lib.ListN.{length, get_or, drop, set, replicate, drop_of_length-le, length-replicate, get_or-replicate, get_or-eq_default}
use lib.Seq.{drop-cons, get_or-set_other, set_out}
use lib.Dec.{eqb, ltb}
use native.Mathlib.Omega.{arith}
use native.Mathlib.Numerals.{add-one}
use borrow.Author.Tests.{lt-ltb, eqb-true, eqb-false, ltb-true, ltb-false}
use Rattle.cells.specs.declared.TermPlace.{TermPlace}
use Rattle.cells.specs.declared.variable.Variable.{Variable}
use Rattle.cells.specs.ByPlace.{by-test}
use Rattle.cells.specs.Cell.{operands_of}
use Rattle.formulas.specs.declared.kinds.ConnectiveKind.{ConnectiveKind}
use Rattle.formulas.specs.declared.view.NormalView.{NormalView}
use Rattle.formulas.specs.declared.view.NormalView.TheVariants.{Literal, Connective, Forall}
use Rattle.formulas.specs.Normal.{taken}
use Rattle.formulas.specs.Built.{normal_view, form_at}
use Rattle.formulas.proofs.Reading.{read-literal, read-forall, read-connective}
use Rattle.building.proofs.prenex_forall.Laws.{body-before}
use Rattle.bindings.specs.Binding.{Binding, bindings_of, same, has, first_of}
use Rattle.bindings.specs.BindingAnswer.{binding, name_of}
use Rattle.bindings.proofs.binding.Laws.{same-is}
use Rattle.free_pairs.specs.FreeLists.{is_missing}
use Rattle.formulas.specs.PatternAnswer.{pairs_of}
use Rattle.clausification.specs.declared.taken_search.Sought.{Sought}
use Rattle.clausification.specs.declared.taken_search.Sought.TheVariants.{Pair, Missing}
use Rattle.clausification.specs.TakenSearch.{is_sought, found_at, found_in, after_note, SearchMemo, SearchAnswered, SearchNoted}

-- ---- the first pair of a list that is sought
first-same : (v : Variable) (l : List Binding) → has l (binding v) ≡ true → name_of (first_of (λ b. same b (binding v)) l) ≡ Some v.name
unfolding first_of name_of has
first-same v [] e = absurd (let z : ◌≡◌ {A = ℕ} 0 1 = cc in omega arith)
first-same v (b ∷ l) e =
    by-test (same b (binding v))
    (λ o. rw o (ap (λ (q : Binding). Some q.name) (same-is b (binding v) o)))
    (λ o. rw o (first-same v l (rw o at e)))

first-other : (a : Binding) (l : List Binding) → has l a ≡ false → name_of (first_of (λ b. same b a) l) ≡ None
unfolding first_of name_of has
first-other a [] e = refl
first-other a (b ∷ l) e =
    by-test (same b a)
    (λ o. let z : true ≡ false = rw o at e in absurd (let y : ◌≡◌ {A = ℕ} 0 1 = cc in omega arith))
    (λ o. rw o (first-other a l (rw o at e)))

module _ (tags values : List ℕ) (n : ℕ) (right : List Binding) (sought : Sought) (list : List Binding) where
  module _ (v : Variable) (e : sought ≡ Pair v) (h : Bool) (is : h ≡ has list (binding v)) where
    pub sought-pair : (r : Option ℕ) → r ≡ then_some h v.name → r ≡ name_of (first_of (is_sought tags values n right sought) list)
    unfolding is_sought
    sought-pair r q =
        q
        ∙ by-test h
        (λ y. rw (e, y) (sym (first-same v list (sym is ∙ y))))
        (λ y. rw (e, y) (sym (first-other (binding v) list (sym is ∙ y))))

  pub sought-missing : (t : TermPlace) → sought ≡ Missing t → (r : Option ℕ) → r ≡ name_of (first_of (is_missing tags values n t.0 right) list)
      → r ≡ name_of (first_of (is_sought tags values n right sought) list)
  unfolding is_sought
  sought-missing t e r is = rw e is

pub ruleset soughts = (sought-pair, sought-missing)

-- ---- the first of two lists, one after the other
abbrev pub or_else : Option ℕ → Option ℕ → Option ℕ
or_else (Some a) f = Some a
or_else None f = f

or_else-some : (f g : Option ℕ) → true ≡ is_some f → f ≡ or_else f g
or_else-some (Some a) g e = refl
or_else-some None g e = absurd (let z : ◌≡◌ {A = ℕ} 0 1 = cc in omega arith)

or_else-none : (f g : Option ℕ) → false ≡ is_some f → g ≡ or_else f g
or_else-none (Some a) g e = absurd (let z : ◌≡◌ {A = ℕ} 0 1 = cc in omega arith)
or_else-none None g e = refl

pub name-append : (test : Binding → Bool) (as' bs : List Binding) → name_of (first_of test (as' ++ bs)) ≡ or_else (name_of (first_of test as')) (name_of (first_of test bs))
unfolding first_of name_of
name-append test [] bs = refl
name-append test (a ∷ as') bs = by-test (test a) (λ e. rw e) (λ e. rw e (name-append test as' bs))

-- ---- what the walk does at x
pub look-below : (tags values : List ℕ) (x : ℕ) (v : NormalView) → v ≡ normal_view tags values x → (body : TermPlace) → v ≡ Forall body → body.0 < x
look-below tags values x v is body e = body-before tags values x body (sym e ∙ is)

module _ (tags values : List ℕ) (test : Binding → Bool) (x : ℕ) where
  pub walk-seen : (seen : List ℕ) → SearchMemo tags values test seen → (m : ℕ) → m ≡ get_or seen x 0 → m ≡ 1 → SearchAnswered tags values test seen None (found_at tags values test x)
  walk-seen seen right m is e = record { is = right.at x (sym is ∙ e); right = right }

  module _ (v : NormalView) (is : v ≡ normal_view tags values x) where
    pub walk-literal : v ≡ Literal → (seen : List ℕ) → SearchMemo tags values test seen → SearchAnswered tags values test seen None (found_at tags values test x)
    unfolding found_at first_of name_of
    walk-literal e seen right = record { is = rw (read-literal tags values x v is e); right = right }

    module _ (b : ConnectiveKind) (e : v ≡ Connective b) where
      operands-are : found_in tags values test (operands_of tags values x) ≡ found_at tags values test x
      unfolding found_at found_in
      operands-are = rw (read-connective tags values x v is b e)

      pub walk-run : (seen : List ℕ) (f : Option ℕ) → SearchAnswered tags values test seen f (found_in tags values test (operands_of tags values x))
          → SearchAnswered tags values test seen f (found_at tags values test x)
      walk-run seen f a = record { is = a.is ∙ operands-are; right = a.right }

    module _ (body : TermPlace) (e : v ≡ Forall body) (list : List ℕ) (l : list ≡ pairs_of tags values x) (own : Option ℕ)
        (o : own ≡ name_of (first_of test (bindings_of list))) where
      forall-is : found_at tags values test x ≡ or_else own (found_at tags values test body.0)
      unfolding found_at pairs_of
      forall-is =
          rw (read-forall tags values x v is body e, lt-ltb body.0 x (look-below tags values x v is body e), o, l)
          (name-append test _ _)

      pub walk-own : (h : Bool) → h ≡ is_some own → h ≡ true → (seen : List ℕ) → SearchMemo tags values test seen → SearchAnswered tags values test seen own (found_at tags values test x)
      walk-own h i y seen right = record { is = or_else-some own _ (sym y ∙ i) ∙ sym forall-is; right = right }

      pub walk-body : (h : Bool) → h ≡ is_some own → h ≡ false → (seen : List ℕ) (f : Option ℕ) → SearchAnswered tags values test seen f (found_at tags values test body.0)
          → SearchAnswered tags values test seen f (found_at tags values test x)
      walk-body h i n seen f a = record { is = a.is ∙ (or_else-none own _ (sym n ∙ i) ∙ sym forall-is); right = a.right }

-- ---- noting an answer; past the end of the memo nothing is set
module _ (seen : List ℕ) (x : ℕ) (f : Option ℕ) where
  pub note-found : (a : ℕ) → f ≡ Some a → SearchNoted seen x f seen (Some a)
  note-found a e = record { same = sym e; kept = rw e }

  module _ (e : f ≡ None) where
    pub note-nothing : SearchNoted seen x f (set seen x 1) None
    note-nothing = record { same = sym e; kept = rw e }

    pub note-past : length seen ≤ x → SearchNoted seen x f seen None
    note-past h = record { same = sym e; kept = rw (e, set_out seen x 1 h) }

pub ruleset notes = (note-found, note-nothing, note-past)

module _ (tags values : List ℕ) (test : Binding → Bool) (x : ℕ) (seen : List ℕ) (f : Option ℕ)
    (a : SearchAnswered tags values test seen f (found_at tags values test x)) where
  -- a right `None` keeps the memo right
  more-right : f ≡ None → SearchMemo tags values test (set seen x 1)
  more-right e = record {
    at = λ u q. by-test (eqb u x)
        (λ o. rw (eqb-true u x o) (sym e ∙ a.is))
        (λ o. a.right.at u (sym (get_or-set_other seen x u 1 0 (eqb-false u x o)) ∙ q));
  }

  after-right : (g : Option ℕ) → f ≡ g → SearchMemo tags values test (after_note g seen x)
  after-right (Some b) e = a.right
  after-right None e = more-right e

  pub noted : (after : List ℕ) (r : Option ℕ) → SearchNoted seen x f after r → SearchAnswered tags values test after r (found_at tags values test x)
  noted after r n = record { is = n.same ∙ a.is; right = rw n.kept (after-right f refl) }

-- ---- the walk along a run, at i: what is left says what all says
pub record SearchLeft (tags values : List ℕ) (test : Binding → Bool) (run seen : List ℕ) (i : ℕ) : Type 0 where
  pub right : SearchMemo tags values test seen
  pub left : found_in tags values test run ≡ found_in tags values test (drop i run)

module _ (tags values : List ℕ) (test : Binding → Bool) (run seen : List ℕ) (i : ℕ) (w : SearchLeft tags values test run seen i) where
  run-all : length run ≤ i → None ≡ found_in tags values test (drop i run)
  unfolding found_in first_of name_of
  run-all h = rw (drop_of_length-le run h)

  pub left-end : length run ≤ i → SearchAnswered tags values test seen None (found_in tags values test run)
  left-end h = record { is = run-all h ∙ sym w.left; right = w.right }

  module _ (h : i < length run) (seen' : List ℕ) (f : Option ℕ) (a : SearchAnswered tags values test seen' f (found_at tags values test (get_or run i 0))) where
    run_is : found_in tags values test run ≡ or_else f (found_in tags values test (drop (i + 1) run))
    unfolding found_in found_at
    run_is = w.left ∙ rw (add-one i, a.is) (ap (found_in tags values test) (drop-cons run i 0 h) ∙ name-append test _ _)

    pub left-found : (b : ℕ) → f ≡ Some b → SearchAnswered tags values test seen' (Some b) (found_in tags values test run)
    left-found b e = record { is = rw (run_is, e); right = a.right }

    pub left-next : f ≡ None → SearchLeft tags values test run seen' (i + 1)
    left-next e = record { right = a.right; left = rw e at run_is }

-- ---- the whole walk, from a fresh memo
pub fresh : (tags values : List ℕ) (test : Binding → Bool) (k : ℕ) → SearchMemo tags values test (replicate k 0)
fresh tags values test k = record { at = λ u e. absurd (omega (arith, zero-at u)) }
  where
    zero-at : (u : ℕ) → get_or {A = ℕ} (replicate k 0) u 0 ≡ 0
    zero-at u =
        by-test (ltb u k)
        (λ e. get_or-replicate k u 0 0 (ltb-true u k e))
        (λ e. get_or-eq_default (replicate k 0) 0 (rw (length-replicate {A = ℕ} k 0) (ltb-false u k e)))

pub whole : (tags values : List ℕ) (test : Binding → Bool) (seen : List ℕ) (r : Option ℕ) (x : ℕ) → SearchAnswered tags values test seen r (found_at tags values test x)
    → r ≡ name_of (first_of test (taken bindings_of (form_at tags values x)))
unfolding found_at
whole tags values test seen r x a = a.is

-- ---- a pair in neither list
pub has-append : (as' bs : List Binding) (a : Binding) → has (as' ++ bs) a ≡ (has as' a || has bs a)
unfolding has
has-append [] bs a = refl
has-append (b ∷ as') bs a = by-test (same b a) (λ e. rw e) (λ e. rw e (has-append as' bs a))

module _ (tags values : List ℕ) (n : ℕ) (right : List Binding) (v : Variable) where
  has-found : (bs : List Binding) → has bs (binding v) ≡ is_some (name_of (first_of (is_sought tags values n right (Pair v)) bs))
  unfolding has first_of name_of is_sought
  has-found [] = refl
  has-found (b ∷ bs) = by-test (same b (binding v)) (λ e. rw e) (λ e. rw e (has-found bs))

twice-not : (b : Bool) → b ≡ not (not b)
twice-not true = refl
twice-not false = refl

module _ (left bs : List Binding) (v : Variable) (h : Bool) (is : h ≡ has left (binding v)) where
  pub unbound-left : h ≡ true → false ≡ not (has (left ++ bs) (binding v))
  unbound-left e = rw (has-append left bs (binding v), ← is, e)

  module _ (no : h ≡ false) (tags values : List ℕ) (n : ℕ) (right : List Binding) (f : Option ℕ)
      (q : f ≡ name_of (first_of (is_sought tags values n right (Pair v)) bs)) where
    pub unbound-taken : (r : Bool) → is_some f ≡ not r → r ≡ not (has (left ++ bs) (binding v))
    unbound-taken r e = rw (has-append left bs (binding v), ← is, no, has-found tags values n right v bs, ← q, e) (twice-not r)
