-- Laws of `TakenList`, one for each way through the code.
-- Assumes nothing.
use Rattle.std.specs.Prelude.{Option, Some, None}
use Prim.Native.Nat.{ℕ, ◌+◌, ◌-◌, ◌≤◌, ◌<◌}
use mathlib.Core.Path.{◌≡◌, refl, sym, ap, fun_ext, ◌∙◌}
use mathlib.Core.Bool.{Bool, true, false, not, ◌||◌}
use mathlib.Core.List.{List, [], ◌∷◌, ◌++◌}
use lib.ListN.{length, get_or, take, drop, set, replicate, length-set, length-drop, length-replicate, drop_of_length-le}
use lib.Seq.{drop-cons, drop-set-lt, take_all, get_or-set_same, get_or-set_other}
use lib.Dec.{eqb}
use native.Mathlib.Omega.{arith}
use native.Mathlib.Numerals.{add-one}
use borrow.Author.Tests.{lt-ltb, eqb-true, eqb-false}
use Rattle.cells.specs.declared.TermPlace.{TermPlace}
use Rattle.cells.specs.ByPlace.{by-test}
use Rattle.cells.specs.Cell.{operands_of}
use Rattle.formulas.specs.declared.kinds.ConnectiveKind.{ConnectiveKind}
use Rattle.formulas.specs.declared.view.NormalView.{NormalView}
use Rattle.formulas.specs.declared.view.NormalView.TheVariants.{Literal, Connective, Forall}
use Rattle.formulas.specs.Normal.{taken}
use Rattle.formulas.specs.Built.{normal_view, form_at}
use Rattle.formulas.proofs.Reading.{read-literal, read-forall, read-connective}
use Rattle.bindings.specs.Binding.{Binding, bindings_of, same, has, first_of}
use Rattle.bindings.specs.BindingAnswer.{pair, binding, name_of}
use Rattle.cells.specs.declared.variable.Variable.{Variable}
use Rattle.formulas.specs.PatternAnswer.{pairs_of}
use Rattle.bindings.proofs.binding.Laws.{pairs_next}
use Rattle.clausification.specs.TakenList.{pairs_from, taken_at, taken_in, Joined, Gathered, PairsPut, CollectedMemo, CollectedBy}
use Rattle.cells.proofs.marks.Laws.{zeros}
use Rattle.clausification.proofs.taken_search.Laws.{look-below, has-append}

-- ---- truth values
or-false : (b : Bool) → (b || false) ≡ b
or-false true = refl
or-false false = refl

or-true : (b : Bool) → (b || true) ≡ true
or-true true = refl
or-true false = refl

or_assoc : (a b c : Bool) → ((a || b) || c) ≡ (a || (b || c))
or_assoc true b c = refl
or_assoc false b c = refl

or-front : (a b c : Bool) → ((a || b) || c) ≡ (b || (a || c))
or-front true true c = refl
or-front true false c = refl
or-front false true c = refl
or-front false false c = refl

-- ---- a list put before the pairs from k on: all but those that are left stand from j on
pub record Putting (cells : List ℕ) (k : ℕ) (list : List Binding) (cells' : List ℕ) (left : List Binding) (j : ℕ) : Type 0 where
  pub size : length cells' ≡ length cells
  pub within : j ≤ k
  pub all : (a : Binding) → (has (pairs_from cells' j) a || has left a) ≡ (has (pairs_from cells k) a || has list a)

-- a pair stored before those from at + 2 on
in-front : (l : List ℕ) (at x s : ℕ) → at + 2 ≤ length l → pairs_from (set (set l at x) (at + 1) s) at ≡ pair x s ∷ pairs_from l (at + 2)
unfolding pairs_from
in-front l at x s h =
    let first : at < length l = omega arith in
    let second : at + 1 < length (set l at x) = rw length-set (omega arith) in
    let long : 2 ≤ length (set (set l at x) (at + 1) s) - at = rw (length-set, length-set) (omega arith) in
    pairs_next (set (set l at x) (at + 1) s) at long
    ∙ rw (
      get_or-set_other (set l at x) (at + 1) at s 0 (λ e. omega arith),
      get_or-set_same l at x 0 first,
      get_or-set_same (set l at x) (at + 1) s 0 second,
      drop-set-lt (at + 2) (set l at x) (at + 1) s (omega arith),
      drop-set-lt (at + 2) l at x (omega arith),
    )

has-turned : (b : Binding) (have rest : List Binding) (a : Binding) → (has (b ∷ have) a || has rest a) ≡ (has have a || has (b ∷ rest) a)
unfolding has
has-turned b have rest a = or-front (same b a) (has have a) (has rest a)

module _ (cells : List ℕ) (k : ℕ) (list : List Binding) where
  pub put-start : Putting cells k list cells list k
  put-start = record { size = refl; within = omega arith; all = λ a. refl }

  module _ (cells' : List ℕ) (left : List Binding) (j : ℕ) (p : Putting cells k list cells' left j) where
    pub put-end : left ≡ [] → PairsPut cells k list cells' (Some j)
    unfolding has
    put-end e = record {
      within = p.within;
      joins = record { has-is = λ a. sym (or-false _) ∙ (rw e at (p.all a)) };
    }

    module _ (i : ℕ) (back : i + 2 ≡ j) where
      pub put-room : k ≤ length cells → i + 2 ≤ length cells'
      put-room fits = omega (arith, p.size, p.within)

      pub put_next : k ≤ length cells → (v : Variable) (rest : List Binding) → left ≡ binding v ∷ rest
          → Putting cells k list (set (set cells' i v.name) (i + 1) v.sort.0) rest i
      put_next fits v rest e = record {
        size = simp length-set p.size;
        within = omega (arith, p.within);
        all = λ a.
            rw (in-front cells' i v.name v.sort.0 (put-room fits), back)
            (has-turned (binding v) (pairs_from cells' j) rest a ∙ rw e at (p.all a));
      }

-- ---- the variables at x, by how the term there is read
module _ (tags values : List ℕ) (x : ℕ) (v : NormalView) (is : v ≡ normal_view tags values x) where
  taken-literal : v ≡ Literal → taken_at tags values x ≡ []
  unfolding taken_at
  taken-literal e = rw (read-literal tags values x v is e)

  taken-run : (b : ConnectiveKind) → v ≡ Connective b → taken_at tags values x ≡ taken_in tags values (operands_of tags values x)
  unfolding taken_at taken_in
  taken-run b e = rw (read-connective tags values x v is b e)

  taken-forall : (body : TermPlace) → v ≡ Forall body → taken_at tags values x ≡ bindings_of (pairs_of tags values x) ++ taken_at tags values body.0
  unfolding taken_at pairs_of
  taken-forall body e = rw (read-forall tags values x v is body e, lt-ltb body.0 x (look-below tags values x v is body e))

-- ---- what was put, and then collected
pub put-from : (cells : List ℕ) (k : ℕ) (more : List Binding) (cells' : List ℕ) (r : Option ℕ) → PairsPut cells k more cells' r → (j : ℕ) → r ≡ Some j → Joined cells k more cells' j
put-from cells k more cells' r p j e = rw e at p

pub walk_from : (tags values cells : List ℕ) (k : ℕ) (seen cells' : List ℕ) (more : List Binding) (r : Option ℕ) → CollectedBy tags values cells k seen cells' more r
    → (j : ℕ) → r ≡ Some j → Gathered tags values cells k seen cells' more j
walk_from tags values cells k seen cells' more r w j e = rw e at w.leaves

pub walk_within : (tags values cells : List ℕ) (k : ℕ) (seen cells' : List ℕ) (more : List Binding) (r : Option ℕ) → CollectedBy tags values cells k seen cells' more r
    → (j : ℕ) → r ≡ Some j → j ≤ k
walk_within tags values cells k seen cells' more r w j e = (walk_from tags values cells k seen cells' more r w j e).joined.within

module _ (tags values cells : List ℕ) (k : ℕ) (own : List Binding) (cells' : List ℕ) (j : ℕ) (p : Joined cells k own cells' j) where
  pub right-joined : (seen : List ℕ) → CollectedMemo tags values seen (pairs_from cells k) → CollectedMemo tags values seen (pairs_from cells' j)
  right-joined seen r = record { at = λ u e a h. p.joins.has-is a ∙ rw (r.at u e a h) }

  composed : (seen cells'' : List ℕ) (inner : List Binding) (r : Option ℕ) → CollectedBy tags values cells' j seen cells'' inner r
      → CollectedBy tags values cells k seen cells'' (own ++ inner) r
  composed seen cells'' inner None w = record { leaves = tt }
  composed seen cells'' inner (Some i) w = record {
    leaves = record {
      joined = record {
        within = omega (arith, p.within, w.leaves.joined.within);
        joins = record {
          has-is = λ a. rw (has-append own inner a, w.leaves.joined.joins.has-is a, p.joins.has-is a) (or_assoc (has (pairs_from cells k) a) (has own a) (has inner a));
        };
      };
      right = w.leaves.right;
    };
  }

-- nothing to collect, or no room
unchanged : (tags values cells : List ℕ) (k : ℕ) (seen : List ℕ) → CollectedMemo tags values seen (pairs_from cells k) → (more : List Binding)
    → ((a : Binding) → has (pairs_from cells k) a ≡ (has (pairs_from cells k) a || has more a)) → CollectedBy tags values cells k seen cells more (Some k)
unchanged tags values cells k seen r more same-pairs = record {
  leaves = record { joined = record { within = omega arith; joins = record { has-is = same-pairs } }; right = r };
}

pub walk-full : (tags values cells : List ℕ) (k : ℕ) (seen' cells' : List ℕ) (more : List Binding) → CollectedBy tags values cells k seen' cells' more None
walk-full tags values cells k seen' cells' more = record { leaves = tt }

-- ---- the walk at x
module _ (tags values cells : List ℕ) (k x : ℕ) where
  -- the variables taken out of x are collected, and x is noted
  noted : (seen cells' : List ℕ) (more : List Binding) → taken_at tags values x ≡ more → (r : Option ℕ) → CollectedBy tags values cells k seen cells' more r
      → (seen' : List ℕ) → seen' ≡ set seen x 1 → CollectedBy tags values cells k seen' cells' (taken_at tags values x) r
  noted seen cells' more e None w seen' is = record { leaves = tt }
  noted seen cells' more e (Some j) w seen' is = record {
    leaves = record {
      joined = rw e w.leaves.joined;
      right = rw is (record {
        at = λ u q a h. by-test (eqb u x)
            (λ o. let there : has more a ≡ true = rw (eqb-true u x o, e) at h in w.leaves.joined.joins.has-is a ∙ rw there (or-true (has (pairs_from cells k) a)))
            (λ o. w.leaves.right.at u (sym (get_or-set_other seen x u 1 0 (eqb-false u x o)) ∙ q) a h);
      });
    };
  }

  module _ (seen : List ℕ) (r : CollectedMemo tags values seen (pairs_from cells k)) where
    pub walk-seen : (m : ℕ) → m ≡ get_or seen x 0 → m ≡ 1 → CollectedBy tags values cells k seen cells (taken_at tags values x) (Some k)
    walk-seen m is e =
        unchanged tags values cells k seen r (taken_at tags values x)
        (λ a. by-test (has (taken_at tags values x) a) (λ o. rw (o, r.at x (sym is ∙ e) a o)) (λ o. rw o (sym (or-false _))))

    pub walk-literal : (v : NormalView) → v ≡ normal_view tags values x → v ≡ Literal → CollectedBy tags values cells k seen cells (taken_at tags values x) (Some k)
    unfolding has
    walk-literal v is e = unchanged tags values cells k seen r (taken_at tags values x) (λ a. rw (taken-literal tags values x v is e) (sym (or-false _)))

  module _ (v : NormalView) (is : v ≡ normal_view tags values x) where
    pub walk-run : (b : ConnectiveKind) → v ≡ Connective b
        → (seen cells' : List ℕ) (r : Option ℕ) → CollectedBy tags values cells k seen cells' (taken_in tags values (operands_of tags values x)) r
        → (seen' : List ℕ) → seen' ≡ set seen x 1 → CollectedBy tags values cells k seen' cells' (taken_at tags values x) r
    walk-run b e seen cells' r w = noted seen cells' (taken_in tags values (operands_of tags values x)) (taken-run tags values x v is b e) r w

    pub walk-forall : (body : TermPlace) → v ≡ Forall body → (list : List ℕ) → list ≡ pairs_of tags values x
        → (cells₁ : List ℕ) (own : Option ℕ) → PairsPut cells k (bindings_of list) cells₁ own → (j : ℕ) → own ≡ Some j
        → (seen cells' : List ℕ) (r : Option ℕ) → CollectedBy tags values cells₁ j seen cells' (taken_at tags values body.0) r
        → (seen' : List ℕ) → seen' ≡ set seen x 1 → CollectedBy tags values cells k seen' cells' (taken_at tags values x) r
    walk-forall body e list l cells₁ own p j q seen cells' r w =
        noted seen cells' (bindings_of list ++ taken_at tags values body.0) (rw l (taken-forall tags values x v is body e)) r
        (composed tags values cells k (bindings_of list) cells₁ j (put-from cells k _ cells₁ own p j q) seen cells' (taken_at tags values body.0) r w)

-- ---- the walk along a run, at i: all but the variables of what is left stand from j on
pub record Collecting (tags values cells : List ℕ) (k : ℕ) (run seen cells' : List ℕ) (j i : ℕ) : Type 0 where
  pub size : length cells' ≡ length cells
  pub within : j ≤ k
  pub right : CollectedMemo tags values seen (pairs_from cells' j)
  pub all : (a : Binding) → (has (pairs_from cells' j) a || has (taken_in tags values (drop i run)) a) ≡ (has (pairs_from cells k) a || has (taken_in tags values run) a)

pub collect-start : (tags values cells : List ℕ) (k : ℕ) (run seen : List ℕ) → CollectedMemo tags values seen (pairs_from cells k)
    → Collecting tags values cells k run seen cells k 0
collect-start tags values cells k run seen r = record { size = refl; within = omega arith; right = r; all = λ a. refl }

module _ (tags values cells : List ℕ) (k : ℕ) (run seen cells' : List ℕ) (j i : ℕ) (w : Collecting tags values cells k run seen cells' j i) where
  run-none : length run ≤ i → taken_in tags values (drop i run) ≡ []
  unfolding taken_in
  run-none h = rw (drop_of_length-le run h)

  pub collect-end : length run ≤ i → CollectedBy tags values cells k seen cells' (taken_in tags values run) (Some j)
  unfolding has
  collect-end h = record {
    leaves = record {
      joined = record { within = w.within; joins = record { has-is = λ a. sym (or-false _) ∙ (rw (run-none h) at (w.all a)) } };
      right = w.right;
    };
  }

  module _ (h : i < length run) (seen' cells'' : List ℕ) (size : length cells'' ≡ length cells) (first : Option ℕ)
      (b : CollectedBy tags values cells' j seen' cells'' (taken_at tags values (get_or run i 0)) first) where
    run-at : taken_in tags values (drop i run) ≡ taken_at tags values (get_or run i 0) ++ taken_in tags values (drop (i + 1) run)
    unfolding taken_in taken_at
    run-at = rw (add-one i) (ap (taken_in tags values) (drop-cons run i 0 h))

    pub collect-next : (j' : ℕ) → first ≡ Some j' → Collecting tags values cells k run seen' cells'' j' (i + 1)
    collect-next j' e =
        let g = walk_from tags values cells' j seen' cells'' (taken_at tags values (get_or run i 0)) first b j' e in
        record {
          size = size;
          within = omega (arith, g.joined.within, w.within);
          right = g.right;
          all = λ a.
              rw (g.joined.joins.has-is a)
              (or_assoc (has (pairs_from cells' j) a) (has (taken_at tags values (get_or run i 0)) a) (has (taken_in tags values (drop (i + 1) run)) a)
              ∙ (rw (run-at, has-append (taken_at tags values (get_or run i 0)) (taken_in tags values (drop (i + 1) run)) a) at (w.all a)));
        }

pub ruleset walks = (walk-full, walk-seen, walk-literal, walk-run, walk-forall)

-- ---- a pair that neither list has
pub neither-taken : (left bs : List Binding) (v : Variable) (h : Bool) → h ≡ has left (binding v) → h ≡ false
    → (t : Bool) → t ≡ has bs (binding v) → not t ≡ not (has (left ++ bs) (binding v))
neither-taken left bs v h is e t q = rw (has-append left bs (binding v), ← is, e, q)

-- ---- the whole walk, from a fresh memo and no pairs
pub fresh : (tags values : List ℕ) (k : ℕ) (list : List Binding) → CollectedMemo tags values (replicate k 0) list
fresh tags values k list = record { at = λ u e a h. absurd (omega (arith, zeros k u)) }

module _ (tags values : List ℕ) (n x : ℕ) (seen cells : List ℕ) (r : Option ℕ) (w : CollectedBy tags values (replicate n 0) n seen cells (taken_at tags values x) r)
    (k : ℕ) (e : r ≡ Some k) where
  collected-are : (a : Binding) → has (bindings_of (drop k cells)) a ≡ has (taken bindings_of (form_at tags values x)) a
  unfolding pairs_from taken_at bindings_of has
  collected-are a =
      ((walk_from tags values (replicate n 0) n seen cells _ r w k e).joined.joins.has-is a)
      ∙ rw (drop_of_length-le {A = ℕ} (replicate n 0) {i = n} (rw (length-replicate {A = ℕ} n 0) (omega arith)))

  pub whole : (m : ℕ) → length cells ≤ m → (left right : List ℕ) (f : Option ℕ)
      → f ≡ name_of (first_of (λ a. not (has (bindings_of left ++ bindings_of (take (m - k) (drop k cells))) a)) (bindings_of right))
      → f ≡ name_of (first_of (λ a. not (has (bindings_of left ++ taken bindings_of (form_at tags values x)) a)) (bindings_of right))
  whole m h left right f q =
      q ∙ ap (λ (test : Binding → Bool). name_of (first_of test (bindings_of right)))
      (fun_ext (λ a. rw (take_all (m - k) (drop k cells) (rw length-drop (omega arith)), has-append (bindings_of left) (bindings_of (drop k cells)) a, has-append (bindings_of left) (taken bindings_of (form_at tags values x)) a, collected-are a)))
