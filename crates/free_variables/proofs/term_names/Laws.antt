-- Laws of `Names` and `NamesWalk`, one for each way through the code.
--     not_listed     for the callers: a variable whose bucket is not set is not free
-- Assumes nothing.
use Prim.Native.Nat.{ℕ, ◌+◌, ◌-◌, ◌*◌, ◌%◌, ◌≤◌, ◌<◌}
use mathlib.Core.Path.{◌≡◌, refl, sym, ap, ◌∙◌}
use mathlib.Core.Bool.{Bool, true, false, ◌||◌, or-false}
use mathlib.Core.List.{List}
use lib.ListN.{length, get_or, take, drop, set, replicate, get_or-eq_default}
use lib.Seq.{get_or-set_same, get_or-set_other, set_out}
use lib.Dec.{ltb, eqb}
use native.Mathlib.Omega.{arith}
use borrow.Author.Tests.{eqb-true, eqb-false, ltb-true, ltb-false}
use Rattle.cells.specs.Cell.{sort_of, operands_of}
use Rattle.cells.specs.ByPlace.{by-test}
use Rattle.cells.specs.declared.TermPlace.{TermPlace}
use Rattle.free_variables.specs.Free.{any_of, let_values, is_free}
use Rattle.free_variables.specs.FreeMemo.{pair_kind_of, pairs_bind, free_below}
use Rattle.free_variables.specs.Names.{bucket_of, may_be_free, free_in, NamesMarked}
use Rattle.free_variables.specs.NamesWalk.{free_among, free_under, free_in_let, Exactly, Grown, FreeFromMeans, NamesMemo, NamesWalked}
use Rattle.free_variables.specs.declared.pair_kind.PairKind.TheVariants.{SortedVar, VarBinding}
use Rattle.free_variables.specs.declared.term_names.FreeFrom.{FreeFrom}
use Rattle.free_variables.specs.declared.term_names.FreeFrom.TheVariants.{Nothing, Variable, Body, Run, Values, Let}
use Rattle.cells.proofs.marks.Laws.{zeros}
use Rattle.free_variables.proofs.free_vars.Laws.{kind-let, kind-binder, any_none, any-first, no_value, first-value, below-is, below-not, look-low, look_self, look-application, look-operator, look-bound, look-late, look-body, let-bound, let-late, let-body}

clash : {C : Type 0} → false ≡ true → C
clash e = absurd (let z : ◌≡◌ {A = ℕ} 0 1 = cc in omega arith)

-- ---- the bucket of a name with a sort
pub bucket-is : (name sort a b : ℕ) → a ≡ name → b ≡ sort → (a % 8191 * 31 + b % 8191) % 8191 ≡ bucket_of name sort
unfolding bucket_of
bucket-is name sort a b p q = rw (p, q)

pub may-is : (names : List ℕ) (name sort at : ℕ) → at ≡ bucket_of name sort → (m : ℕ) → m ≡ get_or names at 1 → eqb m 1 ≡ may_be_free names name sort
unfolding may_be_free
may-is names name sort at is m e = rw (← is, ← e)

-- ---- a variable with this name and sort
module _ (values : List ℕ) (v a s at : ℕ) (name : a ≡ get_or values (v + 2) 0) (sort : s ≡ sort_of values v) (is : at ≡ bucket_of a s) (names : List ℕ) where
  pub mark-here : set names at 1 ≡ set names (bucket_of (get_or values (v + 2) 0) (sort_of values v)) 1
  mark-here = rw (is, name, sort)

  pub mark-past : length names ≤ at → names ≡ set names (bucket_of (get_or values (v + 2) 0) (sort_of values v)) 1
  mark-past h = rw (← name, ← sort, ← is, set_out names at 1 h)

pub ruleset marks = (mark-here, mark-past)

-- ---- where the free variables of the term at t are
module _ (tags values : List ℕ) (t tag : ℕ) (k : tag ≡ get_or tags t 0) where
  -- a term that is no variable is none of the variables
  other : (tag ≡ 21 → ⊥) → (v : ℕ) → get_or tags v 0 ≡ 21 → t ≡ v → ⊥
  other n v e o = n (k ∙ ap (λ (u : ℕ). get_or tags u 0) o ∙ e)

  pub find-nothing : tag < 21 → Exactly tags values t (λ v. false)
  unfolding free_in
  find-nothing h = record { at = λ v e. sym (look-low tags values v t (other (λ q. omega arith) v e) tag k (omega arith)) }

  pub find-variable : 21 ≤ tag → tag < 22 → (get_or tags t 0 ≡ 21) × Exactly tags values t (λ v. eqb v t)
  unfolding free_in
  find-variable l h = (
    sym k ∙ omega arith,
    record {
      at = λ v e. by-test (eqb v t)
          (λ o. rw o (sym (look_self tags values v t (sym (eqb-true v t o)))))
          (λ o. rw o (sym (look-low tags values v t (λ q. eqb-false v t o (sym q)) tag k h)));
    },
  )

  pub find-application : 22 ≤ tag → tag < 23 → Exactly tags values t (free_among tags values t (operands_of tags values t))
  unfolding free_in free_among
  find-application l h = record { at = λ v e. sym (look-application tags values v t (other (λ q. omega arith) v e) tag k l h) }

  pub find-operator : 28 ≤ tag → Exactly tags values t (free_among tags values t (operands_of tags values t))
  unfolding free_in free_among
  find-operator h = record { at = λ v e. sym (look-operator tags values v t (other (λ q. omega arith) v e) tag k h) }

  module _ (l : 23 ≤ tag) (h : tag < 28) (run : List ℕ) (o : run ≡ operands_of tags values t) (body : ℕ) (a : body ≡ get_or run 0 0) where
    module _ (y : tag ≡ 27) where
      pub find-values : t ≤ body → Exactly tags values t (free_among tags values t (let_values (operands_of tags values t)))
      unfolding free_in free_among
      find-values g = record {
        at = λ v e. let n = other (λ q. omega arith) v e in
            by-test (pairs_bind values VarBinding v run)
            (λ p. sym (let-bound tags values v t n tag k l h run o VarBinding (kind-let tag y) _ refl refl p))
            (λ p. sym (let-late tags values v t n tag k l h run o VarBinding (kind-let tag y) _ refl refl p body a g));
      }

      pub find-let : body < t → Exactly tags values t (free_in_let tags values t body)
      unfolding free_in free_among free_under free_in_let
      find-let g = record {
        at = λ v e. let n = other (λ q. omega arith) v e in
            by-test (pairs_bind values VarBinding v run)
            (λ p. rw (← k, ← kind-let tag y, ← o, p, or-false) (rw (← o) at (sym (let-bound tags values v t n tag k l h run o VarBinding (kind-let tag y) _ refl refl p))))
            (λ p. rw (← k, ← kind-let tag y, ← o, p) (rw (← o) at (sym (let-body tags values v t n tag k l h run o VarBinding (kind-let tag y) _ refl refl p body a g))));
      }

    module _ (y : tag ≡ 27 → ⊥) where
      pub find-late : t ≤ body → Exactly tags values t (λ v. false)
      unfolding free_in
      find-late g = record {
        at = λ v e. let n = other (λ q. omega arith) v e in
            by-test (pairs_bind values SortedVar v run)
            (λ p. sym (look-bound tags values v t n tag k l h run o SortedVar (kind-binder tag y) _ refl refl p))
            (λ p. sym (look-late tags values v t n tag k l h run o SortedVar (kind-binder tag y) _ refl refl p body a g));
      }

      pub find-body : body < t → Exactly tags values t (free_under tags values t body)
      unfolding free_in free_under
      find-body g = record {
        at = λ v e. let n = other (λ q. omega arith) v e in
            by-test (pairs_bind values SortedVar v run)
            (λ p. rw (← k, ← kind-binder tag y, ← o, p) (sym (look-bound tags values v t n tag k l h run o SortedVar (kind-binder tag y) _ refl refl p)))
            (λ p. rw (← k, ← kind-binder tag y, ← o, p) (sym (look-body tags values v t n tag k l h run o SortedVar (kind-binder tag y) _ refl refl p body a g)));
      }

pub ruleset finds = (find-nothing, find-variable, find-application, find-operator, find-late, find-body, find-values, find-let)

-- ---- tables that grow
same-grown : (names : List ℕ) → Grown names names
same-grown names = record { kept = λ name sort m. m }

set-one : (names : List ℕ) (b : ℕ) → eqb (get_or (set names b 1) b 1) 1 ≡ true
set-one names b =
    by-test (ltb b (length names))
    (λ o. rw (get_or-set_same names b 1 1 (ltb-true _ _ o)))
    (λ o. rw (set_out names b 1 (ltb-false _ _ o), get_or-eq_default names 1 (ltb-false b (length names) o)))

set_grown : (names : List ℕ) (b : ℕ) → Grown names (set names b 1)
unfolding may_be_free
set_grown names b = record {
  kept = λ name sort m. by-test (eqb (bucket_of name sort) b)
      (λ o. rw (eqb-true (bucket_of name sort) b o) (set-one names b))
      (λ o. rw (get_or-set_other names b (bucket_of name sort) 1 1 (eqb-false _ _ o)) m);
}

module _ (names names' : List ℕ) (g : Grown names names') where
  more-grown : (names'' : List ℕ) → Grown names' names'' → Grown names names''
  more-grown names'' g' = record { kept = λ name sort m. g'.kept name sort (g.kept name sort m) }

  listed-grown : (tags values : List ℕ) (test : ℕ → Bool) → NamesMarked tags values names test → NamesMarked tags values names' test
  listed-grown tags values test l = record { at = λ v e f. g.kept _ _ (l.at v e f) }

  right-grown : (tags values seen : List ℕ) → NamesMemo tags values seen names → NamesMemo tags values seen names'
  right-grown tags values seen r = record { at = λ u e. listed-grown tags values _ (r.at u e) }

-- ---- the walk at t
-- a variable that is free under pairs is free in the body
under-listed : (tags values : List ℕ) (t u : ℕ) (names : List ℕ) → NamesMarked tags values names (free_in tags values u) → NamesMarked tags values names (free_under tags values t u)
unfolding free_under
under-listed tags values t u names l = record {
  at = λ v e f. by-test (pairs_bind values (pair_kind_of (get_or tags t 0)) v (operands_of tags values t))
      (λ p. clash (rw p at f))
      (λ p. l.at v e (rw p at f));
}

module _ (tags values : List ℕ) (t : ℕ) where
  pub walk-seen : (seen names : List ℕ) → NamesMemo tags values seen names → (m : ℕ) → m ≡ get_or seen t 0 → m ≡ 1 → NamesWalked tags values names seen names (free_in tags values t)
  walk-seen seen names r m is e = record { grown = same-grown names; right = r; listed = r.at t (sym is ∙ e) }

  -- the names of the term are in the table, and t is noted
  pub noted : (names seen names' : List ℕ) → NamesWalked tags values names seen names' (free_in tags values t)
      → (seen' : List ℕ) → seen' ≡ set seen t 1 → NamesWalked tags values names seen' names' (free_in tags values t)
  noted names seen names' d seen' is = record {
    grown = d.grown;
    right = rw is (record {
      at = λ u q. by-test (eqb u t)
          (λ o. rw (eqb-true u t o) d.listed)
          (λ o. d.right.at u (sym (get_or-set_other seen t u 1 0 (eqb-false u t o)) ∙ q));
    });
    listed = d.listed;
  }

  -- the variables that are free at t are those that pass a test
  tested : (test : ℕ → Bool) → Exactly tags values t test → (names seen names' : List ℕ) → NamesWalked tags values names seen names' test
      → NamesWalked tags values names seen names' (free_in tags values t)
  tested test w names seen names' d = record {
    grown = d.grown;
    right = d.right;
    listed = record { at = λ v e f. d.listed.at v e (sym (w.at v e) ∙ f) };
  }

  module _ (s : FreeFrom) (m : FreeFromMeans tags values t s) where
    module _ (seen names : List ℕ) (r : NamesMemo tags values seen names) where
      pub walk-nothing : s ≡ Nothing → NamesWalked tags values names seen names (free_in tags values t)
      walk-nothing e = tested _ (rw e at m) names seen names (record {
        grown = same-grown names;
        right = r;
        listed = record { at = λ v q f. clash f };
      })

      pub walk-variable : s ≡ Variable → (names' : List ℕ) → names' ≡ set names (bucket_of (get_or values (t + 2) 0) (sort_of values t)) 1
          → NamesWalked tags values names seen names' (free_in tags values t)
      unfolding may_be_free
      walk-variable e names' is =
          let g : Grown names names' = rw is (set_grown names _) in
          tested _ (rw e at m).1 names seen names' (record {
            grown = g;
            right = right-grown names names' g tags values seen r;
            listed = record { at = λ v q f. rw (is, eqb-true v t f) (set-one names _) };
          })

    module _ (names seen names' : List ℕ) where
      pub walk-body : (u : TermPlace) → s ≡ Body u → NamesWalked tags values names seen names' (free_in tags values u.0)
          → NamesWalked tags values names seen names' (free_in tags values t)
      walk-body u e d = tested _ (rw e at m).1 names seen names' (record { grown = d.grown; right = d.right; listed = under-listed tags values t u.0 names' d.listed })

      pub walk-run : s ≡ Run → (run : List ℕ) → run ≡ operands_of tags values t → NamesWalked tags values names seen names' (free_among tags values t run)
          → NamesWalked tags values names seen names' (free_in tags values t)
      walk-run e run o d = tested _ (rw e at m) names seen names' (rw o at d)

      pub walk-values : s ≡ Values → (run : List ℕ) → run ≡ operands_of tags values t → NamesWalked tags values names seen names' (free_among tags values t (let_values run))
          → NamesWalked tags values names seen names' (free_in tags values t)
      walk-values e run o d = tested _ (rw e at m) names seen names' (rw o at d)

      pub walk-let : (u : TermPlace) → s ≡ Let u → (run : List ℕ) → run ≡ operands_of tags values t → NamesWalked tags values names seen names' (free_among tags values t (let_values run))
          → (seen' names'' : List ℕ) → NamesWalked tags values names' seen' names'' (free_in tags values u.0)
          → NamesWalked tags values names seen' names'' (free_in tags values t)
      unfolding free_in_let
      walk-let u e run o d seen' names'' d' =
          let w : NamesWalked tags values names seen names' (free_among tags values t (let_values (operands_of tags values t))) = rw o at d in
          tested _ (rw e at m).1 names seen' names'' (record {
            grown = more-grown names names' d.grown names'' d'.grown;
            right = d'.right;
            listed = record {
              at = λ v q f. by-test (free_among tags values t (let_values (operands_of tags values t)) v)
                  (λ z. (listed-grown names' names'' d'.grown tags values _ w.listed).at v q z)
                  (λ z. (under-listed tags values t u.0 names'' d'.listed).at v q (rw z at f));
            };
          })

pub ruleset walks = (walk-nothing, walk-variable, walk-body, walk-run, walk-values, walk-let)

-- ---- the walk along the places l, of which the first is u
module _ (tags values : List ℕ) (t u : ℕ) (l rest : List ℕ)
    (first : (v : ℕ) → any_of (free_below tags values v t) l ≡ free_below tags values v t u || any_of (free_below tags values v t) rest) where
  skip : t ≤ u → (names seen names' : List ℕ) → NamesWalked tags values names seen names' (free_among tags values t rest)
      → NamesWalked tags values names seen names' (free_among tags values t l)
  unfolding free_among
  skip h names seen names' d = record {
    grown = d.grown;
    right = d.right;
    listed = record { at = λ v q f. d.listed.at v q (rw (first v, below-not tags values v t u h) at f) };
  }

  go_on : u < t → (names seen names' : List ℕ) → NamesWalked tags values names seen names' (free_in tags values u)
      → (seen' names'' : List ℕ) → NamesWalked tags values names' seen' names'' (free_among tags values t rest)
      → NamesWalked tags values names seen' names'' (free_among tags values t l)
  unfolding free_among free_in
  go_on h names seen names' d seen' names'' d' = record {
    grown = more-grown names names' d.grown names'' d'.grown;
    right = d'.right;
    listed = record {
      at = λ v q f. by-test (is_free tags values v u)
          (λ o. (listed-grown names' names'' d'.grown tags values _ d.listed).at v q o)
          (λ o. d'.listed.at v q (rw (first v, below-is tags values v t u h, o) at f));
    };
  }

none_left : (tags values : List ℕ) (t : ℕ) (l : List ℕ) → ((v : ℕ) → false ≡ any_of (free_below tags values v t) l)
    → (seen names : List ℕ) → NamesMemo tags values seen names → NamesWalked tags values names seen names (free_among tags values t l)
unfolding free_among
none_left tags values t l none seen names r = record {
  grown = same-grown names;
  right = r;
  listed = record { at = λ v q f. clash (none v ∙ f) };
}

-- ---- along a run
module _ (tags values : List ℕ) (t : ℕ) (run : List ℕ) where
  pub run_end : (seen names : List ℕ) → NamesMemo tags values seen names → length run ≡ 0 → NamesWalked tags values names seen names (free_among tags values t run)
  run_end seen names r e = none_left tags values t run (λ v. any_none _ run e) seen names r

  module _ (some : length run ≡ 0 → ⊥) where
    pub run-skip : t ≤ get_or run 0 0 → (names seen names' : List ℕ)
        → NamesWalked tags values names seen names' (free_among tags values t (take (length run - 1) (drop 1 run)))
        → NamesWalked tags values names seen names' (free_among tags values t run)
    run-skip = skip tags values t (get_or run 0 0) run _ (λ v. any-first _ run some)

    pub run_on : get_or run 0 0 < t → (names seen names' : List ℕ) → NamesWalked tags values names seen names' (free_in tags values (get_or run 0 0))
        → (seen' names'' : List ℕ) → NamesWalked tags values names' seen' names'' (free_among tags values t (take (length run - 1) (drop 1 run)))
        → NamesWalked tags values names seen' names'' (free_among tags values t run)
    run_on = go_on tags values t (get_or run 0 0) run _ (λ v. any-first _ run some)

-- ---- along a let's values
module _ (tags values : List ℕ) (t : ℕ) (run : List ℕ) where
  pub values-end : (seen names : List ℕ) → NamesMemo tags values seen names → length run < 3 → NamesWalked tags values names seen names (free_among tags values t (let_values run))
  values-end seen names r e = none_left tags values t (let_values run) (λ v. no_value _ run e) seen names r

  module _ (some : 3 ≤ length run) where
    pub values-skip : t ≤ get_or run 2 0 → (names seen names' : List ℕ)
        → NamesWalked tags values names seen names' (free_among tags values t (let_values (take (length run - 2) (drop 2 run))))
        → NamesWalked tags values names seen names' (free_among tags values t (let_values run))
    values-skip = skip tags values t (get_or run 2 0) (let_values run) _ (λ v. first-value _ run some)

    pub values-on : get_or run 2 0 < t → (names seen names' : List ℕ) → NamesWalked tags values names seen names' (free_in tags values (get_or run 2 0))
        → (seen' names'' : List ℕ) → NamesWalked tags values names' seen' names'' (free_among tags values t (let_values (take (length run - 2) (drop 2 run))))
        → NamesWalked tags values names seen' names'' (free_among tags values t (let_values run))
    values-on = go_on tags values t (get_or run 2 0) (let_values run) _ (λ v. first-value _ run some)

-- ---- the whole walk, from a fresh memo
pub fresh : (tags values names : List ℕ) (k : ℕ) → NamesMemo tags values (replicate k 0) names
fresh tags values names k = record { at = λ u e. absurd (omega (arith, zeros k u)) }

-- ---- what a bucket that is not set says
pub not_listed : (tags values names : List ℕ) (t : ℕ) → NamesMarked tags values names (free_in tags values t) → (v : ℕ) → get_or tags v 0 ≡ 21
    → may_be_free names (get_or values (v + 2) 0) (sort_of values v) ≡ false → is_free tags values v t ≡ false
unfolding free_in
not_listed tags values names t l v e f = by-test (is_free tags values v t) (λ o. clash (sym f ∙ l.at v e o)) (λ o. o)
