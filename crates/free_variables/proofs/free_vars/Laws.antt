-- Laws of `Free` and `FreeMemo`, one for each way through the code.
-- Assumes nothing.
use Prim.Native.Nat.{ℕ, zero, suc, ◌+◌, ◌-◌, ◌≤◌, ◌<◌}
use mathlib.Core.Path.{◌≡◌, refl, sym, ap, fun_ext, ◌∙◌}
use mathlib.Core.Bool.{Bool, true, false, cond, ◌||◌, or-false}
use mathlib.Core.List.{List, [], ◌∷◌}
use lib.ListN.{length, get_or, take, drop, replicate, length-drop}
use lib.Seq.{drop-cons, take_all}
use lib.Dec.{ltb, eqb}
use native.Mathlib.Omega.{arith}
use borrow.Author.Tests.{lt-ltb, le-ltb, eq-eqb, ne_eqb, eqb-true, eqb-false, ltb-true}
use Rattle.cells.specs.Cell.{sort_of, operands_of}
use Rattle.cells.specs.ByPlace.{by-test, down_to, by_place, by_place-is}
use Rattle.cells.proofs.marks.Laws.{zeros}
use Rattle.free_variables.specs.Free.{pair_in, bound_by, let_binds, any_of, values_in, let_values, under_pairs, free_step, is_free, mark_of}
use Rattle.free_variables.specs.FreeMemo.{pair_kind_of, pair_sort, is_pair, pairs_bind, free_below, NotFreeMemo, FreeAnswered}
use Rattle.free_variables.specs.declared.pair_kind.PairKind.{PairKind}
use Rattle.free_variables.specs.declared.pair_kind.PairKind.TheVariants.{SortedVar, VarBinding}

-- ---- pairs
module _ (tag : ℕ) where
  pub kind-let : tag ≡ 27 → VarBinding ≡ pair_kind_of tag
  unfolding pair_kind_of
  kind-let e = rw (eq-eqb _ _ e)

  pub kind-binder : (tag ≡ 27 → ⊥) → SortedVar ≡ pair_kind_of tag
  unfolding pair_kind_of
  kind-binder n = rw (ne_eqb _ _ n)

  module _ (kind : PairKind) (is : kind ≡ pair_kind_of tag) where
    pub tag-let : kind ≡ VarBinding → tag ≡ 27
    tag-let e = by-test (eqb tag 27) (eqb-true tag 27) (λ n. let z : SortedVar ≡ VarBinding = kind-binder (eqb-false tag 27 n) ∙ sym is ∙ e in cc)

    pub tag-binder : kind ≡ SortedVar → tag ≡ 27 → ⊥
    tag-binder e y = let z : SortedVar ≡ VarBinding = sym e ∙ is ∙ sym (kind-let y) in cc

pub bind-by : (values : List ℕ) (kind : PairKind) (v : ℕ) (run : List ℕ) (name sort : ℕ) → name ≡ get_or values (v + 2) 0 → sort ≡ sort_of values v
    → (r : Bool) → r ≡ pair_in (pair_sort values kind) name sort (drop 1 run) → r ≡ pairs_bind values kind v run
unfolding pairs_bind
bind-by values kind v run name sort a b r e = rw (← a, ← b) e

-- the pairs of a run, at its end and at a pair
pairs-end : (f : ℕ → ℕ) (name sort : ℕ) (l : List ℕ) → length l < 2 → pair_in f name sort l ≡ false
unfolding pair_in
pairs-end f name sort [] h = refl
pairs-end f name sort (a ∷ []) h = refl
pairs-end f name sort (a ∷ (b ∷ l)) h = absurd (omega arith)

pairs-next : (values : List ℕ) (kind : PairKind) (name sort : ℕ) (l : List ℕ) → 2 ≤ length l
    → pair_in (pair_sort values kind) name sort l ≡ (is_pair values kind name sort (get_or l 0 0) (get_or l 1 0) || pair_in (pair_sort values kind) name sort (take (length l - 2) (drop 2 l)))
unfolding pair_in is_pair
pairs-next values kind name sort [] h = absurd (omega arith)
pairs-next values kind name sort (a ∷ []) h = absurd (omega arith)
pairs-next values kind name sort (a ∷ (b ∷ l)) h =
    let e : suc (suc (length l)) - 2 ≡ length l = omega arith in
    rw (e, take_all (length l) l (omega arith))

-- w says whether the pairs that are left hold the name with the sort
module _ (w : Bool) (values : List ℕ) (kind : PairKind) (name sort : ℕ) (l : List ℕ) (inv : w ≡ pair_in (pair_sort values kind) name sort l) where
  pub bind-end : length l < 2 → false ≡ w
  bind-end h = rw (inv, pairs-end (pair_sort values kind) name sort l h)

  module _ (h : 2 ≤ length l) (r : Bool) (is : r ≡ is_pair values kind name sort (get_or l 0 0) (get_or l 1 0)) where
    pub bind-here : r ≡ true → true ≡ w
    bind-here y = rw (inv, pairs-next values kind name sort l h, ← is, y)

    pub bind-next : r ≡ false → w ≡ pair_in (pair_sort values kind) name sort (take (length l - 2) (drop 2 l))
    bind-next y = rw (inv, pairs-next values kind name sort l h, ← is, y)

-- ---- the definition, with its recursion one step open
free-is : (tags values : List ℕ) (v t : ℕ) → is_free tags values v t ≡ free_step tags values v t (free_below tags values v t)
unfolding is_free free_below
free-is tags values v t = by_place-is (free_step tags values v) false t

module _ (tags values : List ℕ) (v t u : ℕ) where
  pub below-is : u < t → free_below tags values v t u ≡ is_free tags values v u
  unfolding free_below
  below-is h = rw (lt-ltb _ _ h)

  pub below-not : t ≤ u → free_below tags values v t u ≡ false
  unfolding free_below
  below-not h = rw (le-ltb _ _ h)

-- ---- what the walk does at t
module _ (tags values : List ℕ) (v t : ℕ) where
  pub look-noted : (memo : List ℕ) → NotFreeMemo tags values v memo → (m : ℕ) → m ≡ get_or memo t 0 → m ≡ 1 → false ≡ is_free tags values v t
  look-noted memo right m is e = right.at t (sym is ∙ e)

  pub look_self : t ≡ v → true ≡ is_free tags values v t
  unfolding free_step
  look_self e = rw (free-is, eq-eqb _ _ e)

  module _ (n : t ≡ v → ⊥) (tag : ℕ) (k : tag ≡ get_or tags t 0) where
    pub look-low : tag < 22 → false ≡ is_free tags values v t
    unfolding free_step
    look-low h = rw (free-is, ne_eqb _ _ n, ← k, lt-ltb _ _ h)

    pub look-application : 22 ≤ tag → tag < 23 → any_of (free_below tags values v t) (operands_of tags values t) ≡ is_free tags values v t
    unfolding free_step
    look-application l h = rw (free-is tags values v t, ne_eqb _ _ n, ← k, le-ltb _ _ l, lt-ltb _ _ h)

    pub look-operator : 28 ≤ tag → any_of (free_below tags values v t) (operands_of tags values t) ≡ is_free tags values v t
    unfolding free_step
    look-operator h =
        rw
        (free-is tags values v t, ne_eqb _ _ n, ← k, le-ltb tag 22 (omega arith), le-ltb tag 23 (omega arith), le-ltb tag 27 (omega arith), le-ltb _ _ h)

    module _ (l : 23 ≤ tag) (h : tag < 28) (run : List ℕ) (o : run ≡ operands_of tags values t)
        (kind : PairKind) (q : kind ≡ pair_kind_of tag) (p : Bool) (is : p ≡ pairs_bind values kind v run) where
      under : kind ≡ SortedVar → is_free tags values v t ≡ cond p false (free_below tags values v t (get_or run 0 0))
      unfolding free_step under_pairs bound_by pairs_bind pair_sort
      under z =
          let low : tag < 27 = omega (arith, tag-binder tag kind q z) in
          rw (free-is tags values v t, ne_eqb _ _ n, ← k, le-ltb tag 22 (omega arith), le-ltb _ _ l, lt-ltb tag 27 low, ← o, is, z)

      under-let : kind ≡ VarBinding → is_free tags values v t
          ≡ any_of (free_below tags values v t) (let_values (operands_of tags values t)) || cond p false (free_below tags values v t (get_or run 0 0))
      unfolding free_step under_pairs let_binds pairs_bind pair_sort
      under-let z =
          let high : 27 ≤ tag = omega (arith, tag-let tag kind q z) in
          rw (free-is tags values v t, ne_eqb _ _ n, ← k, le-ltb tag 22 (omega arith), le-ltb _ _ l, le-ltb tag 27 high, lt-ltb _ _ h, ← o, is, z)

      module _ (y : kind ≡ VarBinding) where
        pub let-bound : p ≡ true → any_of (free_below tags values v t) (let_values (operands_of tags values t)) ≡ is_free tags values v t
        let-bound e = rw (under-let y, e, or-false)

        module _ (z : p ≡ false) (body : ℕ) (a : body ≡ get_or run 0 0) where
          pub let-late : t ≤ body → any_of (free_below tags values v t) (let_values (operands_of tags values t)) ≡ is_free tags values v t
          let-late g = rw (under-let y, z, ← a, below-not tags values v t body g, or-false)

          pub let-body : body < t
              → (any_of (free_below tags values v t) (let_values (operands_of tags values t)) || is_free tags values v body) ≡ is_free tags values v t
          let-body g = rw (under-let y, z, ← a, below-is tags values v t body g)

      module _ (y : kind ≡ SortedVar) where
        pub look-bound : p ≡ true → false ≡ is_free tags values v t
        look-bound e = rw (under y, e)

        module _ (z : p ≡ false) (body : ℕ) (a : body ≡ get_or run 0 0) where
          pub look-late : t ≤ body → false ≡ is_free tags values v t
          look-late g = rw (under y, z, ← a, below-not tags values v t body g)

          pub look-body : body < t → is_free tags values v body ≡ is_free tags values v t
          look-body g = rw (under y, z, ← a, below-is tags values v t body g)

pub ruleset looks = (look-noted, look_self, look-low, look-application, look-operator, look-bound, look-late, look-body, let-bound, let-late, let-body)

-- ---- the walk along a run
pub any_none : (test : ℕ → Bool) (l : List ℕ) → length l ≡ 0 → false ≡ any_of test l
unfolding any_of
any_none test [] e = refl
any_none test (x ∷ l) e = absurd (omega arith)

pub any-first : (test : ℕ → Bool) (l : List ℕ) → (length l ≡ 0 → ⊥) → any_of test l ≡ test (get_or l 0 0) || any_of test (take (length l - 1) (drop 1 l))
unfolding any_of
any-first test l some =
    rw (take_all (length l - 1) (drop 1 l) (rw (length-drop 1 l) (omega arith)))
    (ap (any_of test) (drop-cons l 0 0 (omega arith)))

module _ (tags values : List ℕ) (v t : ℕ) (run : List ℕ) where
  pub run_end : (memo : List ℕ) → NotFreeMemo tags values v memo → length run ≡ 0 → FreeAnswered tags values v memo false (any_of (free_below tags values v t) run)
  run_end memo right e = record { is = any_none _ run e; right = right }

  module _ (some : length run ≡ 0 → ⊥) where
    any-is : any_of (free_below tags values v t) run
        ≡ free_below tags values v t (get_or run 0 0) || any_of (free_below tags values v t) (take (length run - 1) (drop 1 run))
    any-is = any-first (free_below tags values v t) run some

    pub run-skip : t ≤ get_or run 0 0 → (memo : List ℕ) (s : Bool)
        → FreeAnswered tags values v memo s (any_of (free_below tags values v t) (take (length run - 1) (drop 1 run)))
        → FreeAnswered tags values v memo s (any_of (free_below tags values v t) run)
    run-skip h memo s a = record { is = rw (any-is, below-not tags values v t (get_or run 0 0) h) a.is; right = a.right }

    module _ (h : get_or run 0 0 < t) (memo : List ℕ) (r : Bool) (a : FreeAnswered tags values v memo r (is_free tags values v (get_or run 0 0))) where
      pub run-found : r ≡ true → FreeAnswered tags values v memo true (any_of (free_below tags values v t) run)
      run-found e = record { is = rw (any-is, below-is tags values v t (get_or run 0 0) h, ← a.is, e); right = a.right }

      pub run_on : r ≡ false → (memo' : List ℕ) (s : Bool)
          → FreeAnswered tags values v memo' s (any_of (free_below tags values v t) (take (length run - 1) (drop 1 run)))
          → FreeAnswered tags values v memo' s (any_of (free_below tags values v t) run)
      run_on e memo' s b = record { is = rw (any-is, below-is tags values v t (get_or run 0 0) h, ← a.is, e) b.is; right = b.right }

-- ---- the walk along a let's values
pub no_value : (test : ℕ → Bool) (l : List ℕ) → length l < 3 → false ≡ any_of test (let_values l)
unfolding any_of let_values values_in
no_value test [] h = refl
no_value test (a ∷ []) h = refl
no_value test (a ∷ (b ∷ [])) h = refl
no_value test (a ∷ (b ∷ (c ∷ l))) h = absurd (omega arith)

pub first-value : (test : ℕ → Bool) (l : List ℕ) → 3 ≤ length l
    → any_of test (let_values l) ≡ test (get_or l 2 0) || any_of test (let_values (take (length l - 2) (drop 2 l)))
unfolding any_of let_values values_in
first-value test [] h = absurd (omega arith)
first-value test (a ∷ []) h = absurd (omega arith)
first-value test (a ∷ (b ∷ [])) h = absurd (omega arith)
first-value test (a ∷ (b ∷ (c ∷ l))) h =
    rw (take_all (length (a ∷ (b ∷ (c ∷ l))) - 2) (drop 2 (a ∷ (b ∷ (c ∷ l)))) (rw (length-drop 2 (a ∷ (b ∷ (c ∷ l)))) (omega arith)))

module _ (tags values : List ℕ) (v t : ℕ) (run : List ℕ) where
  pub values-end : (memo : List ℕ) → NotFreeMemo tags values v memo → length run < 3
      → FreeAnswered tags values v memo false (any_of (free_below tags values v t) (let_values run))
  values-end memo right e = record { is = no_value _ run e; right = right }

  module _ (some : 3 ≤ length run) where
    value-is : any_of (free_below tags values v t) (let_values run)
        ≡ free_below tags values v t (get_or run 2 0) || any_of (free_below tags values v t) (let_values (take (length run - 2) (drop 2 run)))
    value-is = first-value (free_below tags values v t) run some

    pub values-skip : t ≤ get_or run 2 0 → (memo : List ℕ) (s : Bool)
        → FreeAnswered tags values v memo s (any_of (free_below tags values v t) (let_values (take (length run - 2) (drop 2 run))))
        → FreeAnswered tags values v memo s (any_of (free_below tags values v t) (let_values run))
    values-skip h memo s a = record { is = rw (value-is, below-not tags values v t (get_or run 2 0) h) a.is; right = a.right }

    module _ (h : get_or run 2 0 < t) (memo : List ℕ) (r : Bool) (a : FreeAnswered tags values v memo r (is_free tags values v (get_or run 2 0))) where
      pub values-found : r ≡ true → FreeAnswered tags values v memo true (any_of (free_below tags values v t) (let_values run))
      values-found e = record { is = rw (value-is, below-is tags values v t (get_or run 2 0) h, ← a.is, e); right = a.right }

      pub values-on : r ≡ false → (memo' : List ℕ) (s : Bool)
          → FreeAnswered tags values v memo' s (any_of (free_below tags values v t) (let_values (take (length run - 2) (drop 2 run))))
          → FreeAnswered tags values v memo' s (any_of (free_below tags values v t) (let_values run))
      values-on e memo' s b = record { is = rw (value-is, below-is tags values v t (get_or run 2 0) h, ← a.is, e) b.is; right = b.right }

-- ---- a fresh memo
pub fresh : (tags values : List ℕ) (v k : ℕ) → NotFreeMemo tags values v (replicate k 0)
fresh tags values v k = record { at = λ u e. absurd (omega (arith, zeros k u)) }

-- ---- a variable after t is not free in the term at t
either-false : (b : Bool) → cond b false false ≡ false
either-false true = refl
either-false false = refl

any_false : (l : List ℕ) → any_of (λ u. false) l ≡ false
unfolding any_of
any_false [] = refl
any_false (x ∷ l) = any_false l

module _ (tags values : List ℕ) (v : ℕ) where
  step-none : (t : ℕ) → t < v → free_step tags values v t (λ u. false) ≡ false
  unfolding free_step under_pairs
  step-none t h = simp (ne_eqb t v (omega arith), any_false, either-false)

  down-none : (f t : ℕ) → t < v → down_to (free_step tags values v) false f t ≡ false
  unfolding down_to
  down-none zero t h = refl
  down-none (suc f) t h =
      ap (free_step tags values v t) (fun_ext (λ u. by-test (ltb u t) (λ e. rw e (down-none f u (omega (arith, ltb-true u t e)))) (λ e. rw e)))
      ∙ step-none t h

  pub later-not : (t : ℕ) → t < v → is_free tags values v t ≡ false
  unfolding is_free by_place
  later-not t h = down-none (suc t) t h

-- ---- the mark of a place
module _ (tags values : List ℕ) (n t v : ℕ) where
  pub mark-past : n ≤ v → 0 ≡ mark_of tags values n t v
  unfolding mark_of
  mark-past h = rw (le-ltb _ _ h)

  module _ (h : v < n) (k : ℕ) (is : k ≡ get_or tags v 0) where
    pub mark-other : (k ≡ 21 → ⊥) → 0 ≡ mark_of tags values n t v
    unfolding mark_of
    mark-other o = rw (lt-ltb _ _ h, ← is, ne_eqb _ _ o)

    module _ (e : k ≡ 21) where
      pub mark-later : t < v → 0 ≡ mark_of tags values n t v
      unfolding mark_of
      mark-later l = rw (lt-ltb _ _ h, ← is, eq-eqb _ _ e, later-not tags values v t l)

      module _ (s : Bool) (q : s ≡ is_free tags values v t) where
        pub mark-yes : s ≡ true → 1 ≡ mark_of tags values n t v
        unfolding mark_of
        mark-yes y = rw (lt-ltb _ _ h, ← is, eq-eqb _ _ e, ← q, y)

        pub mark-no : s ≡ false → 0 ≡ mark_of tags values n t v
        unfolding mark_of
        mark-no y = rw (lt-ltb _ _ h, ← is, eq-eqb _ _ e, ← q, y)

pub ruleset mark = (mark-past, mark-other, mark-later, mark-yes, mark-no)
