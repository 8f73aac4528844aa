-- What occurs free in a term by place, from what occurs free in its parts, of any two lists of cells: an equation for each way through a
-- walk.
--     occurs-below, occurs-not-below                  a part that stands before t, and one that does not
--     occurs-none, occurs-self                        a sort or a constant; a variable
--     occurs-application, occurs-operator             the terms of the operand run, one after another
--     occurs-binder, binder-late                      a binder: its body's without its pairs, or none
--     occurs-let, let-values                          a let: its values', then its body's without its pairs, or its values' alone
--     joined_end, joined-first, values-end, values-first     a run, and a let's values, one after another
-- `tag` and `run` are what the walk read of the term at t.
-- Assumes nothing.
use Prim.Native.Nat.{ℕ, ◌-◌, ◌≤◌, ◌<◌}
use mathlib.Core.Path.{◌≡◌, refl, ap, fun_ext, ◌∙◌}
use mathlib.Core.Bool.{Bool}
use mathlib.Core.List.{List, [], ◌∷◌, ◌++◌, append-nil}
use lib.ListN.{length, get_or, take, drop, length-drop}
use lib.Seq.{drop-cons, take_all}
use native.Mathlib.Omega.{arith}
use borrow.Author.Tests.{lt-ltb, le-ltb}
use Rattle.cells.specs.Cell.{operands_of}
use Rattle.cells.specs.ByPlace.{by_place-is}
use Rattle.free_variables.specs.Free.{bound_by, let_binds, values_in, let_values}
use Rattle.free_variables.specs.FreeMemo.{pair_kind_of, pair_sort, pairs_bind}
use Rattle.free_variables.specs.declared.pair_kind.PairKind.{PairKind}
use Rattle.free_variables.specs.declared.pair_kind.PairKind.TheVariants.{SortedVar, VarBinding}
use Rattle.free_variables.specs.Once.{leave_out}
use Rattle.free_variables.proofs.free_vars.Laws.{tag-let, tag-binder}
use Rattle.free_variables.specs.Appearing.{joined, occurrences_from, occurrences_step, occurrences_at, occurrences_below}

-- ---- the pairs of a binder and of a let, as the walks read them
pub bound-pairs : (values : List ℕ) (v : ℕ) (run : List ℕ) → bound_by values v run ≡ pairs_bind values SortedVar v run
unfolding bound_by pairs_bind pair_sort
bound-pairs values v run = refl

pub let-pairs : (values : List ℕ) (v : ℕ) (run : List ℕ) → let_binds values v run ≡ pairs_bind values VarBinding v run
unfolding let_binds pairs_bind pair_sort
let-pairs values v run = refl

-- ---- the definition, with its recursion one step open
occurrences-is : (tags values : List ℕ) (t : ℕ) → occurrences_at tags values t ≡ occurrences_step tags values t (occurrences_below tags values t)
unfolding occurrences_at occurrences_below
occurrences-is tags values t = by_place-is (occurrences_step tags values) [] t

module _ (tags values : List ℕ) (t u : ℕ) where
  pub occurs-below : u < t → occurrences_below tags values t u ≡ occurrences_at tags values u
  unfolding occurrences_below
  occurs-below h = rw (lt-ltb _ _ h)

  pub occurs-not-below : t ≤ u → occurrences_below tags values t u ≡ []
  unfolding occurrences_below
  occurs-not-below h = rw (le-ltb _ _ h)

-- ---- by the term's tag
module _ (tags values : List ℕ) (t tag : ℕ) (k : tag ≡ get_or tags t 0) where
  pub occurs-none : tag < 21 → occurrences_at tags values t ≡ []
  unfolding occurrences_step occurrences_from
  occurs-none h = rw (occurrences-is tags values t, ← k, lt-ltb _ _ h)

  pub occurs-self : tag ≡ 21 → occurrences_at tags values t ≡ t ∷ []
  unfolding occurrences_step occurrences_from
  occurs-self h = rw (occurrences-is tags values t, ← k, le-ltb tag 21 (omega arith), lt-ltb tag 22 (omega arith))

  module _ (run : List ℕ) (o : run ≡ operands_of tags values t) where
    pub occurs-application : tag ≡ 22 → occurrences_at tags values t ≡ joined (occurrences_below tags values t) run
    unfolding occurrences_step occurrences_from
    occurs-application h =
        rw (occurrences-is tags values t, ← k, ← o, le-ltb tag 21 (omega arith), le-ltb tag 22 (omega arith), lt-ltb tag 23 (omega arith))

    pub occurs-operator : 28 ≤ tag → occurrences_at tags values t ≡ joined (occurrences_below tags values t) run
    unfolding occurrences_step occurrences_from
    occurs-operator h =
        rw (
          occurrences-is tags values t,
          ← k,
          ← o,
          le-ltb tag 21 (omega arith),
          le-ltb tag 22 (omega arith),
          le-ltb tag 23 (omega arith),
          le-ltb tag 27 (omega arith),
          le-ltb tag 28 h,
        )

    module _ (body : ℕ) (a : body ≡ get_or run 0 0) where
      module _ (l : 23 ≤ tag) (h : tag < 27) where
        binder-is : occurrences_at tags values t ≡ leave_out (λ v. bound_by values v run) (occurrences_below tags values t body)
        unfolding occurrences_step occurrences_from
        binder-is =
            rw
            (occurrences-is tags values t, ← k, ← o, ← a, le-ltb tag 21 (omega arith), le-ltb tag 22 (omega arith), le-ltb tag 23 l, lt-ltb tag 27 h)

        pub occurs-binder : body < t → occurrences_at tags values t ≡ leave_out (λ v. bound_by values v run) (occurrences_at tags values body)
        occurs-binder g = rw (binder-is, occurs-below tags values t body g)

        pub binder-late : t ≤ body → occurrences_at tags values t ≡ []
        unfolding leave_out
        binder-late g = rw (binder-is, occurs-not-below tags values t body g)

      module _ (h : tag ≡ 27) where
        let-is : occurrences_at tags values t
            ≡ joined (occurrences_below tags values t) (let_values run) ++ leave_out (λ v. let_binds values v run) (occurrences_below tags values t body)
        unfolding occurrences_step occurrences_from
        let-is =
            rw (
              occurrences-is tags values t,
              ← k,
              ← o,
              ← a,
              le-ltb tag 21 (omega arith),
              le-ltb tag 22 (omega arith),
              le-ltb tag 23 (omega arith),
              le-ltb tag 27 (omega arith),
              lt-ltb tag 28 (omega arith),
            )

        pub occurs-let : body < t → occurrences_at tags values t
            ≡ joined (occurrences_below tags values t) (let_values run) ++ leave_out (λ v. let_binds values v run) (occurrences_at tags values body)
        occurs-let g = rw (let-is, occurs-below tags values t body g)

        pub let-values : t ≤ body → occurrences_at tags values t ≡ joined (occurrences_below tags values t) (let_values run)
        unfolding leave_out
        let-values g = rw (let-is, occurs-not-below tags values t body g) (append-nil (joined (occurrences_below tags values t) (let_values run)))

      -- the same of a binder or a let, by the kind of its pairs
      module _ (kind : PairKind) (q : kind ≡ pair_kind_of tag) (g : body < t) where
        pub pairs-binder : 23 ≤ tag → tag < 28 → kind ≡ SortedVar
            → occurrences_at tags values t ≡ leave_out (λ v. pairs_bind values kind v run) (occurrences_at tags values body)
        pairs-binder l h z =
            let low : tag < 27 = omega (arith, tag-binder tag kind q z) in
            rw z (occurs-binder l low g ∙ ap (λ (f : ℕ → Bool). leave_out f (occurrences_at tags values body)) (fun_ext (λ v. bound-pairs values v run)))

        pub pairs-let : kind ≡ VarBinding → occurrences_at tags values t
            ≡ joined (occurrences_below tags values t) (let_values run) ++ leave_out (λ v. pairs_bind values kind v run) (occurrences_at tags values body)
        pairs-let z =
            rw z (occurs-let (tag-let tag kind q z) g
            ∙ ap (λ (f : ℕ → Bool). joined (occurrences_below tags values t) (let_values run) ++ leave_out f (occurrences_at tags values body))
            (fun_ext (λ v. let-pairs values v run)))

-- ---- a run, one term after another
module _ (rec : ℕ → List ℕ) where
  pub joined_end : (run : List ℕ) → length run ≡ 0 → joined rec run ≡ []
  unfolding joined
  joined_end [] e = refl
  joined_end (u ∷ us) e = absurd (omega arith)

  pub joined-first : (run : List ℕ) → (length run ≡ 0 → ⊥) → joined rec run ≡ rec (get_or run 0 0) ++ joined rec (take (length run - 1) (drop 1 run))
  unfolding joined
  joined-first run some =
      rw (take_all (length run - 1) (drop 1 run) (rw (length-drop 1 run) (omega arith)))
      (ap (joined rec) (drop-cons run 0 0 (omega arith)))

  -- ---- a let's values: the run is its body and then the pairs
  pub values-end : (run : List ℕ) → length run < 3 → joined rec (let_values run) ≡ []
  unfolding joined let_values values_in
  values-end [] h = refl
  values-end (a ∷ []) h = refl
  values-end (a ∷ (b ∷ [])) h = refl
  values-end (a ∷ (b ∷ (c ∷ l))) h = absurd (omega arith)

  pub values-first : (run : List ℕ) → 3 ≤ length run
      → joined rec (let_values run) ≡ rec (get_or run 2 0) ++ joined rec (let_values (take (length run - 2) (drop 2 run)))
  unfolding joined let_values values_in
  values-first [] h = absurd (omega arith)
  values-first (a ∷ []) h = absurd (omega arith)
  values-first (a ∷ (b ∷ [])) h = absurd (omega arith)
  values-first (a ∷ (b ∷ (c ∷ l))) h =
      rw (take_all (length (a ∷ (b ∷ (c ∷ l))) - 2) (drop 2 (a ∷ (b ∷ (c ∷ l)))) (rw (length-drop 2 (a ∷ (b ∷ (c ∷ l)))) (omega arith)))
