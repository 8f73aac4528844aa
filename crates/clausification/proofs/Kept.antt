-- Two pools whose cells below n are the same, the first of which passes check 14: what a place below n says is the same in both.
--     operands-kept, pairs-kept     its operands, and a quantifier's list
--     clause-kept     whether it is a clause
--     find-kept       where a description stands below n
--     var-room        a variable's two cells stand below n too
--     free-kept, binding-kept     whether a variable is free there
-- Assumes nothing.
use Rattle.std.specs.Prelude.{Option, Some, None}
use Prim.Native.Nat.{ℕ, zero, suc, ◌+◌, ◌≤◌, ◌<◌, ◌%◌}
use mathlib.Core.Path.{◌≡◌, refl, sym, ap, fun_ext, ◌∙◌}
use mathlib.Core.Bool.{Bool, false, cond}
use mathlib.Core.List.{List, [], ◌∷◌}
use lib.ListN.{get_or, drop}
use lib.Dec.{ltb}
use native.Mathlib.Omega.{arith}
use borrow.Author.Tests.{ltb-true, ltb-false, eqb-true, eq-eqb}
use Rattle.cells.specs.Cell.{cells_of, sort_of, operands_of, is_at}
use Rattle.cells.specs.ByPlace.{by-test, by_place-is}
use Rattle.cells.proofs.Cells.{same_refl}
use Rattle.cells.proofs.Walks.{first-end, first_below, found-holds}
use Rattle.headers.specs.WellFormed.{shape_of, count_fits, kind_at, first_bad}
use Rattle.descriptions.specs.Description.{find}
use Rattle.headers.specs.declared.well_formed.Shape.TheVariants.{Let}
use Rattle.headers.specs.declared.well_formed.CellKind.TheVariants.{OfTerm}
use Rattle.descriptions.proofs.description.Fills.{or_else, well-formed-fills}
use Rattle.descriptions.proofs.description.Growth.{Same, at_same, find-grown}
use Rattle.free_variables.specs.Free.{pair_in, bound_by, let_binds, free_step, is_free}
use Rattle.meaning.proofs.trees.Header.{Header, header, Each, Described, term-cell}
use Rattle.meaning.proofs.trees.Walk.{place-fits, place-described}
use Rattle.meaning.proofs.trees.Parts.{pair-second, from-two}
use Rattle.meaning.proofs.trees.Terms.{even-rest}
use Rattle.meaning.proofs.places.SameTree.{at_true}
use Rattle.bindings.specs.Binding.{Binding}
use Rattle.free_pairs.specs.BindingFree.{binding_free, free_at}
use Rattle.formulas.specs.PatternAnswer.{pairs_of}
use Rattle.clausification.specs.QntCnf.{is_clause}

module _ (n : ℕ) (tags values tags' values' : List ℕ) (s : Same n tags values tags' values') (formed : first_bad tags values n ≡ None) where
  header-here : (t : ℕ) → t < n → (get_or tags t 0 ≡ 0 → ⊥) → Header tags values n t
  header-here t h k = header tags values n t (place-fits tags values n formed t h k)

  cells-kept : (t : ℕ) → t < n → (get_or tags t 0 ≡ 0 → ⊥) → cells_of values' t ≡ cells_of values t
  unfolding is_at
  cells-kept t h k =
      let here = header-here t h k in
      (at_true tags' values' t (get_or tags t 0) (cells_of values t)
      (at_same n tags values tags' values' s t h (omega (arith, here.below)) (get_or tags t 0) (cells_of values t)
      ∙ rw (eq-eqb (get_or tags t 0) (get_or tags t 0) refl) (same_refl (cells_of values t)))).1

  -- ---- forms
  -- a cell between headers has tag 0, and so no operands
  pub operands-kept : (t : ℕ) → t < n → operands_of tags' values' t ≡ operands_of tags values t
  unfolding operands_of
  operands-kept t h =
      by-test (ltb (get_or tags t 0) 22) (λ e. rw (s.tags-same t h, e))
      (λ e. rw (s.tags-same t h, cells-kept t h (λ z. omega (arith, ltb-false (get_or tags t 0) 22 e))))

  pub pairs-kept : (t : ℕ) → t < n → pairs_of tags' values' t ≡ pairs_of tags values t
  unfolding pairs_of
  pairs-kept t h = rw (operands-kept t h)

  pub clause-kept : (t : ℕ) → t < n → (c : List ℕ) → is_clause tags' values' t c ≡ is_clause tags values t c
  unfolding is_clause
  clause-kept t h c = rw (s.tags-same t h, operands-kept t h)

  -- ---- descriptions
  pub find-kept : (tag : ℕ) (cells : List ℕ) → find tags' values' n tag cells ≡ find tags values n tag cells
  find-kept tag cells =
      find-grown n tags values tags' values' s n tag cells (omega arith) (well-formed-fills tags values n formed)
      ∙ rw (← first-end values' n (λ q. is_at tags' values' q tag cells) _ n refl (omega arith)) (itself (find tags values n tag cells))
    where
      itself : (f : Option ℕ) → or_else f None ≡ f
      itself (Some p) = refl
      itself None = refl

  -- ---- free variables
  sort-kept : (u : ℕ) → u + 1 < n → sort_of values' u ≡ sort_of values u
  unfolding sort_of
  sort-kept u h = s.values_same (u + 1) h

  -- the names of a let with their values' sorts: a value stands before the let
  lets-kept : (name sort t j : ℕ) (cs : List ℕ) → t < n → 2 ≤ j → j % 2 ≡ 0 → Each tags t Let j cs
      → pair_in (sort_of values') name sort cs ≡ pair_in (sort_of values) name sort cs
  unfolding pair_in kind_at
  lets-kept name sort t j [] h l e f = refl
  lets-kept name sort t j (a ∷ []) h l e f = refl
  lets-kept name sort t j (a ∷ (u ∷ cs)) h l e f =
      let (m, k) = term-cell tags t u (rw (pair-second OfTerm j l e) at f.1.0) in
      rw (sort-kept u (omega arith), lets-kept name sort t (suc (suc j)) cs h (omega arith) (omega arith) f.1.1)

  -- a variable has two cells
  pub var-room : (v : ℕ) → v < n → get_or tags v 0 ≡ 21 → v + 2 < n
  unfolding count_fits shape_of
  var-room v h e =
      let here = header-here v h (λ z. omega arith) in
      omega (arith, here.below, eqb-true (get_or values v 0) 2 (rw e at here.count))

  module _ (v : ℕ) (room : v + 2 < n) where
    let-kept : (t : ℕ) → t < n → get_or tags t 0 ≡ 27 → let_binds values' v (operands_of tags values t) ≡ let_binds values v (operands_of tags values t)
    unfolding let_binds operands_of count_fits shape_of
    let-kept t h e =
        let here : Described tags values t = place-described tags values n formed s.long t h (λ z. omega arith) in
        rw (e, s.values_same (v + 2) room, sort-kept v (omega arith))
        (from-two (λ (cells : List ℕ). Each tags t Let 0 cells
        → pair_in (sort_of values') (get_or values (v + 2) 0) (sort_of values v) (drop 1 (drop 1 cells))
        ≡ pair_in (sort_of values) (get_or values (v + 2) 0) (sort_of values v) (drop 1 (drop 1 cells)))
        (λ a b cs f. lets-kept (get_or values (v + 2) 0) (sort_of values v) t 2 cs h (omega arith) refl f.1.1)
        (cells_of values t) (even-rest _ (rw e at here.count)).0 (rw e at here.each-cell))

    step_kept : (t : ℕ) → t < n → (rec : ℕ → Bool) → free_step tags' values' v t rec ≡ free_step tags values v t rec
    unfolding free_step bound_by
    step_kept t h rec =
        rw (s.tags-same t h, operands-kept t h, s.values_same (v + 2) room, sort-kept v (omega arith))
        (by-test (ltb (get_or tags t 0) 27) (λ e. rw e)
        (λ e. by-test (ltb (get_or tags t 0) 28)
        (λ o. rw (e, o, let-kept t h (omega (arith, ltb-false (get_or tags t 0) 27 e, ltb-true (get_or tags t 0) 28 o))))
        (λ o. rw (e, o))))

    free-below : (d t : ℕ) → t < d → t < n → is_free tags' values' v t ≡ is_free tags values v t
    unfolding is_free
    free-below zero t f h = absurd (omega arith)
    free-below (suc d) t f h =
        by_place-is (free_step tags' values' v) false t
        ∙ (ap (free_step tags' values' v t)
        (fun_ext (λ u. by-test (ltb u t) (λ e. rw e (free-below d u (omega (arith, ltb-true u t e)) (omega (arith, ltb-true u t e)))) (λ e. rw e)))
        ∙ (step_kept t h (λ u. cond (ltb u t) (is_free tags values v u) false)
        ∙ sym (by_place-is (free_step tags values v) false t)))

    pub free-kept : (t : ℕ) → t < n → is_free tags' values' v t ≡ is_free tags values v t
    free-kept t = free-below (suc t) t (omega arith)

  pub binding-kept : (t : ℕ) → t < n → (a : Binding) → binding_free tags' values' n t a ≡ binding_free tags values n t a
  unfolding binding_free find
  binding-kept t h a = rw (find-kept 21 (a.sort ∷ a.name ∷ [])) (at (find tags values n 21 (a.sort ∷ a.name ∷ [])) refl)
    where
      at : (f : Option ℕ) → find tags values n 21 (a.sort ∷ a.name ∷ []) ≡ f → free_at tags' values' t f ≡ free_at tags values t f
      at (Some v) e =
          free-kept v (var-room v (first_below values n (λ q. is_at tags values q 21 (a.sort ∷ a.name ∷ [])) v e)
          (at_true tags values v 21 (a.sort ∷ a.name ∷ []) (found-holds values n (λ q. is_at tags values q 21 (a.sort ∷ a.name ∷ [])) v e)).0) t h
      at None e = refl
