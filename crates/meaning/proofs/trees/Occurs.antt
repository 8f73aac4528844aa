-- A variable that is free in a term stands in the pool, if the pool passes check 14.
-- Assumes nothing.
use Prim.Native.Nat.{ℕ, zero, suc, ◌≤◌, ◌<◌, ◌%◌}
use mathlib.Core.Path.{◌≡◌, refl}
use mathlib.Core.Bool.{true, false, not, ◌&&◌}
use mathlib.Core.List.{List, [], ◌∷◌}
use lib.ListN.{length, get_or, drop}
use lib.Dec.{eqb}
use native.Mathlib.Omega.{arith}
use borrow.Author.Tests.{eqb-true, eqb-false, leb-true}
use Rattle.cells.specs.Cell.{cells_of}
use Rattle.cells.specs.ByPlace.{by-test}
use Rattle.headers.specs.WellFormed.{shape_of, count_fits, kind_at, pair_kind, value_fits, is_term_tag, first_bad}
use Rattle.meaning.specs.Term.{Var, Vars, Var-discrete}
use Rattle.meaning.specs.Tree.{sort_tree, vars_of, terms_of, lets_of, term_from, tree}
use Rattle.meaning.specs.FreeTree.{is_yes, same, has, let_vars, free, frees, free_values, var_at}
use Rattle.std.specs.Prelude.{None}
use Rattle.headers.specs.declared.well_formed.Shape.{Shape}
use Rattle.headers.specs.declared.well_formed.Shape.TheVariants.{Application, Let, Operator}
use Rattle.headers.specs.declared.well_formed.CellKind.TheVariants.{OfTerm}
use Rattle.meaning.proofs.trees.Header.{both, Each, Described, term-cell, term-tagged}
use Rattle.meaning.proofs.trees.Walk.{place-described}
use Rattle.meaning.proofs.trees.Tags.{shape-op, by-term-tag}
use Rattle.meaning.proofs.trees.Parts.{not_first, pair-second, from_one, from-two}
use Rattle.meaning.proofs.trees.Terms.{term_is, term-op, even-rest}
use Rattle.meaning.proofs.trees.Stated.{var-is}

-- the place of a variable
pub record Stands (tags values : List ℕ) (n : ℕ) (v : Var) : Type 0 where
  pub place : ℕ
  pub below : place < n
  pub tag : get_or tags place 0 ≡ 21
  pub is : var_at tags values place ≡ v

never : {A : Type 0} → false ≡ true → A
never e = let z : ◌≡◌ {A = ℕ} 0 1 = cc in absurd (omega arith)

same-yes : {A : Type 0} (d : Dec A) → is_yes d ≡ true → A
unfolding is_yes
same-yes (yes a) e = a
same-yes (no n) e = never e

module _ (tags values : List ℕ) (n : ℕ) (whole : n ≤ length values) (formed : first_bad tags values n ≡ None) (v : Var) where
  abbrev Found : Type 0
  Found = Stands tags values n v

  -- ---- in the cells of the term at t, where it is so of the terms before t
  module _ (t : ℕ) (before : (u : ℕ) → u < t → is_term_tag (get_or tags u 0) ≡ true → free (tree tags values u) v ≡ true → Found) where
    in_cell : (u : ℕ) → value_fits tags t OfTerm u ≡ true → free (tree tags values u) v ≡ true → Found
    in_cell u f = before u (term-cell tags t u f).0 (term-cell tags t u f).1

    in_cells : (shape : Shape) (j : ℕ) (cs : List ℕ) → ((i : ℕ) → j ≤ i → kind_at shape i ≡ OfTerm) → Each tags t shape j cs
        → frees (terms_of (tree tags values) cs) v ≡ true → Found
    unfolding free terms_of
    in_cells shape j [] k f e = never e
    in_cells shape j (c ∷ cs) k f e =
        by-test (free (tree tags values c) v) (λ o. in_cell c (rw (k j (omega arith)) at f.0) o)
        (λ o. in_cells shape (suc j) cs (λ i l. k i (omega arith)) f.1 (rw o at e))

    -- in a body under a binder's variables
    under : (us : Vars) (b : ℕ) → value_fits tags t OfTerm b ≡ true → (not (has us v) && free (tree tags values b) v) ≡ true → Found
    under us b f e = in_cell b f (both (not (has us v)) _ e).1

    -- in a let's values
    in-values : (j : ℕ) (cs : List ℕ) → 2 ≤ j → j % 2 ≡ 0 → Each tags t Let j cs → free_values (lets_of (tree tags values) cs) v ≡ true → Found
    unfolding free lets_of kind_at
    in-values j [] l p f e = never e
    in-values j (a ∷ []) l p f e = never e
    in-values j (a ∷ (u ∷ cs)) l p f e =
        by-test (free (tree tags values u) v) (λ o. in_cell u (rw (pair-second OfTerm j l p) at f.1.0) o)
        (λ o. in-values (suc (suc j)) cs (omega arith) (omega arith) f.1.1 (rw o at e))

    abbrev Occurs : ℕ → List ℕ → Type 0
    Occurs k cells = Each tags t (shape_of k) 0 cells → free (term_from k cells (sort_tree tags values) (tree tags values)) v ≡ true → Found

    occurs-op : (cells : List ℕ) (k : ℕ) → 32 ≤ k → k < 167 → count_fits (shape_of k) (length cells) ≡ true → Occurs k cells
    unfolding free count_fits kind_at
    occurs-op cells k l m c f e =
        from_one (λ cs. Each tags t Operator 0 cs → frees (terms_of (tree tags values) (drop 1 cs)) v ≡ true → Found)
        (λ s cs g. in_cells Operator 1 cs (λ i j. not_first _ _ i j) g.1)
        cells (leb-true 1 (length cells) (rw (shape-op k l m) at c)) (rw (shape-op k l m) at f)
        (rw (term-op (sort_tree tags values) (tree tags values) k cells l m) at e)

    occurs : (cells : List ℕ) (k : ℕ) → is_term_tag k ≡ true → (k ≡ 21 → ⊥) → count_fits (shape_of k) (length cells) ≡ true → Occurs k cells
    unfolding free term_from shape_of count_fits kind_at pair_kind
    occurs cells k m o c =
        by-term-tag (λ k. (k ≡ 21 → ⊥) → count_fits (shape_of k) (length cells) ≡ true → Occurs k cells)
        (λ o c f. never)
        (λ o c f. never)
        (λ o c f. never)
        (λ o c f. never)
        (λ o c f. never)
        (λ o. absurd (o refl))
        (λ o c. from-two (Occurs 22)
        (λ s g cs f e. by-test (free (tree tags values g) v) (λ y. in_cell g f.1.0 y)
        (λ y. in_cells Application 2 cs (λ i l. not_first _ _ i (omega arith)) f.1.1 (rw y at e)))
        cells (leb-true _ _ c))
        (λ o c. from-two (Occurs 23) (λ s b cs f. under (vars_of (sort_tree tags values) cs) b f.1.0) cells (even-rest _ c).0)
        (λ o c. from-two (Occurs 24) (λ s b cs f. under (vars_of (sort_tree tags values) cs) b f.1.0) cells (even-rest _ c).0)
        (λ o c. from-two (Occurs 25) (λ s b cs f. under (vars_of (sort_tree tags values) cs) b f.1.0) cells (even-rest _ c).0)
        (λ o c. from-two (Occurs 26) (λ s b cs f. under (vars_of (sort_tree tags values) cs) b f.1.0) cells (even-rest _ c).0)
        (λ o c. from-two (Occurs 27)
        (λ s b cs f e. by-test (free_values (lets_of (tree tags values) cs) v) (λ y. in-values 2 cs (omega arith) refl f.1.1 y)
        (λ y. under (let_vars (lets_of (tree tags values) cs)) b f.1.0 (rw y at e)))
        cells (even-rest _ c).0)
        (λ k l m o. occurs-op cells k l m)
        k (length cells) m c o c

  stands-below : (d t : ℕ) → t < d → t < n → is_term_tag (get_or tags t 0) ≡ true → free (tree tags values t) v ≡ true → Found
  unfolding free same
  stands-below zero t f h k e = absurd (omega arith)
  stands-below (suc d) t f h k e =
      by-test (eqb (get_or tags t 0) 21)
      (λ o. let tag : get_or tags t 0 ≡ 21 = eqb-true _ _ o in
      record { place = t; below = h; tag = tag; is = same-yes (Var-discrete (var_at tags values t) v) (rw (var-is tags values n whole formed t h tag) at e) })
      (λ o. occurs t (λ u l m. stands-below d u (omega arith) (omega arith) m) (cells_of values t) (get_or tags t 0) k (eqb-false _ _ o)
      here.count here.each-cell (rw (term_is tags values n whole formed t h k) at e))
    where
      here : Described tags values t
      here = place-described tags values n formed whole t h (term-tagged _ k)

  pub stands : (t : ℕ) → t < n → is_term_tag (get_or tags t 0) ≡ true → free (tree tags values t) v ≡ true → Found
  stands t = stands-below (suc t) t (omega arith)
