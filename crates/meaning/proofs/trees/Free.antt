-- Free variables by place are those of the tree: for a pool that passes checks 14 and 15, a variable's place v and a term's place t,
-- `is_free tags values v t` says whether the variable at v is free in the tree at t.
-- Assumes nothing.
use Rattle.std.specs.Prelude.{None}
use Prim.Native.Nat.{ℕ, zero, suc, ◌+◌, ◌≤◌, ◌<◌, ◌%◌}
use mathlib.Core.Path.{◌≡◌, refl, sym, ap, ap₂, ◌∙◌}
use mathlib.Core.Bool.{Bool, true, false, not, ◌&&◌, ◌||◌, cond}
use mathlib.Core.List.{List, [], ◌∷◌}
use lib.ListN.{length, get_or, drop}
use lib.Dec.{ltb, eqb}
use native.Mathlib.Omega.{arith}
use borrow.Author.Tests.{eqb-true, eqb-false, leb-true, eq-eqb, ne_eqb, lt-ltb, le-ltb}
use Rattle.cells.specs.Cell.{cells_of, sort_of, operands_of}
use Rattle.cells.specs.ByPlace.{by-test, by_place-is}
use Rattle.headers.specs.WellFormed.{shape_of, count_fits, kind_at, pair_kind, value_fits, is_sort_tag, is_term_tag, first_bad}
use Rattle.descriptions.specs.Description.{first_repeat}
use Rattle.free_variables.specs.Free.{pair_in, bound_by, let_binds, any_of, values_in, let_values, under_pairs, free_step, is_free}
use Rattle.meaning.specs.Term.{Var, Var-discrete, var}
use Rattle.meaning.specs.Tree.{sort_tree, vars_of, terms_of, lets_of, term_from, tree}
use Rattle.meaning.specs.FreeTree.{is_yes, same, has, let_vars, free, frees, free_values, var_at}
use Rattle.headers.specs.declared.well_formed.Shape.{Shape}
use Rattle.headers.specs.declared.well_formed.Shape.TheVariants.{Application, Binder, Let, Operator}
use Rattle.headers.specs.declared.well_formed.CellKind.TheVariants.{OfSort, OfTerm}
use Rattle.meaning.proofs.trees.Header.{both, Each, Described, sort-cell, term-cell, term-tagged}
use Rattle.meaning.proofs.trees.Walk.{place-described}
use Rattle.meaning.proofs.trees.Tags.{shape-op, by-term-tag}
use Rattle.meaning.proofs.trees.Parts.{not_first, pair-second, from_one, from-two}
use Rattle.meaning.proofs.trees.Sorts.{sort-one}
use Rattle.meaning.proofs.trees.Terms.{term_is, term-one, term-op, even-rest}
use Rattle.meaning.proofs.trees.Stated.{var-tag, sort-place, stated-is, var-is}

-- a test that decides a proposition
decides : {A : Type 0} (b : Bool) (d : Dec A) → (b ≡ true → A) → (A → b ≡ true) → b ≡ is_yes d
unfolding is_yes
decides b (yes a) f g = g a
decides true (no n) f g = absurd (n (f refl))
decides false (no n) f g = refl

-- a body under a binder that binds the variable or not
under : (b c x y : Bool) → b ≡ c → x ≡ y → cond b false x ≡ (not c && y)
under true c x y e f = rw (← e)
under false c x y e f = rw (← e, f)

-- ---- a walk down the cells, by the tag
module _ (values : List ℕ) (v : ℕ) (rec : ℕ → Bool) where
  below : ℕ → List ℕ → Bool
  below k cells =
      cond (ltb k 22) false
      (cond (ltb k 23) (any_of rec (drop 1 cells))
      (cond (ltb k 27) (under_pairs rec (bound_by values v (drop 1 cells)) (drop 1 cells))
      (cond (ltb k 28) (any_of rec (let_values (drop 1 cells)) || under_pairs rec (let_binds values v (drop 1 cells)) (drop 1 cells))
      (any_of rec (drop 1 cells)))))

  step_is : (tags : List ℕ) (t : ℕ) → free_step tags values v t rec ≡ cond (eqb t v) true (below (get_or tags t 0) (cells_of values t))
  unfolding free_step below operands_of
  step_is tags t = by-test (ltb (get_or tags t 0) 22) (λ e. rw e) (λ e. rw e)

module _ (tags values : List ℕ) (n : ℕ) (whole : n ≤ length values) (formed : first_bad tags values n ≡ None) (single : first_repeat tags values n ≡ None)
    (v : ℕ) (hv : v < n) (is_var : get_or tags v 0 ≡ 21) where
  -- a pair of the variable's name and sort
  pair_same : (a s : ℕ) → s < n → is_sort_tag (get_or tags s 0) ≡ true
      → (eqb a (get_or values (v + 2) 0) && eqb s (sort_of values v)) ≡ same (record { name = a; sort = sort_tree tags values s }) (var_at tags values v)
  unfolding same var_at
  pair_same a s h k =
      let (l, m) = sort-place tags values n whole formed v hv (var-tag _ is_var) in
      decides _ (Var-discrete (record { name = a; sort = sort_tree tags values s }) (var_at tags values v))
      (λ e. let p : a ≡ get_or values (v + 2) 0 = eqb-true _ _ (both (eqb a (get_or values (v + 2) 0)) _ e).0 in
      let q : s ≡ sort_of values v = eqb-true _ _ (both (eqb a (get_or values (v + 2) 0)) _ e).1 in
      λ i. record { name = p i; sort = sort_tree tags values (q i) })
      (λ e. let p : a ≡ get_or values (v + 2) 0 = ap (λ (w : Var). w.name) e in
      let q : s ≡ sort_of values v = sort-one tags values n whole formed single s (sort_of values v) h (omega arith) k m (ap (λ (w : Var). w.sort) e) in
      rw (eq-eqb _ _ p, eq-eqb _ _ q))

  -- another place is another variable
  pub var-same : (t : ℕ) → t < n → get_or tags t 0 ≡ 21 → eqb t v ≡ same (var_at tags values t) (var_at tags values v)
  unfolding same
  var-same t h e =
      decides (eqb t v) (Var-discrete (var_at tags values t) (var_at tags values v)) (λ o. ap (var_at tags values) (eqb-true t v o))
      (λ o. eq-eqb t v (term-one tags values n whole formed single t v h hv (var-tag _ e) (var-tag _ is_var)
      (var-is tags values n whole formed t h e ∙ (ap var o ∙ sym (var-is tags values n whole formed v hv is_var)))))

  -- ---- the pairs of the term at t bind the variable exactly if the list of its tree has it
  module _ (t : ℕ) (h : t < n) where
    pub vars-has : (j : ℕ) (cs : List ℕ) → 2 ≤ j → j % 2 ≡ 0 → Each tags t Binder j cs
        → pair_in (λ s. s) (get_or values (v + 2) 0) (sort_of values v) cs ≡ has (vars_of (sort_tree tags values) cs) (var_at tags values v)
    unfolding pair_in has vars_of kind_at
    vars-has j [] l e f = refl
    vars-has j (a ∷ []) l e f = refl
    vars-has j (a ∷ (s ∷ cs)) l e f =
        let (m, k) = sort-cell tags t s (rw (pair-second OfSort j l e) at f.1.0) in
        ap₂ ◌||◌ (pair_same a s (omega arith) k) (vars-has (suc (suc j)) cs (omega arith) (omega arith) f.1.1)

    pub lets-has : (j : ℕ) (cs : List ℕ) → 2 ≤ j → j % 2 ≡ 0 → Each tags t Let j cs
        → pair_in (sort_of values) (get_or values (v + 2) 0) (sort_of values v) cs ≡ has (let_vars (lets_of (tree tags values) cs)) (var_at tags values v)
    unfolding pair_in has let_vars lets_of kind_at
    lets-has j [] l e f = refl
    lets-has j (a ∷ []) l e f = refl
    lets-has j (a ∷ (u ∷ cs)) l e f =
        let (m, k) = term-cell tags t u (rw (pair-second OfTerm j l e) at f.1.0) in
        let (i, o) = sort-place tags values n whole formed u (omega arith) k in
        ap₂ ◌||◌ (rw (← stated-is tags values n whole formed u (omega arith) k) at (pair_same a (sort_of values u) (omega arith) o))
        (lets-has (suc (suc j)) cs (omega arith) (omega arith) f.1.1)

  -- ---- the cells of the term at t, where rec is right before t
  module _ (t : ℕ) (h : t < n) (rec : ℕ → Bool) (right : (u : ℕ) → u < t → is_term_tag (get_or tags u 0) ≡ true → rec u ≡ free (tree tags values u) (var_at tags values v)) where
    right-cell : (u : ℕ) → value_fits tags t OfTerm u ≡ true → rec u ≡ free (tree tags values u) (var_at tags values v)
    right-cell u f = right u (term-cell tags t u f).0 (term-cell tags t u f).1

    any-free : (shape : Shape) (j : ℕ) (cs : List ℕ) → ((i : ℕ) → j ≤ i → kind_at shape i ≡ OfTerm) → Each tags t shape j cs
        → any_of rec cs ≡ frees (terms_of (tree tags values) cs) (var_at tags values v)
    unfolding any_of free terms_of
    any-free shape j [] k f = refl
    any-free shape j (c ∷ cs) k f = ap₂ ◌||◌ (right-cell c (rw (k j (omega arith)) at f.0)) (any-free shape (suc j) cs (λ i l. k i (omega arith)) f.1)

    values-free : (j : ℕ) (cs : List ℕ) → 2 ≤ j → j % 2 ≡ 0 → Each tags t Let j cs
        → any_of rec (values_in cs) ≡ free_values (lets_of (tree tags values) cs) (var_at tags values v)
    unfolding any_of values_in free lets_of kind_at
    values-free j [] l e f = refl
    values-free j (a ∷ []) l e f = refl
    values-free j (a ∷ (u ∷ cs)) l e f =
        ap₂ ◌||◌ (right-cell u (rw (pair-second OfTerm j l e) at f.1.0)) (values-free (suc (suc j)) cs (omega arith) (omega arith) f.1.1)

    abbrev Right : ℕ → List ℕ → Type 0
    Right k cells = Each tags t (shape_of k) 0 cells → below values v rec k cells ≡ free (term_from k cells (sort_tree tags values) (tree tags values)) (var_at tags values v)

    right-op : (cells : List ℕ) (k : ℕ) → 32 ≤ k → k < 167 → count_fits (shape_of k) (length cells) ≡ true → Right k cells
    unfolding below free count_fits kind_at
    right-op cells k l m c f =
        rw (term-op (sort_tree tags values) (tree tags values) k cells l m, le-ltb k 22 (omega arith), le-ltb k 23 (omega arith), le-ltb k 27 (omega arith), le-ltb k 28 (omega arith))
        (from_one (λ cs. Each tags t Operator 0 cs → any_of rec (drop 1 cs) ≡ frees (terms_of (tree tags values) (drop 1 cs)) (var_at tags values v))
        (λ s cs g. any-free Operator 1 cs (λ i j. not_first _ _ i j) g.1)
        cells (leb-true 1 (length cells) (rw (shape-op k l m) at c)) (rw (shape-op k l m) at f))

    -- a body under the pairs of a binder
    under-vars : (b : ℕ) (cs : List ℕ) → value_fits tags t OfTerm b ≡ true → Each tags t Binder 2 cs
        → cond (pair_in (λ s. s) (get_or values (v + 2) 0) (sort_of values v) cs) false (rec b)
        ≡ (not (has (vars_of (sort_tree tags values) cs) (var_at tags values v)) && free (tree tags values b) (var_at tags values v))
    under-vars b cs f g = under _ _ _ _ (vars-has t h 2 cs (omega arith) refl g) (right-cell b f)

    right-at : (cells : List ℕ) (k : ℕ) → is_term_tag k ≡ true → (k ≡ 21 → ⊥) → count_fits (shape_of k) (length cells) ≡ true → Right k cells
    unfolding below free term_from shape_of count_fits kind_at pair_kind under_pairs bound_by let_binds let_values any_of
    right-at cells k m o c =
        by-term-tag (λ k. (k ≡ 21 → ⊥) → count_fits (shape_of k) (length cells) ≡ true → Right k cells)
        (λ o c f. refl)
        (λ o c f. refl)
        (λ o c f. refl)
        (λ o c f. refl)
        (λ o c f. refl)
        (λ o. absurd (o refl))
        (λ o c. from-two (Right 22) (λ s g cs f. ap₂ ◌||◌ (right-cell g f.1.0) (any-free Application 2 cs (λ i l. not_first _ _ i (omega arith)) f.1.1)) cells (leb-true _ _ c))
        (λ o c. from-two (Right 23) (λ s b cs f. under-vars b cs f.1.0 f.1.1) cells (even-rest _ c).0)
        (λ o c. from-two (Right 24) (λ s b cs f. under-vars b cs f.1.0 f.1.1) cells (even-rest _ c).0)
        (λ o c. from-two (Right 25) (λ s b cs f. under-vars b cs f.1.0 f.1.1) cells (even-rest _ c).0)
        (λ o c. from-two (Right 26) (λ s b cs f. under-vars b cs f.1.0 f.1.1) cells (even-rest _ c).0)
        (λ o c. from-two (Right 27) (λ s b cs f. ap₂ ◌||◌ (values-free 2 cs (omega arith) refl f.1.1) (under _ _ _ _ (lets-has t h 2 cs (omega arith) refl f.1.1) (right-cell b f.1.0))) cells (even-rest _ c).0)
        (λ k l m o. right-op cells k l m)
        k (length cells) m c o c

    right-here : is_term_tag (get_or tags t 0) ≡ true → free_step tags values v t rec ≡ free (tree tags values t) (var_at tags values v)
    unfolding below free
    right-here k =
        by-test (eqb (get_or tags t 0) 21)
        (λ o. let e : get_or tags t 0 ≡ 21 = eqb-true _ _ o in
        rw (step_is values v rec tags t, e, var-is tags values n whole formed t h e) (itself (eqb t v) ∙ var-same t h e))
        (λ o. let e : get_or tags t 0 ≡ 21 → ⊥ = eqb-false _ _ o in
        rw (step_is values v rec tags t, ne_eqb t v (λ z. e (rw z is_var)), term_is tags values n whole formed t h k)
        (right-at (cells_of values t) (get_or tags t 0) k e here.count here.each-cell))
      where
        itself : (b : Bool) → cond b true false ≡ b
        itself true = refl
        itself false = refl

        here : Described tags values t
        here = place-described tags values n formed whole t h (term-tagged _ k)

  free-below : (d t : ℕ) → t < d → t < n → is_term_tag (get_or tags t 0) ≡ true → is_free tags values v t ≡ free (tree tags values t) (var_at tags values v)
  unfolding is_free
  free-below zero t f h k = absurd (omega arith)
  free-below (suc d) t f h k =
      by_place-is (free_step tags values v) false t
      ∙ right-here t h (λ u. cond (ltb u t) (is_free tags values v u) false) (λ u l m. rw (lt-ltb u t l) (free-below d u (omega arith) (omega arith) m)) k

  -- v is free in the term at t by their places exactly where it is by their trees
  pub free-is : (t : ℕ) → t < n → is_term_tag (get_or tags t 0) ≡ true → is_free tags values v t ≡ free (tree tags values t) (var_at tags values v)
  free-is t = free-below (suc t) t (omega arith)
