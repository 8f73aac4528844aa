-- The list of free variables by place is that of the tree, in a pool that passes its checks; t is a term's place.
--     occurrences-list     the places of the free occurrences are those of variables, and have the variables of the tree's occurrences
--     list-of-tree         the same without later repeats: the places of the tree's free variables in order of appearance
--     list-free            a variable's place is in the list exactly if the variable is free in the tree
--     list-starts          no place in the list is 0, so that a list that is written before zeroes ends at its first 0
--     list-fits            the list has at most n places
-- Assumes nothing.
use Rattle.std.specs.Prelude.{None}
use Prim.Native.Nat.{ℕ, zero, suc, ◌≤◌, ◌<◌, ◌%◌}
use mathlib.Core.Path.{◌≡◌, refl, sym, ap, ap₂, ◌∙◌}
use mathlib.Core.Bool.{Bool, true, cond}
use mathlib.Core.List.{List, [], ◌∷◌, ◌++◌, map, map-append}
use lib.ListN.{length, get_or, drop}
use lib.Dec.{ltb, eqb}
use native.Mathlib.Omega.{arith}
use borrow.Author.Tests.{eqb-true, eqb-false, leb-true, lt-ltb, le-ltb}
use Rattle.cells.specs.Cell.{cells_of, operands_of}
use Rattle.cells.specs.ByPlace.{by-test, by_place-is}
use Rattle.headers.specs.WellFormed.{shape_of, count_fits, kind_at, pair_kind, value_fits, is_term_tag, first_bad, bool_first, header_fits}
use Rattle.descriptions.specs.Description.{first_repeat}
use Rattle.free_variables.specs.Free.{bound_by, let_binds, values_in, let_values}
use Rattle.free_variables.specs.Once.{leave_out, firsts, among}
use Rattle.free_variables.specs.Appearing.{joined, occurrences_from, occurrences_step, occurrences_at, appearing_at}
use Rattle.free_variables.proofs.appearing.Listed.{listed-at, listed-var, listed-few}
use Rattle.meaning.specs.Term.{Var, Vars, Term}
use Rattle.meaning.specs.Tree.{sort_tree, vars_of, terms_of, lets_of, term_from, tree}
use Rattle.meaning.specs.FreeTree.{same, has, let_vars, free, var_at}
use Rattle.meaning.specs.Occurrences.{occurrences, occurrences_of, occurrences_in, appearing}
use Rattle.headers.specs.declared.well_formed.Shape.{Shape}
use Rattle.headers.specs.declared.well_formed.Shape.TheVariants.{Application, Binder, Let, Operator}
use Rattle.headers.specs.declared.well_formed.CellKind.TheVariants.{OfTerm}
use Rattle.meaning.proofs.trees.Header.{both, Each, Described, term-cell, term-tagged}
use Rattle.meaning.proofs.trees.Walk.{place-described, place-fits}
use Rattle.meaning.proofs.trees.Tags.{shape-op, by-term-tag}
use Rattle.meaning.proofs.trees.Parts.{not_first, pair-second, from_one, from-two}
use Rattle.meaning.proofs.trees.Terms.{term_is, term-op, even-rest}
use Rattle.meaning.proofs.trees.Stated.{var-is}
use Rattle.meaning.proofs.trees.Free.{var-same, vars-has, lets-has}
use Rattle.meaning.proofs.trees.Passed.{Passed, free-of-tree}

-- places of variables among n cells
abbrev pub IsVar : List ℕ → ℕ → ℕ → Type 0
IsVar tags n p = (p < n) × (get_or tags p 0 ≡ 21)

abbrev pub AllVars : List ℕ → ℕ → List ℕ → Type 0
AllVars tags n [] = Unit {0}
AllVars tags n (p ∷ ps) = IsVar tags n p × AllVars tags n ps

-- a list of places of variables, and the variables that stand there
pub record Agrees (tags values : List ℕ) (n : ℕ) (ps : List ℕ) (xs : Vars) : Type 0 where
  pub places : AllVars tags n ps
  pub vars : map (var_at tags values) ps ≡ xs

module _ (tags values : List ℕ) (n : ℕ) where
  abbrev vat : ℕ → Var
  vat = var_at tags values

  abbrev All : List ℕ → Type 0
  All ps = AllVars tags n ps

  all_append : (ps qs : List ℕ) → All ps → All qs → All (ps ++ qs)
  all_append [] qs a b = b
  all_append (p ∷ ps) qs a b = (a.0, all_append ps qs a.1 b)

  agrees-append : {ps qs : List ℕ} {xs ys : Vars} → Agrees tags values n ps xs → Agrees tags values n qs ys → Agrees tags values n (ps ++ qs) (xs ++ ys)
  agrees-append {ps} {qs} a b =
      record { places = all_append ps qs a.places b.places; vars = map-append vat ps qs ∙ ap₂ ◌++◌ a.vars b.vars }

  -- a test by place that is one of the variable
  module _ (test : ℕ → Bool) (of : Var → Bool) (is : (v : ℕ) → IsVar tags n v → test v ≡ of (var_at tags values v)) where
    all-leave_out : (ps : List ℕ) → All ps → All (leave_out test ps)
    unfolding leave_out
    all-leave_out [] a = tt
    all-leave_out (p ∷ ps) a = by-test (test p) (λ e. rw e (all-leave_out ps a.1)) (λ e. rw e (a.0, all-leave_out ps a.1))

    map-leave_out : (ps : List ℕ) → All ps → map vat (leave_out test ps) ≡ leave_out of (map vat ps)
    unfolding leave_out
    map-leave_out [] a = refl
    map-leave_out (p ∷ ps) a =
        by-test (test p)
        (λ e. rw (e, sym (is p a.0) ∙ e) (map-leave_out ps a.1))
        (λ e. rw (e, sym (is p a.0) ∙ e) (ap (λ (l : Vars). vat p ∷ l) (map-leave_out ps a.1)))

  agrees-without : (test : ℕ → Bool) (vs : Vars) → ((v : ℕ) → IsVar tags n v → test v ≡ has vs (var_at tags values v))
      → {ps : List ℕ} {xs : Vars} → Agrees tags values n ps xs → Agrees tags values n (leave_out test ps) (leave_out (has vs) xs)
  agrees-without test vs is {ps} a =
      record { places = all-leave_out test (has vs) is ps a.places; vars = map-leave_out test (has vs) is ps a.places ∙ ap (leave_out (has vs)) a.vars }

module _ (tags values : List ℕ) (n : ℕ) (whole : n ≤ length values) (formed : first_bad tags values n ≡ None) (single : first_repeat tags values n ≡ None) where
  abbrev Agree : List ℕ → Vars → Type 0
  Agree ps xs = Agrees tags values n ps xs

  abbrev tm : ℕ → Term
  tm = tree tags values

  none : Agree [] []
  none = record { places = tt; vars = refl }

  -- a variable
  variable : (t : ℕ) → t < n → get_or tags t 0 ≡ 21 → (run : List ℕ) (rec : ℕ → List ℕ) → Agree (occurrences_from values t (get_or tags t 0) run rec) (occurrences (tm t))
  unfolding occurrences_from occurrences
  variable t h e run rec = rw (var-is tags values n whole formed t h e, e) (record { places = ((h, e), tt); vars = refl })

  -- ---- the cells of the term at t, where rec is right before t
  module _ (t : ℕ) (h : t < n) (rec : ℕ → List ℕ) (right : (u : ℕ) → u < t → is_term_tag (get_or tags u 0) ≡ true → Agrees tags values n (rec u) (occurrences (tree tags values u))) where
    right-cell : (u : ℕ) → value_fits tags t OfTerm u ≡ true → Agree (rec u) (occurrences (tm u))
    right-cell u f = right u (term-cell tags t u f).0 (term-cell tags t u f).1

    right-cells : (shape : Shape) (j : ℕ) (cs : List ℕ) → ((i : ℕ) → j ≤ i → kind_at shape i ≡ OfTerm) → Each tags t shape j cs
        → Agree (joined rec cs) (occurrences_of (terms_of tm cs))
    unfolding joined occurrences terms_of
    right-cells shape j [] k f = none
    right-cells shape j (c ∷ cs) k f =
        agrees-append tags values n (right-cell c (rw (k j (omega arith)) at f.0)) (right-cells shape (suc j) cs (λ i l. k i (omega arith)) f.1)

    right-values : (j : ℕ) (cs : List ℕ) → 2 ≤ j → j % 2 ≡ 0 → Each tags t Let j cs → Agree (joined rec (values_in cs)) (occurrences_in (lets_of tm cs))
    unfolding joined values_in occurrences lets_of kind_at
    right-values j [] l e f = none
    right-values j (a ∷ []) l e f = none
    right-values j (a ∷ (u ∷ cs)) l e f =
        agrees-append tags values n (right-cell u (rw (pair-second OfTerm j l e) at f.1.0)) (right-values (suc (suc j)) cs (omega arith) (omega arith) f.1.1)

    under-vars : (b : ℕ) (cs : List ℕ) → value_fits tags t OfTerm b ≡ true → Each tags t Binder 2 cs
        → Agree (leave_out (λ v. bound_by values v (b ∷ cs)) (rec b)) (leave_out (has (vars_of (sort_tree tags values) cs)) (occurrences (tm b)))
    unfolding bound_by
    under-vars b cs f g =
        agrees-without tags values n (λ v. bound_by values v (b ∷ cs)) (vars_of (sort_tree tags values) cs)
        (λ v i. vars-has tags values n whole formed single v i.0 i.1 t h 2 cs (omega arith) refl g) (right-cell b f)

    under-lets : (b : ℕ) (cs : List ℕ) → value_fits tags t OfTerm b ≡ true → Each tags t Let 2 cs
        → Agree (leave_out (λ v. let_binds values v (b ∷ cs)) (rec b)) (leave_out (has (let_vars (lets_of tm cs))) (occurrences (tm b)))
    unfolding let_binds
    under-lets b cs f g =
        agrees-without tags values n (λ v. let_binds values v (b ∷ cs)) (let_vars (lets_of tm cs))
        (λ v i. lets-has tags values n whole formed single v i.0 i.1 t h 2 cs (omega arith) refl g) (right-cell b f)

    abbrev Right : ℕ → List ℕ → Type 0
    Right k cells = Each tags t (shape_of k) 0 cells → Agree (occurrences_from values t k (drop 1 cells) rec) (occurrences (term_from k cells (sort_tree tags values) tm))

    right-op : (cells : List ℕ) (k : ℕ) → 32 ≤ k → k < 167 → count_fits (shape_of k) (length cells) ≡ true → Right k cells
    unfolding occurrences_from occurrences count_fits kind_at
    right-op cells k l m c f =
        rw (term-op (sort_tree tags values) tm k cells l m, le-ltb k 21 (omega arith), le-ltb k 22 (omega arith), le-ltb k 23 (omega arith), le-ltb k 27 (omega arith), le-ltb k 28 (omega arith))
        (from_one (λ cs. Each tags t Operator 0 cs → Agree (joined rec (drop 1 cs)) (occurrences_of (terms_of tm (drop 1 cs))))
        (λ s cs g. right-cells Operator 1 cs (λ i j. not_first _ _ i j) g.1)
        cells (leb-true 1 (length cells) (rw (shape-op k l m) at c)) (rw (shape-op k l m) at f))

    right-at : (cells : List ℕ) (k : ℕ) → is_term_tag k ≡ true → (k ≡ 21 → ⊥) → count_fits (shape_of k) (length cells) ≡ true → Right k cells
    unfolding occurrences_from occurrences term_from shape_of count_fits kind_at pair_kind joined let_values
    right-at cells k m o c =
        by-term-tag (λ k. (k ≡ 21 → ⊥) → count_fits (shape_of k) (length cells) ≡ true → Right k cells)
        (λ o c f. none)
        (λ o c f. none)
        (λ o c f. none)
        (λ o c f. none)
        (λ o c f. none)
        (λ o. absurd (o refl))
        (λ o c. from-two (Right 22) (λ s g cs f. agrees-append tags values n (right-cell g f.1.0) (right-cells Application 2 cs (λ i l. not_first _ _ i (omega arith)) f.1.1)) cells (leb-true _ _ c))
        (λ o c. from-two (Right 23) (λ s b cs f. under-vars b cs f.1.0 f.1.1) cells (even-rest _ c).0)
        (λ o c. from-two (Right 24) (λ s b cs f. under-vars b cs f.1.0 f.1.1) cells (even-rest _ c).0)
        (λ o c. from-two (Right 25) (λ s b cs f. under-vars b cs f.1.0 f.1.1) cells (even-rest _ c).0)
        (λ o c. from-two (Right 26) (λ s b cs f. under-vars b cs f.1.0 f.1.1) cells (even-rest _ c).0)
        (λ o c. from-two (Right 27) (λ s b cs f. agrees-append tags values n (right-values 2 cs (omega arith) refl f.1.1) (under-lets b cs f.1.0 f.1.1)) cells (even-rest _ c).0)
        (λ k l m o. right-op cells k l m)
        k (length cells) m c o c

    -- the operand run of a term with parts is the cells after its sort
    step_is : occurrences_step tags values t rec ≡ occurrences_from values t (get_or tags t 0) (drop 1 (cells_of values t)) rec
    unfolding occurrences_step occurrences_from operands_of
    step_is = by-test (ltb (get_or tags t 0) 22) (λ e. rw e) (λ e. rw e)

    right-here : is_term_tag (get_or tags t 0) ≡ true → Agree (occurrences_step tags values t rec) (occurrences (tm t))
    right-here k =
        by-test (eqb (get_or tags t 0) 21)
        (λ o. rw step_is (variable t h (eqb-true _ _ o) (drop 1 (cells_of values t)) rec))
        (λ o. rw (step_is, term_is tags values n whole formed t h k)
        (right-at (cells_of values t) (get_or tags t 0) k (eqb-false _ _ o) here.count here.each-cell))
      where
        here : Described tags values t
        here = place-described tags values n formed whole t h (term-tagged _ k)

  below : (d t : ℕ) → t < d → t < n → is_term_tag (get_or tags t 0) ≡ true → Agree (occurrences_at tags values t) (occurrences (tm t))
  unfolding occurrences_at
  below zero t f h k = absurd (omega arith)
  below (suc d) t f h k =
      rw (by_place-is (occurrences_step tags values) [] t)
      (right-here t h (λ u. cond (ltb u t) (occurrences_at tags values u) []) (λ u l m. rw (lt-ltb u t l) (below d u (omega arith) (omega arith) m)) k)

  occurrences-of-tree : (t : ℕ) → t < n → is_term_tag (get_or tags t 0) ≡ true → Agrees tags values n (occurrences_at tags values t) (occurrences (tree tags values t))
  occurrences-of-tree t = below (suc t) t (omega arith)

  -- ---- without later repeats
  same-at : (p : ℕ) → IsVar tags n p → (v : ℕ) → IsVar tags n v → eqb p v ≡ same (var_at tags values p) (var_at tags values v)
  same-at p i v j = var-same tags values n whole formed single v j.0 j.1 p i.0 i.1

  all_firsts : (ps : List ℕ) → AllVars tags n ps → AllVars tags n (firsts eqb ps)
  unfolding firsts
  all_firsts [] a = tt
  all_firsts (p ∷ ps) a =
      (a.0, all-leave_out tags values n (eqb p) (same (var_at tags values p)) (same-at p a.0) (firsts eqb ps) (all_firsts ps a.1))

  map-firsts : (ps : List ℕ) → AllVars tags n ps → map (var_at tags values) (firsts eqb ps) ≡ firsts same (map (var_at tags values) ps)
  unfolding firsts
  map-firsts [] a = refl
  map-firsts (p ∷ ps) a =
      ap (λ (l : Vars). var_at tags values p ∷ l)
      (map-leave_out tags values n (eqb p) (same (var_at tags values p)) (same-at p a.0) (firsts eqb ps) (all_firsts ps a.1)
      ∙ ap (leave_out (same (var_at tags values p))) (map-firsts ps a.1))

  appearing-of-tree : (t : ℕ) → t < n → is_term_tag (get_or tags t 0) ≡ true → Agrees tags values n (appearing_at tags values t) (appearing (tree tags values t))
  unfolding appearing_at appearing
  appearing-of-tree t h k =
      let a : Agree (occurrences_at tags values t) (occurrences (tm t)) = occurrences-of-tree t h k in
      record { places = all_firsts (occurrences_at tags values t) a.places; vars = map-firsts (occurrences_at tags values t) a.places ∙ ap (firsts same) a.vars }

-- ---- in a pool that passes its checks
module _ {tags values rules : List ℕ} {n : ℕ} (c : Passed tags values rules n) where
  pub occurrences-list : (t : ℕ) → t < n → is_term_tag (get_or tags t 0) ≡ true → Agrees tags values n (occurrences_at tags values t) (occurrences (tree tags values t))
  occurrences-list = occurrences-of-tree tags values n c.whole c.formed c.single

  pub list-of-tree : (t : ℕ) → t < n → is_term_tag (get_or tags t 0) ≡ true → Agrees tags values n (appearing_at tags values t) (appearing (tree tags values t))
  list-of-tree = appearing-of-tree tags values n c.whole c.formed c.single

  pub list-free : (v : ℕ) → v < n → get_or tags v 0 ≡ 21 → (t : ℕ) → t < n → is_term_tag (get_or tags t 0) ≡ true
      → among eqb (appearing_at tags values t) v ≡ free (tree tags values t) (var_at tags values v)
  list-free v hv e t h k = listed-at tags values v e t ∙ free-of-tree c v hv e t h k

  pub list-starts : (v t : ℕ) → t < n → among eqb (appearing_at tags values t) v ≡ true → v ≡ 0 → ⊥
  unfolding header_fits bool_first
  list-starts v t h e z =
      let (tag, l) = listed-var tags values v t e in
      let zero-tag : get_or tags 0 0 ≡ 21 = rw z at tag in
      let fits : header_fits tags values n 0 ≡ true = place-fits tags values n c.formed 0 (omega arith) (λ y. omega arith) in
      let first : get_or tags 0 0 ≡ 1 = eqb-true (get_or tags 0 0) 1 (both (eqb (get_or tags 0 0) 1) _ fits).0 in
      omega arith

  pub list-fits : (t : ℕ) → t < n → length (appearing_at tags values t) ≤ n
  list-fits t h = omega (arith, listed-few tags values t)
