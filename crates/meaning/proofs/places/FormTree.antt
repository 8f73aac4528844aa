-- The formula of a place is the formula of its tree.
--     form-tree       in a pool that passes check 14 and has one sort Bool
--     form-of-tree    in a pool that passes the pool check
-- `=` is read as a connective where its left states the sort at place 0, and of a tree where the left states Bool: Bool stands at place 0
-- alone.
-- Assumes nothing.
use Rattle.std.specs.Prelude.{None}
use Prim.Native.Nat.{ℕ, zero, suc, ◌≤◌, ◌<◌}
use mathlib.Core.Path.{◌≡◌, refl, ap, ap₂, sym, ◌∙◌}
use mathlib.Core.Bool.{Bool, true, false, not, cond, decide}
use mathlib.Core.List.{List, [], ◌∷◌}
use lib.ListN.{length, get_or, drop}
use lib.Dec.{ltb, eqb}
use native.Mathlib.Omega.{arith}
use borrow.Author.Tests.{lt-ltb, le-ltb, eqb-true, eq-eqb, ne_eqb, leb-true, not-false}
use Rattle.cells.specs.ByPlace.{by_place-is}
use Rattle.cells.specs.Place.{term_at}
use Rattle.cells.specs.Cell.{cells_of, sort_of, operands_of}
use Rattle.cells.specs.Headers.{first_header}
use Rattle.headers.specs.WellFormed.{shape_of, count_fits, kind_at, pair_kind, is_sort_tag, is_term_tag, bool_first, header_fits, first_bad}
use Rattle.headers.specs.declared.well_formed.Shape.TheVariants.{Operator}
use Rattle.meaning.specs.Sort.{Sort-discrete, bool}
use Rattle.meaning.specs.Term.{Vars, Term, stated}
use Rattle.meaning.specs.Tree.{sort_from, sort_tree, vars_of, terms_of, term_from, tree}
use Rattle.meaning.specs.SortTree.{form_of as form_of_sort}
use Rattle.meaning.proofs.trees.Header.{both, Each, Described, term-cell, term-tagged}
use Rattle.meaning.proofs.trees.Walk.{place-described}
use Rattle.cells.proofs.Walks.{passes}
use Rattle.meaning.proofs.trees.Tags.{shape-op, by-term-tag}
use Rattle.meaning.proofs.trees.Parts.{from_one, from-two}
use Rattle.meaning.proofs.trees.Sorts.{sort-is}
use Rattle.meaning.proofs.trees.Terms.{term_is, term-op, even-rest}
use Rattle.meaning.proofs.trees.Stated.{sort-place, stated-is}
use Rattle.meaning.proofs.trees.Forms.{tag_of}
use Rattle.meaning.proofs.trees.Passed.{Passed, one-sort}
use Rattle.formulas.specs.declared.kinds.ConnectiveKind.TheVariants.{And, Or}
use Rattle.formulas.specs.declared.kinds.QuantifierKind.{QuantifierKind}
use Rattle.formulas.specs.declared.kinds.QuantifierKind.TheVariants.{Forall, Exists}
use Rattle.formulas.specs.declared.view.View.{View}
use Rattle.formulas.specs.declared.view.View.TheVariants.{Opaque, Not, AndOr, Implies, Ite, Iff, Quantifier}
use Rattle.formulas.specs.Formula.{Form, opaque, neg, many, imp, ite, iff, all, fcons, is_forall, all_before, equality, connective, quantifier, view_of, forms_of, form_by, form}
use Rattle.formulas.specs.Mapped.{map_f, map_fs}
use Rattle.meaning.specs.Skeleton.{not_of, implies_of, ite_of, iff_of, form_of, left_bool, skeleton, skeletons}
use Rattle.meaning.proofs.places.Operands.{IsTerm, AllTerms, all-terms, all-before}

-- the variables of a quantifier's pairs of name and sort, and a formula over places as one over trees
abbrev pub vars_at : List ℕ → List ℕ → List ℕ → Vars
vars_at tags values = vars_of (sort_tree tags values)

abbrev pub on_trees : List ℕ → List ℕ → Form (List ℕ) ℕ → Form Vars Term
on_trees tags values = map_f (vars_at tags values) (tree tags values)

-- a test that decides a proposition
decides : {A : Type 0} (b : Bool) (d : Dec A) → (b ≡ true → A) → (A → b ≡ true) → b ≡ decide d
unfolding decide
decides b (yes a) f g = g a
decides true (no n) f g = absurd (n (f refl))
decides false (no n) f g = refl

-- "Cell 0 is the sort Bool."
pub first-bool : (tags values : List ℕ) (n : ℕ) → first_bad tags values n ≡ None → 0 < n → get_or tags 0 0 ≡ 1
unfolding first_bad first_header header_fits bool_first
first-bool tags values n formed h = eqb-true _ 1 (both (eqb (get_or tags 0 0) 1) _ (not-false _ (passes values n (λ p. not (header_fits tags values n p)) 0 h formed))).0

module _ (tags values : List ℕ) (n : ℕ) (whole : n ≤ length values) (formed : first_bad tags values n ≡ None) where
  pub bool-tree : (s : ℕ) → s < n → get_or tags s 0 ≡ 1 → sort_tree tags values s ≡ bool
  unfolding sort_from is_sort_tag
  bool-tree s h e = rw (sort-is tags values n whole formed s h (rw e), e)

module _ (tags values : List ℕ) (n : ℕ) (whole : n ≤ length values) (formed : first_bad tags values n ≡ None)
    (one_bool : (s : ℕ) → s < n → get_or tags s 0 ≡ 1 → s ≡ 0) where
  -- a term states the sort at place 0 exactly where it states Bool
  left_is : (u : ℕ) → u < n → is_term_tag (get_or tags u 0) ≡ true → eqb (sort_of values u) 0 ≡ decide (Sort-discrete (stated (tree tags values u)) bool)
  unfolding form_of_sort
  left_is u h k =
      let (l, m) = sort-place tags values n whole formed u h k in
      let is = stated-is tags values n whole formed u h k in
      decides _ (Sort-discrete (stated (tree tags values u)) bool)
      (λ e. let z : sort_of values u ≡ 0 = eqb-true _ 0 e in is ∙ rw z (bool-tree tags values n whole formed 0 (omega arith) (first-bool tags values n formed (omega arith))))
      (λ e. eq-eqb _ 0 (one_bool _ (omega arith) (sym (tag_of tags values n whole formed (sort_of values u) (omega arith, m)) ∙ ap (λ s. (form_of_sort s).tag) (sym is ∙ e))))

  -- ---- the term at t, where rec is right before t
  module _ (t : ℕ) (h : t < n) (rec : ℕ → Form (List ℕ) ℕ)
      (right : (u : ℕ) → u < t → is_term_tag (get_or tags u 0) ≡ true → on_trees tags values (rec u) ≡ skeleton (tree tags values u)) where
    right-at : (u : ℕ) → IsTerm tags t u → on_trees tags values (rec u) ≡ skeleton (tree tags values u)
    right-at u (l, k) = right u l k

    forms-are : (os : List ℕ) → AllTerms tags t os → map_fs (vars_at tags values) (tree tags values) (forms_of rec os) ≡ skeletons (terms_of (tree tags values) os)
    unfolding skeleton terms_of
    forms-are [] a = refl
    forms-are (u ∷ os) a = ap₂ fcons (right-at u a.0) (forms-are os a.1)

    -- read as v, with the operands os, the term has the formula f
    abbrev Reads : List ℕ → View → Form Vars Term → Type 0
    Reads os v f = on_trees tags values (form_by v t os rec) ≡ f

    either : (os : List ℕ) (b : Bool) (v w : View) (f g : Form Vars Term) → Reads os v f → Reads os w g → Reads os (cond b v w) (cond b f g)
    either os true v w f g y z = y
    either os false v w f g y z = z

    -- ---- connectives; x is the term's tree
    module _ (x : Term) (is : tree tags values t ≡ x) where
      itself : (os : List ℕ) → Reads os Opaque (opaque x)
      unfolding form_by
      itself os = ap opaque is

      not-reads : (os : List ℕ) → AllTerms tags t os
          → Reads os (cond (eqb (length os) 1) (Not (term_at (get_or os 0 0))) Opaque) (not_of x (skeletons (terms_of (tree tags values) os)))
      unfolding form_by not_of skeleton terms_of
      not-reads [] a = ap opaque is
      not-reads (u ∷ []) a = ap neg (right-at u a.0)
      not-reads (u ∷ (v ∷ os)) a = rw (ne_eqb (length (u ∷ (v ∷ os))) 1 (λ z. omega arith)) (ap opaque is)

      implies-reads : (os : List ℕ) → AllTerms tags t os
          → Reads os (cond (eqb (length os) 2) (Implies (term_at (get_or os 0 0)) (term_at (get_or os 1 0))) Opaque) (implies_of x (skeletons (terms_of (tree tags values) os)))
      unfolding form_by implies_of skeleton terms_of
      implies-reads [] a = ap opaque is
      implies-reads (u ∷ []) a = ap opaque is
      implies-reads (u ∷ (v ∷ [])) a = ap₂ imp (right-at u a.0) (right-at v a.1.0)
      implies-reads (u ∷ (v ∷ (w ∷ os))) a = rw (ne_eqb (length (u ∷ (v ∷ (w ∷ os)))) 2 (λ z. omega arith)) (ap opaque is)

      ite-reads : (os : List ℕ) → AllTerms tags t os
          → Reads os (cond (eqb (length os) 3) (Ite (term_at (get_or os 0 0)) (term_at (get_or os 1 0)) (term_at (get_or os 2 0))) Opaque) (ite_of x (skeletons (terms_of (tree tags values) os)))
      unfolding form_by ite_of skeleton terms_of
      ite-reads [] a = ap opaque is
      ite-reads (u ∷ []) a = ap opaque is
      ite-reads (u ∷ (v ∷ [])) a = ap opaque is
      ite-reads (u ∷ (v ∷ (w ∷ []))) a = λ i. ite (right-at u a.0 i) (right-at v a.1.0 i) (right-at w a.1.1.0 i)
      ite-reads (u ∷ (v ∷ (w ∷ (y ∷ os)))) a = rw (ne_eqb (length (u ∷ (v ∷ (w ∷ (y ∷ os))))) 3 (λ z. omega arith)) (ap opaque is)

      opaque-both : (b : Bool) → ◌≡◌ {A = Form Vars Term} (opaque x) (cond b (opaque x) (opaque x))
      opaque-both true = refl
      opaque-both false = refl

      equality-reads : (os : List ℕ) → AllTerms tags t os
          → Reads os (equality values os) (cond (left_bool (terms_of (tree tags values) os)) (iff_of x (skeletons (terms_of (tree tags values) os))) (opaque x))
      unfolding form_by equality iff_of skeleton terms_of left_bool
      equality-reads [] a = ap opaque is
      equality-reads (u ∷ []) a = ap opaque is ∙ opaque-both (left_bool (terms_of (tree tags values) (u ∷ [])))
      equality-reads (u ∷ (v ∷ [])) a =
          rw (← left_is u (omega arith) a.0.1)
          (either (u ∷ (v ∷ [])) (eqb (sort_of values u) 0) (Iff (term_at u) (term_at v)) Opaque _ _ (ap₂ iff (right-at u a.0) (right-at v a.1.0)) (ap opaque is))
      equality-reads (u ∷ (v ∷ (w ∷ os))) a =
          rw (ne_eqb (length (u ∷ (v ∷ (w ∷ os)))) 2 (λ z. omega arith)) (ap opaque is ∙ opaque-both (left_bool (terms_of (tree tags values) (u ∷ (v ∷ (w ∷ os))))))

      connective-reads : (k : ℕ) (os : List ℕ) → AllTerms tags t os
          → Reads os (connective values k os) (form_of x k (left_bool (terms_of (tree tags values) os)) (skeletons (terms_of (tree tags values) os)))
      unfolding connective form_of form_by
      connective-reads k os a =
          either os (eqb k 36) (AndOr And) _ _ _ (ap (many true) (forms-are os a))
          (either os (eqb k 37) (AndOr Or) _ _ _ (ap (many false) (forms-are os a))
          (either os (eqb k 39) (equality values os) _ _ _ (equality-reads os a)
          (either os (eqb k 34) _ _ _ _ (not-reads os a)
          (either os (eqb k 35) _ _ _ _ (implies-reads os a)
          (either os (eqb k 41) _ _ _ _ (ite-reads os a)
          (itself os))))))

    -- ---- by the tag k and the cells
    abbrev run : ℕ → List ℕ → List ℕ
    run k cells = cond (ltb k 22) [] (drop 1 cells)

    abbrev view : ℕ → List ℕ → View
    view k cells =
        cond (ltb k 32)
        (cond (ltb (get_or (run k cells) 0 0) t) (quantifier k (get_or (run k cells) 0 0)) Opaque)
        (cond (all_before t (run k cells)) (connective values k (run k cells)) Opaque)

    abbrev made : ℕ → List ℕ → Term
    made k cells = term_from k cells (sort_tree tags values) (tree tags values)

    abbrev Right : ℕ → List ℕ → Type 0
    Right k cells = tree tags values t ≡ made k cells → Each tags t (shape_of k) 0 cells → Reads (run k cells) (view k cells) (skeleton (made k cells))

    opaque-reads : (os : List ℕ) (b : Bool) (x : Term) → tree tags values t ≡ x → Reads os (cond b Opaque Opaque) (opaque x)
    opaque-reads os true x is = itself x is os
    opaque-reads os false x is = itself x is os

    op-reads : (cells : List ℕ) (k : ℕ) → 32 ≤ k → k < 167 → count_fits (shape_of k) (length cells) ≡ true → Right k cells
    unfolding count_fits skeleton
    op-reads cells k l m c is f =
        from_one (λ cs. tree tags values t ≡ made k cs → Each tags t Operator 0 cs → Reads (run k cs) (view k cs) (skeleton (made k cs)))
        (λ s os is f.
        let a : AllTerms tags t os = all-terms tags t 1 os (omega arith) f.1 in
        let made-is = term-op (sort_tree tags values) (tree tags values) k (s ∷ os) l m in
        rw (le-ltb k 22 (omega arith), le-ltb k 32 l, all-before tags t os a, made-is) (connective-reads _ (is ∙ made-is) k os a))
        cells (leb-true 1 (length cells) (rw (shape-op k l m) at c)) is (rw (shape-op k l m) at f)

    quantifier-reads : (b : QuantifierKind) (k s body : ℕ) (cs : List ℕ) → IsTerm tags t body → (ltb k 22 ≡ false) → (ltb k 32 ≡ true) → quantifier k body ≡ Quantifier b (term_at body)
        → Reads (body ∷ cs) (view k (s ∷ (body ∷ cs))) (all (is_forall b) (vars_at tags values cs) (skeleton (tree tags values body)))
    unfolding form_by
    quantifier-reads b k s body cs a e₁ e₂ e₃ = rw (e₁, e₂, lt-ltb body t a.0, e₃) (ap (all (is_forall b) (vars_at tags values cs)) (right-at body a))

    reads : (cells : List ℕ) (k : ℕ) → is_term_tag k ≡ true → count_fits (shape_of k) (length cells) ≡ true → Right k cells
    unfolding skeleton term_from quantifier shape_of count_fits kind_at pair_kind
    reads cells k m c =
        by-term-tag (λ k. count_fits (shape_of k) (length cells) ≡ true → Right k cells)
        (λ e is f. opaque-reads [] (ltb 0 t) _ is)
        (λ e is f. opaque-reads [] (ltb 0 t) _ is)
        (λ e is f. opaque-reads [] (ltb 0 t) _ is)
        (λ e is f. opaque-reads [] (ltb 0 t) _ is)
        (λ e is f. opaque-reads [] (ltb 0 t) _ is)
        (λ e is f. opaque-reads [] (ltb 0 t) _ is)
        (λ e is f. opaque-reads (drop 1 cells) (ltb (get_or (drop 1 cells) 0 0) t) _ is)
        (λ e. from-two (Right 23) (λ s b cs is f. quantifier-reads Forall 23 s b cs (term-cell tags t b f.1.0) refl refl refl) cells (even-rest _ e).0)
        (λ e. from-two (Right 24) (λ s b cs is f. quantifier-reads Exists 24 s b cs (term-cell tags t b f.1.0) refl refl refl) cells (even-rest _ e).0)
        (λ e is f. opaque-reads (drop 1 cells) (ltb (get_or (drop 1 cells) 0 0) t) _ is)
        (λ e is f. opaque-reads (drop 1 cells) (ltb (get_or (drop 1 cells) 0 0) t) _ is)
        (λ e is f. opaque-reads (drop 1 cells) (ltb (get_or (drop 1 cells) 0 0) t) _ is)
        (λ k l m. op-reads cells k l m)
        k (length cells) m c c

    reads_here : is_term_tag (get_or tags t 0) ≡ true
        → on_trees tags values (form_by (view_of tags values t) t (operands_of tags values t) rec) ≡ skeleton (tree tags values t)
    unfolding view_of operands_of
    reads_here k =
        let is = term_is tags values n whole formed t h k in
        let here : Described tags values t = place-described tags values n formed whole t h (term-tagged _ k) in
        reads (cells_of values t) (get_or tags t 0) k here.count is here.each-cell ∙ ap skeleton (sym is)

  form-below : (d t : ℕ) → t < d → t < n → is_term_tag (get_or tags t 0) ≡ true → on_trees tags values (form tags values t) ≡ skeleton (tree tags values t)
  unfolding form
  form-below zero t f h k = absurd (omega arith)
  form-below (suc d) t f h k =
      ap (on_trees tags values) (by_place-is (λ u rec. form_by (view_of tags values u) u (operands_of tags values u) rec) (opaque 0) t)
      ∙ reads_here t h (λ u. cond (ltb u t) (form tags values u) (opaque 0)) (λ u l m. rw (lt-ltb u t l) (form-below d u (omega arith) (omega arith) m)) k

  pub form-tree : (t : ℕ) → t < n → is_term_tag (get_or tags t 0) ≡ true → on_trees tags values (form tags values t) ≡ skeleton (tree tags values t)
  form-tree t = form-below (suc t) t (omega arith)

-- ---- a pool that passes the pool check
module _ {tags values rules : List ℕ} {n : ℕ} (c : Passed tags values rules n) where
  -- Bool stands at place 0 alone
  pub one_bool : (s : ℕ) → s < n → get_or tags s 0 ≡ 1 → s ≡ 0
  unfolding is_sort_tag
  one_bool s h e =
      let z : get_or tags 0 0 ≡ 1 = first-bool tags values n c.formed (omega arith) in
      let at : (u : ℕ) → u < n → get_or tags u 0 ≡ 1 → sort_tree tags values u ≡ bool = bool-tree tags values n c.whole c.formed in
      one-sort c s 0 h (omega arith) (rw e) (rw z) (at s h e ∙ sym (at 0 (omega arith) z))

  pub form-of-tree : (t : ℕ) → t < n → is_term_tag (get_or tags t 0) ≡ true → on_trees tags values (form tags values t) ≡ skeleton (tree tags values t)
  form-of-tree = form-tree tags values n c.whole c.formed one_bool
