-- The forms that the rules match at places, as trees, for a pool that passes its checks.
--     term-below          a term's place is below the count, and has a term's tag
--     quantifier-tree     a quantifier: it states Bool, and its body is a term of the pool
--     operator-tree, equality-tree     an operator and its operands
--     one-binding         two pairs of one variable are one pair
--     binding-free        the variable of a pair is free in a term by their places where it is by their trees
-- Assumes nothing.
use Prim.Native.Nat.{ℕ, suc, ◌+◌, ◌≤◌, ◌<◌, ◌%◌}
use mathlib.Core.Path.{◌≡◌, refl, sym, ap, ap₂, ◌∙◌}
use mathlib.Core.Bool.{Bool, true, false}
use mathlib.Core.List.{List, [], ◌∷◌, ◌++◌}
use Rattle.std.specs.Prelude.{Option, Some, None}
use lib.ListN.{length, get_or, drop}
use lib.Dec.{eqb, ltb}
use native.Mathlib.Omega.{arith}
use borrow.Author.Tests.{eqb-true, ltb-true, lt-ltb, le-ltb, leb-true}
use Rattle.cells.specs.Cell.{cells_of, sort_of, operands_of, is_at}
use Rattle.cells.specs.ByPlace.{by-test}
use Rattle.headers.specs.WellFormed.{shape_of, count_fits, kind_at, pair_kind, is_sort_tag, is_term_tag, is_term}
use Rattle.descriptions.specs.Description.{find}
use Rattle.sorts.specs.SortRule.{is_sort, compute_sort, states_sort}
use Rattle.meaning.specs.Sort.{Sort, bool}
use Rattle.meaning.specs.Term.{Var, Vars, quant, op, tnil, tcons, stated}
use Rattle.meaning.specs.Tree.{sort_from, sort_tree, terms_of, term_from, tree}
use Rattle.meaning.specs.FreeTree.{free, var_at}
use Rattle.headers.specs.declared.well_formed.Shape.TheVariants.{Binder, Operator}
use Rattle.headers.specs.declared.well_formed.CellKind.TheVariants.{OfSort, OfTerm}
use Rattle.meaning.proofs.trees.Header.{both, Each, Described, sort-cell, term-cell, term-tagged}
use Rattle.meaning.proofs.trees.Walk.{place-described}
use Rattle.meaning.proofs.trees.Tags.{shape-op}
use Rattle.meaning.proofs.trees.Parts.{not_first, pair-second, from_one, from-two}
use Rattle.meaning.proofs.trees.Terms.{term-op, even-rest}
use Rattle.meaning.proofs.trees.Stated.{var-tag}
use Rattle.meaning.proofs.trees.Passed.{Passed, sort-of-cells, term-of-cells, sort-of-term, one-sort, sort-place-of, states, free-of-tree, free-stands, cells-of-var, found_at, found_none}
use Rattle.meaning.proofs.truth.Over.{bool_cases}
use Rattle.bindings.specs.Binding.{Binding, bindings_of, same, has, first_of}
use Rattle.free_pairs.specs.BindingFree.{binding_free, free_at}
use Rattle.formulas.specs.Pattern.{Quantifier, quantifier, operator, one_of, two_of, three_of, equality}
use Rattle.formulas.specs.Formula.{quantifier_tag}
use Rattle.meaning.proofs.patterns.Passes.{then_some, cond-some}
use Rattle.meaning.proofs.patterns.Bindings.{binding-eq, first-none, var_of, vars_at, vars-are, has-pair}
use Rattle.meaning.proofs.patterns.Sound.{Unfree}

module _ (tags : List ℕ) (n : ℕ) where
  -- terms of the pool
  abbrev pub AllTerms : List ℕ → Type 0
  AllTerms [] = Unit {0}
  AllTerms (t ∷ ts) = (is_term tags n t ≡ true) × AllTerms ts

  -- a sort of the pool
  abbrev pub SortPlace : ℕ → Type 0
  SortPlace s = (s < n) × (is_sort_tag (get_or tags s 0) ≡ true)

  -- pairs whose sorts are the pool's
  abbrev pub Sorted : List Binding → Type 0
  Sorted [] = Unit {0}
  Sorted (a ∷ as') = SortPlace a.sort × Sorted as'

  pub sorted-has : (as' : List Binding) → Sorted as' → (a : Binding) → has as' a ≡ true → SortPlace a.sort
  unfolding has
  sorted-has [] s a h = let z : ◌≡◌ {A = ℕ} 0 1 = cc in absurd (omega arith)
  sorted-has (b ∷ bs) s a h = bool_cases (same b a) (λ e. rw (← binding-eq b a e) s.0) (λ e. sorted-has bs s.1 a (rw e at h))

  pub sorted-append : (as' bs : List Binding) → Sorted as' → Sorted bs → Sorted (as' ++ bs)
  sorted-append [] bs s u = u
  sorted-append (a ∷ as') bs s u = (s.0, sorted-append as' bs s.1 u)

  -- the pairs of a binder's cells, from its cell j on
  pub pairs-sorted : (x j : ℕ) (cs : List ℕ) → x ≤ n → 2 ≤ j → j % 2 ≡ 0 → Each tags x Binder j cs → Sorted (bindings_of cs)
  unfolding bindings_of kind_at
  pairs-sorted x j [] h l e f = tt
  pairs-sorted x j (a ∷ []) h l e f = tt
  pairs-sorted x j (a ∷ (s ∷ cs)) h l e f =
      let (m, k) = sort-cell tags x s (rw (pair-second OfSort j l e) at f.1.0) in
      ((omega arith, k), pairs-sorted x (suc (suc j)) cs h (omega arith) (omega arith) f.1.1)

module _ (tags values : List ℕ) (n : ℕ) where
  -- what stands at x, as a tree; the parts are terms and sorts of the pool
  pub record IsQuantifier (x : ℕ) (q : Quantifier) : Type 0 where
    pub tree_is : tree tags values x ≡ quant q.kind bool (vars_at tags values q.list) (tree tags values q.body)
    pub body : is_term tags n q.body ≡ true
    pub sorts : Sorted tags n q.list

  pub record IsOperator (tag x : ℕ) (os : List ℕ) : Type 0 where
    pub sort : Sort
    pub tree_is : tree tags values x ≡ op tag sort (terms_of (tree tags values) os)
    pub operands : AllTerms tags n os

  pub record IsEquality (x l r : ℕ) : Type 0 where
    pub sort : Sort
    pub tree_is : tree tags values x ≡ op 39 sort (tcons (tree tags values l) (tcons (tree tags values r) tnil))
    pub left : is_term tags n l ≡ true
    pub right : is_term tags n r ≡ true

-- lists of so many
pub one-are : (os : List ℕ) (a : ℕ) → one_of os ≡ Some a → os ≡ a ∷ []
one-are [] a e = cc
one-are (b ∷ []) a e = cc
one-are (b ∷ (d ∷ os)) a e = cc

pub two-are : (os : List ℕ) (p : ℕ × ℕ) → two_of os ≡ Some p → os ≡ p.0 ∷ p.1 ∷ []
two-are [] p e = cc
two-are (a ∷ []) p e = cc
two-are (a ∷ (b ∷ [])) p e = cc
two-are (a ∷ (b ∷ (d ∷ os))) p e = cc

pub three-are : (os : List ℕ) (p : ℕ × ℕ × ℕ) → three_of os ≡ Some p → os ≡ p.0 ∷ p.1 ∷ p.2 ∷ []
three-are [] p e = cc
three-are (a ∷ []) p e = cc
three-are (a ∷ (b ∷ [])) p e = cc
three-are (a ∷ (b ∷ (d ∷ []))) p e = cc
three-are (a ∷ (b ∷ (d ∷ (f ∷ os)))) p e = cc

module _ {tags values rules : List ℕ} {n : ℕ} (c : Passed tags values rules n) where
  pub term-below : (x : ℕ) → is_term tags n x ≡ true → (x < n) × (is_term_tag (get_or tags x 0) ≡ true)
  unfolding is_term
  term-below x t = let (h, k) = both (ltb x n) _ t in (ltb-true x n h, k)

  module _ (x : ℕ) (t : is_term tags n x ≡ true) where
    below : x < n
    below = (term-below x t).0

    tagged : is_term_tag (get_or tags x 0) ≡ true
    tagged = (term-below x t).1

    pub here : Described tags values x
    here = place-described tags values n c.formed c.whole x below (term-tagged _ tagged)

  is-term : (p u : ℕ) → p < n → (u < p) × (is_term_tag (get_or tags u 0) ≡ true) → is_term tags n u ≡ true
  unfolding is_term
  is-term p u h (l, k) = rw (lt-ltb u n (omega arith)) k

  operands-are : (x : ℕ) → 22 ≤ get_or tags x 0 → operands_of tags values x ≡ drop 1 (cells_of values x)
  unfolding operands_of
  operands-are x h = rw (le-ltb _ 22 h)

  -- ---- quantifiers
  -- the sort of "forall, exists" is Bool
  bool-sort : (b : Bool) (x : ℕ) (t : is_term tags n x ≡ true) → get_or tags x 0 ≡ quantifier_tag b → sort_tree tags values (sort_of values x) ≡ bool
  unfolding states_sort compute_sort is_sort is_at sort_from
  bool-sort b x t e =
      let (l, k) = sort-place-of c x (below x t) (tagged x t) in
      let s : get_or tags (sort_of values x) 0 ≡ 1 = eqb-true _ 1 (both (eqb (get_or tags (sort_of values x) 0) 1) _ (by_kind b e)).0 in
      rw (sort-of-cells c (sort_of values x) (omega (arith, below x t)) k, s)
    where
      by_kind : (b : Bool) → get_or tags x 0 ≡ quantifier_tag b → is_at tags values (sort_of values x) 1 [] ≡ true
      by_kind true e = rw e at (states c x (below x t) (tagged x t))
      by_kind false e = rw e at (states c x (below x t) (tagged x t))

  -- the quantifier of this kind and this operand run
  abbrev pub of_run : Bool → List ℕ → Quantifier
  of_run b run = record { kind = b; list = bindings_of (drop 1 run); body = get_or run 0 0 }

  record Cells (b : Bool) (cells : List ℕ) : Type 0 where
    pub tree_is : term_from (quantifier_tag b) cells (sort_tree tags values) (tree tags values)
        ≡ quant b (sort_tree tags values (get_or cells 0 0)) (vars_at tags values (of_run b (drop 1 cells)).list) (tree tags values (of_run b (drop 1 cells)).body)
    pub body : is_term tags n (of_run b (drop 1 cells)).body ≡ true
    pub sorts : Sorted tags n (of_run b (drop 1 cells)).list

  quantifier-cells : (b : Bool) (x : ℕ) → x < n → (cells : List ℕ) → 2 ≤ length cells → Each tags x Binder 0 cells → Cells b cells
  unfolding kind_at pair_kind term_from
  quantifier-cells b x h =
      from-two (λ cells. Each tags x Binder 0 cells → Cells b cells)
      (λ s u cs f. record {
        tree_is = is b s u cs;
        body = is-term x u h (term-cell tags x u f.1.0);
        sorts = pairs-sorted tags n x 2 cs (omega arith) (omega arith) refl f.1.1;
      })
    where
      is : (b : Bool) (s u : ℕ) (cs : List ℕ) → term_from (quantifier_tag b) (s ∷ (u ∷ cs)) (sort_tree tags values) (tree tags values)
          ≡ quant b (sort_tree tags values s) (vars_at tags values (bindings_of cs)) (tree tags values u)
      is true s u cs = ap (λ (vs : Vars). quant true (sort_tree tags values s) vs (tree tags values u)) (vars-are tags values cs)
      is false s u cs = ap (λ (vs : Vars). quant false (sort_tree tags values s) vs (tree tags values u)) (vars-are tags values cs)

  quantifier-at : (b : Bool) (x : ℕ) (t : is_term tags n x ≡ true) → get_or tags x 0 ≡ quantifier_tag b → IsQuantifier tags values n x (of_run b (operands_of tags values x))
  unfolding count_fits shape_of stated
  quantifier-at b x t e =
      let shape : shape_of (get_or tags x 0) ≡ Binder = rw e (binder b) in
      let cells = quantifier-cells b x (below x t) (cells_of values x) (even-rest _ (rw shape at (here x t).count)).0 (rw shape at (here x t).each-cell) in
      let is = (rw e at (term-of-cells c x (below x t) (tagged x t))) ∙ cells.tree_is in
      let sort : sort_tree tags values (get_or (cells_of values x) 0 0) ≡ bool =
      sym (ap stated is) ∙ (sort-of-term c x (below x t) (tagged x t) ∙ bool-sort b x t e) in
      rw (operands-are x (rw e (late b))) (record { tree_is = rw sort at is; body = cells.body; sorts = cells.sorts })
    where
      binder : (b : Bool) → shape_of (quantifier_tag b) ≡ Binder
      binder true = refl
      binder false = refl

      late : (b : Bool) → 22 ≤ quantifier_tag b
      late true = omega arith
      late false = omega arith

  pub quantifier-tree : (x : ℕ) → is_term tags n x ≡ true → (q : Quantifier) → quantifier tags values x ≡ Some q → IsQuantifier tags values n x q
  unfolding quantifier
  quantifier-tree x t q e =
      by-test (eqb (get_or tags x 0) 23)
      (λ o. is true (eqb-true _ 23 o) (rw o at e))
      (λ o. by-test (eqb (get_or tags x 0) 24)
      (λ p. is false (eqb-true _ 24 p) (rw (o, p) at e))
      (λ p. let d : None ≡ Some q = rw (o, p) at e in let z : ◌≡◌ {A = ℕ} 0 1 = cc in absurd (omega arith)))
    where
      is : (b : Bool) → get_or tags x 0 ≡ quantifier_tag b → Some (of_run b (operands_of tags values x)) ≡ Some q → IsQuantifier tags values n x q
      is b k d = let z : of_run b (operands_of tags values x) ≡ q = cc in rw z at (quantifier-at b x t k)

  -- ---- operators
  all-terms : (x j : ℕ) (cs : List ℕ) → x < n → 1 ≤ j → Each tags x Operator j cs → AllTerms tags n cs
  unfolding kind_at
  all-terms x j [] h l f = tt
  all-terms x j (u ∷ cs) h l f =
      (is-term x u h (term-cell tags x u (rw (not_first OfSort OfTerm j l) at f.0)), all-terms x (suc j) cs h (omega arith) f.1)

  pub operator-tree : (tag x : ℕ) → 32 ≤ tag → tag < 167 → is_term tags n x ≡ true → (os : List ℕ) → operator tags values tag x ≡ Some os
      → IsOperator tags values n tag x os
  unfolding operator count_fits
  operator-tree tag x l m t os e =
      let (o, z) = cond-some (eqb (get_or tags x 0) tag) (operands_of tags values x) os e in
      let k : get_or tags x 0 ≡ tag = eqb-true _ tag o in
      let run : drop 1 (cells_of values x) ≡ os = sym (operands-are x (omega arith)) ∙ z in
      let shape : shape_of (get_or tags x 0) ≡ Operator = rw k (shape-op tag l m) in
      record {
        sort = sort_tree tags values (get_or (cells_of values x) 0 0);
        tree_is = rw (← run)
            (term-of-cells c x (below x t) (tagged x t) ∙ rw k (term-op (sort_tree tags values) (tree tags values) tag (cells_of values x) l m));
        operands = rw (← run)
            (from_one (λ cs. Each tags x Operator 0 cs → AllTerms tags n (drop 1 cs))
            (λ s cs f. all-terms x 1 cs (below x t) (omega arith) f.1)
            (cells_of values x) (leb-true 1 _ (rw shape at (here x t).count)) (rw shape at (here x t).each-cell));
      }

  pub equality-tree : (x : ℕ) → is_term tags n x ≡ true → (p : ℕ × ℕ) → equality tags values x ≡ Some p → IsEquality tags values n x p.0 p.1
  unfolding equality terms_of
  equality-tree x t p e =
      then_some (operator tags values 39 x) two_of p e λ os e₁ e₂.
      let o = operator-tree 39 x (omega arith) (omega arith) t os e₁ in
      let two = two-are os p e₂ in
      let terms : AllTerms tags n (p.0 ∷ p.1 ∷ []) = rw two at o.operands in
      record { sort = o.sort; tree_is = o.tree_is ∙ ap (λ (l : List ℕ). op 39 o.sort (terms_of (tree tags values) l)) two; left = terms.0; right = terms.1.0 }

  -- ---- pairs and variables
  pub one-binding : (a b : Binding) → SortPlace tags n a.sort → SortPlace tags n b.sort → var_of tags values a ≡ var_of tags values b → a ≡ b
  unfolding var_of
  one-binding a b (h, k) (l, m) e =
      let p : a.name ≡ b.name = ap (λ (v : Var). v.name) e in
      let q : a.sort ≡ b.sort = one-sort c a.sort b.sort h l k m (ap (λ (v : Var). v.sort) e) in
      λ i. record { name = p i; sort = q i }

  module _ (t : ℕ) (k : is_term tags n t ≡ true) where
    pub binding-free : (a : Binding) → SortPlace tags n a.sort → binding_free tags values n t a ≡ free (tree tags values t) (var_of tags values a)
    unfolding binding_free var_of var_at
    binding-free a (h, s) = found (find tags values n 21 cells) refl
      where
        cells : List ℕ
        cells = a.sort ∷ a.name ∷ []

        at : (v : ℕ) → find tags values n 21 cells ≡ Some v → var_at tags values v ≡ var_of tags values a
        at v e =
            let (l, tag, same-cells) = found_at c 21 cells v e in
            let both-cells = sym (cells-of-var c v l tag) ∙ same-cells in
            let p : sort_of values v ≡ a.sort = cc in
            let q : get_or values (v + 2) 0 ≡ a.name = cc in
            λ i. record { name = q i; sort = sort_tree tags values (p i) }

        nowhere : find tags values n 21 cells ≡ None → free (tree tags values t) (var_of tags values a) ≡ true → ⊥
        nowhere e f =
            let w = free-stands c (var_of tags values a) t (below t k) (tagged t k) f in
            let (l, m) = sort-place-of c w.place w.below (var-tag _ w.tag) in
            let p : sort_of values w.place ≡ a.sort =
            one-sort c (sort_of values w.place) a.sort (omega (arith, w.below)) h m s (ap (λ (v : Var). v.sort) w.is) in
            let q : get_or values (w.place + 2) 0 ≡ a.name = ap (λ (v : Var). v.name) w.is in
            found_none c 21 cells e w.place w.below (λ z. omega arith) w.tag
            (cells-of-var c w.place w.below w.tag ∙ ap₂ (λ (a b : ℕ). a ∷ b ∷ []) p q)

        found : (f : Option ℕ) → find tags values n 21 cells ≡ f → free_at tags values t f ≡ free (tree tags values t) (var_of tags values a)
        found (Some v) e =
            let (l, tag, same-cells) = found_at c 21 cells v e in
            free-of-tree c v l tag t (below t k) (tagged t k) ∙ ap (free (tree tags values t)) (at v e)
        found None e = bool_cases (free (tree tags values t) (var_of tags values a)) (λ f. absurd (nowhere e f)) (λ f. sym f)

    -- no pair of a list is free in the term
    pub list-unfree : (as' : List Binding) → Sorted tags n as' → first_of (binding_free tags values n t) as' ≡ None
        → Unfree (vars_at tags values as') (free (tree tags values t))
    list-unfree as' s e v h =
        has-pair tags values as' v h
        (λ a m p. rw (← p) (sym (binding-free a (sorted-has tags n as' s a m)) ∙ first-none (binding_free tags values n t) as' e a m))
