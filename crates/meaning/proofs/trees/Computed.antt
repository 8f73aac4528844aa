-- A sort that `compute_sort` gives, as a tree: in a pool that passes checks 14 and 15, the sort at a place is the computed one exactly
-- where its tree is.
-- Assumes nothing.
use Prim.Native.Nat.{ℕ, ◌+◌, ◌≤◌}
use mathlib.Core.Path.{◌≡◌, refl, sym, ap, ◌∙◌}
use mathlib.Core.Bool.{Bool, true, false, cond}
use mathlib.Core.List.{List, [], ◌∷◌}
use Rattle.std.specs.Prelude.{Option, None, Some}
use lib.ListN.{length, get_or}
use lib.Dec.{eqb}
use borrow.Author.Tests.{eqb-true, eq-eqb}
use Rattle.cells.specs.Cell.{cells_of, is_at}
use Rattle.headers.specs.WellFormed.{shape_of, count_fits, is_sort_tag, first_bad}
use Rattle.descriptions.specs.Description.{first_repeat}
use Rattle.meaning.specs.Sort.{Sort, set, tuple}
use Rattle.sorts.specs.SortRule.{Computed, place, made, relation, no_answer, is_sort}
use Rattle.meaning.specs.SortTree.{form_of, part}
use Rattle.meaning.specs.Tree.{sorts_of, sort_from, sort_tree}
use Rattle.cells.proofs.Cells.{same_refl, same-eq}
use Rattle.meaning.proofs.trees.Header.{both, Each}
use Rattle.meaning.proofs.trees.Sorts.{sort-is, sort-one, made_one}
use Rattle.meaning.proofs.trees.Forms.{IsSort, AllSorts, sorts-fit, tag_of, set_at}

module _ (tags values : List ℕ) (n : ℕ) where
  -- the computed sort as a tree
  abbrev pub answer : Computed → Option Sort
  answer (place q) = Some (sort_tree tags values q)
  answer (made k cells) = Some (sort_from k cells (sort_tree tags values))
  answer (relation cells) = Some (set (tuple (sorts_of (sort_tree tags values) cells)))
  answer no_answer = None

  -- its parts are places of sorts, and it has as many as its tag demands
  abbrev pub Right : Computed → Type 0
  Right (place q) = IsSort tags n q
  Right (made k cells) = (is_sort_tag k ≡ true) × (count_fits (shape_of k) (length cells) ≡ true) × Each tags n (shape_of k) 0 cells
  Right (relation cells) = AllSorts tags n cells
  Right no_answer = Unit {0}

  -- the computed sort is this one
  abbrev pub Gives : Computed → Option Sort → Type 0
  Gives c o = (answer c ≡ o) × Right c

  -- by a test that is the same on places and on trees
  pub gives-cond : (b e : Bool) (c d : Computed) (o u : Option Sort) → b ≡ e → (b ≡ true → Gives c o) → (b ≡ false → Gives d u) → Gives (cond b c d) (cond e o u)
  gives-cond true e c d o u same f g = rw (← same) (f refl)
  gives-cond false e c d o u same f g = rw (← same) (g refl)

  -- ---- the sort at a place
  at_true : (p k : ℕ) (cells : List ℕ) → is_at tags values p k cells ≡ true → (get_or tags p 0 ≡ k) × (cells_of values p ≡ cells)
  unfolding is_at
  at_true p k cells e =
      let (a, b) = both (eqb (get_or tags p 0) k) _ e in
      (eqb-true _ _ a, same-eq _ _ b)

  true-at : (p k : ℕ) (cells : List ℕ) → get_or tags p 0 ≡ k → cells_of values p ≡ cells → is_at tags values p k cells ≡ true
  unfolding is_at
  true-at p k cells e f = rw (eq-eqb _ _ e, f, same_refl)

  module _ (whole : n ≤ length values) (formed : first_bad tags values n ≡ None) where
    sort-at : (s k : ℕ) (cells : List ℕ) → IsSort tags n s → is_at tags values s k cells ≡ true → sort_from k cells (sort_tree tags values) ≡ sort_tree tags values s
    sort-at s k cells (h, l) e =
        let (a, b) = at_true s k cells e in
        rw (sort-is tags values n whole formed s h l, a, b)

    pub tree_of : (s : ℕ) → IsSort tags n s → (c : Computed) → is_sort tags values s c ≡ true → answer c ≡ Some (sort_tree tags values s)
    unfolding is_sort sort_from
    tree_of s is (place q) e = ap (λ (x : ℕ). Some (sort_tree tags values x)) (sym (eqb-true s q e))
    tree_of s is (made k cells) e = ap Some (sort-at s k cells is e)
    tree_of s is (relation cells) e =
        let (a, b) = both (is_at tags values s 12 (get_or values (s + 1) 0 ∷ [])) _ e in
        let (p, q, c) = set_at tags values n whole formed s is (at_true s 12 _ a).0 in
        ap Some (ap set (sort-at (get_or values (s + 1) 0) 13 cells q b) ∙ sort-at s 12 (get_or values (s + 1) 0 ∷ []) is a)
    tree_of s is no_answer e = cc

    module _ (single : first_repeat tags values n ≡ None) where
      pub of_tree : (s : ℕ) → IsSort tags n s → (c : Computed) → Right c → answer c ≡ Some (sort_tree tags values s) → is_sort tags values s c ≡ true
      unfolding is_sort sort_from form_of is_sort_tag shape_of count_fits
      of_tree s is (place q) r e = eq-eqb s q (sort-one tags values n whole formed single s q is.0 r.0 is.1 r.1 (cc))
      of_tree s is (made k cells) r e =
          let (a, b) = made_one tags values n whole formed single s k cells is.0 is.1 r.0 r.1 r.2 (cc) in
          true-at s k cells a b
      of_tree s is (relation cells) r e =
          let tree : sort_tree tags values s ≡ set (tuple (sorts_of (sort_tree tags values) cells)) = cc in
          let tag : get_or tags s 0 ≡ 12 = sym (tag_of tags values n whole formed s is) ∙ ap (λ (x : Sort). (form_of x).tag) tree in
          let (p, q, c) = set_at tags values n whole formed s is tag in
          let (a, b) = made_one tags values n whole formed single (get_or values (s + 1) 0) 13 cells q.0 q.1 refl refl (sorts-fit tags n 0 cells r) (sym p ∙ ap (λ (x : Sort). part x 0) tree) in
          rw (true-at s 12 (get_or values (s + 1) 0 ∷ []) tag c) (true-at (get_or values (s + 1) 0) 13 cells a b)
      of_tree s is no_answer r e = cc
