-- The pool check does not tell alike pools apart.
--     wrong-same     16, in pools whose cells below n are the same and pass 14 and 15: it reads the trees
--     cells_same     14, 15 and 16 in their order
--     fit-alike, pool-alike     30, and the pool check: 40 and 41 look at the table alone
-- Assumes nothing.
use Rattle.std.specs.Prelude.{Option, Some, None}
use Prim.Native.Nat.{ℕ, ◌≤◌, ◌<◌, min}
use mathlib.Core.Path.{◌≡◌, refl, sym, ap, ap₂, ◌∙◌}
use mathlib.Core.Bool.{true, ◌&&◌, cond}
use mathlib.Core.List.{List}
use lib.ListN.{length, get_or}
use lib.Dec.{leb, eqb}
use native.Mathlib.Omega.{arith}
use borrow.Author.Tests.{leb-true, leb-false, le-leb, lt-leb, eqb-true}
use Rattle.cells.specs.ByPlace.{by-test}
use Rattle.cells.specs.Headers.{first_header}
use Rattle.cells.specs.Limits.{cell_limit}
use Rattle.headers.specs.WellFormed.{is_term_tag, first_bad}
use Rattle.descriptions.specs.Description.{first_repeat}
use Rattle.descriptions.proofs.description.Fills.{well-formed-fills}
use Rattle.descriptions.proofs.description.Growth.{Same}
use Rattle.sorts.specs.SortRule.{states_sort, first_wrong_sort}
use Rattle.sort_table.specs.TableAnswer.{table_answer}
use Rattle.meaning.specs.Tree.{tree}
use Rattle.meaning.proofs.trees.Header.{both}
use Rattle.meaning.proofs.trees.SortRules.{states-computed, computed-states}
use Rattle.meaning.proofs.places.SameTree.{tree-kept}
use Rattle.normal_form.proofs.Repeats.{first-same, repeat-same}
use Rattle.answers.specs.Answer.{accepted, ill_formed, repeated, wrong_sort, refuse_at}
use Rattle.pool.specs.Check.{arrays_fit, check_cells, check_pool, and_then}
use Rattle.tag_layouts.specs.Narrowed.{Alike}
use Rattle.tag_layouts.proofs.WellFormed.{NarrowSame, bad-same, narrow-same}

-- ---- 16, in pools whose cells below n are the same
module _ (n : ℕ) (tags values tags' values' : List ℕ) (s : Same n tags values tags' values') (formed : first_bad tags values n ≡ None)
    (rules : List ℕ) (formed' : first_bad tags' values' n ≡ None) (single : first_repeat tags values n ≡ None) where
  single' : first_repeat tags' values' n ≡ None
  single' = repeat-same n tags values tags' values' s (well-formed-fills tags values n formed) ∙ single

  -- a term states the sort of its tree in both or in neither
  states-same : (t : ℕ) → t < n → is_term_tag (get_or tags t 0) ≡ true → states_sort tags' values' rules t ≡ states_sort tags values rules t
  states-same t h k =
      let k' : is_term_tag (get_or tags' t 0) ≡ true = rw (s.tags-same t h) k in
      let e : tree tags' values' t ≡ tree tags values t = tree-kept n tags values tags' values' s formed t h k in
      by-test (states_sort tags values rules t)
      (λ y. rw y (computed-states tags' values' n s.long' formed' rules t h k' single' (rw e (states-computed tags values n s.long formed rules t h k y))))
      (λ y. by-test (states_sort tags' values' rules t)
      (λ y'.
      let z : states_sort tags values rules t ≡ true =
      computed-states tags values n s.long formed rules t h k single (rw e at (states-computed tags' values' n s.long' formed' rules t h k' y')) in
      cc)
      (λ y'. y' ∙ sym y))

  pub wrong-same : first_wrong_sort tags' values' rules n ≡ first_wrong_sort tags values rules n
  unfolding first_wrong_sort first_header
  wrong-same =
      first-same values n values' s.values_same n (omega arith) _ _
      (λ t h w. rw (s.tags-same t h) (by-test (is_term_tag (get_or tags t 0)) (λ k. rw (k, states-same t h k)) (λ k. rw k)))
      0 (well-formed-fills tags values n formed)

-- ---- 14, 15 and 16
module _ (tags values tags' values' rules : List ℕ) (n : ℕ) (s : NarrowSame n tags values tags' values') where
  pub cells_same : check_cells tags' values' rules n ≡ check_cells tags values rules n
  unfolding check_cells
  cells_same = rw (bad-same n tags values tags' values' s) (ap (cond (eqb n 0) (ill_formed 0)) (from14 (first_bad tags values n) refl))
    where
      from16 : Same n tags values tags' values' → first_bad tags values n ≡ None → (w : Option ℕ) → first_repeat tags values n ≡ w
          → refuse_at repeated w (refuse_at wrong_sort (first_wrong_sort tags' values' rules n) (accepted 0 0))
          ≡ refuse_at repeated w (refuse_at wrong_sort (first_wrong_sort tags values rules n) (accepted 0 0))
      from16 same formed (Some p) e = refl
      from16 same formed None e = rw (wrong-same n tags values tags' values' same formed rules (bad-same n tags values tags' values' s ∙ formed) e)

      from14 : (w : Option ℕ) → first_bad tags values n ≡ w
          → refuse_at ill_formed w (refuse_at repeated (first_repeat tags' values' n) (refuse_at wrong_sort (first_wrong_sort tags' values' rules n) (accepted 0 0)))
          ≡ refuse_at ill_formed w (refuse_at repeated (first_repeat tags values n) (refuse_at wrong_sort (first_wrong_sort tags values rules n) (accepted 0 0)))
      from14 (Some p) e = refl
      from14 None e =
          let same = narrow-same n tags values tags' values' s e in
          rw (repeat-same n tags values tags' values' same (well-formed-fills tags values n e)) (from16 same e (first_repeat tags values n) refl)

-- ---- 30, and alike pools
pub room-least : (m a : ℕ) → (leb m a && leb m cell_limit) ≡ leb m (min a cell_limit)
room-least m a =
    by-test (leb m a)
    (λ e. by-test (leb m cell_limit)
    (λ o. rw (e, o) (sym (le-leb m (min a cell_limit) (omega (arith, leb-true m a e, leb-true m cell_limit o)))))
    (λ o. rw (e, o) (sym (lt-leb m (min a cell_limit) (omega (arith, leb-false m cell_limit o))))))
    (λ e. rw e (sym (lt-leb m (min a cell_limit) (omega (arith, leb-false m a e)))))

pub record Fits (tags values : List ℕ) (n : ℕ) : Type 0 where
  pub equal : length tags ≡ length values
  pub within : n ≤ length tags
  pub limit : n ≤ cell_limit

pub arrays-fit : (tags values : List ℕ) (n : ℕ) → arrays_fit tags values n ≡ true → Fits tags values n
unfolding arrays_fit
arrays-fit tags values n e =
    let (a, f) = both (eqb (length tags) (length values)) _ e in
    let (b, c) = both (leb n (length tags)) _ f in
    record { equal = eqb-true _ _ a; within = leb-true n (length tags) b; limit = leb-true n cell_limit c }

module _ (tags values tags' values' : List ℕ) (s : Alike tags values tags' values') where
  -- as many cells fit
  pub room-alike : (m : ℕ) → (leb m (length tags') && leb m cell_limit) ≡ (leb m (length tags) && leb m cell_limit)
  room-alike m = room-least m (length tags') ∙ (rw s.room (sym (room-least m (length tags))))

  pub fit-alike : (n : ℕ) → arrays_fit tags' values' n ≡ arrays_fit tags values n
  unfolding arrays_fit
  fit-alike n = ap₂ ◌&&◌ s.sizes (room-alike n)

  pub used-alike : (n : ℕ) → arrays_fit tags values n ≡ true → NarrowSame n tags values tags' values'
  used-alike n e =
      let f = arrays-fit tags values n e in
      let f' = arrays-fit tags' values' n (fit-alike n ∙ e) in
      record {
        long = omega arith;
        long' = omega arith;
        tags-narrow = λ i h. s.tags-alike i (omega arith) (omega arith);
        values_same = λ i h. s.values_same i (omega arith) (omega arith);
      }

  pub pool-alike : (rules : List ℕ) (n : ℕ) → check_pool tags' values' rules n ≡ check_pool tags values rules n
  unfolding check_pool
  pool-alike rules n =
      rw (fit-alike n)
      (by-test (arrays_fit tags values n)
      (λ e. rw e (ap (and_then (table_answer rules)) (cells_same tags values tags' values' rules n (used-alike n e)))) (λ e. rw e))
