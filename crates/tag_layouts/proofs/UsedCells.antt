-- What two alike pools share once the first has passed its checks.
--     Used          the cells below n are the same, as places and as lists, and so is the room
--     used          alike pools do
--     term-same, tree-same, mark-same     whether a place is a term's, its tree, and the marks of its free variables
-- Assumes nothing.
use Prim.Native.Nat.{ℕ, ◌≤◌, ◌<◌}
use mathlib.Core.Path.{◌≡◌, ◌∙◌}
use mathlib.Core.Bool.{true}
use mathlib.Core.List.{List}
use lib.ListN.{length, get_or, take}
use lib.Dec.{ltb, eqb}
use native.Mathlib.Omega.{arith}
use borrow.Author.Tests.{ltb-true, eqb-true, eq-eqb, le-leb}
use Rattle.cells.specs.ByPlace.{by-test}
use Rattle.cells.specs.Limits.{cell_limit}
use Rattle.headers.specs.WellFormed.{is_term}
use Rattle.descriptions.proofs.description.Growth.{Same}
use Rattle.free_variables.specs.Free.{mark_of}
use Rattle.pool.specs.Check.{arrays_fit}
use Rattle.meaning.specs.Tree.{tree}
use Rattle.meaning.proofs.trees.Passed.{Passed}
use Rattle.meaning.proofs.places.SameTree.{tree-kept}
use Rattle.meaning.proofs.patterns.Trees.{term-below}
use Rattle.formulas.specs.Built.{Pool, count}
use Rattle.building.specs.Arrays.{fits}
use Rattle.normal_form.proofs.Clausal.{take_same}
use Rattle.clausification.proofs.Kept.{var-room, free-kept}
use Rattle.tag_layouts.specs.Narrowed.{Alike}
use Rattle.tag_layouts.proofs.WellFormed.{narrow-same}
use Rattle.tag_layouts.proofs.PoolCheck.{arrays-fit, room-alike, fit-alike, used-alike}

pub record Used (n : ℕ) (tags values tags' values' : List ℕ) : Type 0 where
  pub same : Same n tags values tags' values'
  pub tags-used : take n tags' ≡ take n tags
  pub values-used : take n values' ≡ take n values
  pub room : (q : Pool) → fits q (length tags') ≡ fits q (length tags)

pub passed-fit : {tags values rules : List ℕ} {n : ℕ} → Passed tags values rules n → arrays_fit tags values n ≡ true
unfolding arrays_fit
passed-fit {tags} {values} {rules} {n} c =
    let l : n ≤ length tags = omega (arith, c.whole, c.equal) in
    rw (eq-eqb (length tags) (length values) c.equal, le-leb n (length tags) l, le-leb n cell_limit c.limit)

module _ {tags values rules : List ℕ} {n : ℕ} (tags' values' : List ℕ) (s : Alike tags values tags' values') (c : Passed tags values rules n) where
  pub used : Used n tags values tags' values'
  unfolding fits
  used =
      let same : Same n tags values tags' values' =
      narrow-same n tags values tags' values' (used-alike tags values tags' values' s n (passed-fit c)) c.formed in
      let f' = arrays-fit tags' values' n (fit-alike tags values tags' values' s n ∙ passed-fit c) in
      record {
        same = same;
        tags-used = take_same n tags tags' (omega (arith, c.whole, c.equal)) f'.within same.tags-same;
        values-used = take_same n values values' same.long same.long' same.values_same;
        room = λ q. room-alike tags values tags' values' s (count q);
      }

-- ---- what a place says
module _ {tags values rules : List ℕ} {n : ℕ} (c : Passed tags values rules n) (tags' values' : List ℕ) (u : Used n tags values tags' values') where
  pub term-same : (t : ℕ) → is_term tags' n t ≡ is_term tags n t
  unfolding is_term
  term-same t = by-test (ltb t n) (λ e. rw (u.same.tags-same t (ltb-true t n e))) (λ e. rw e)

  pub tree-same : (t : ℕ) → is_term tags n t ≡ true → tree tags' values' t ≡ tree tags values t
  tree-same t h = let (l, m) = term-below c t h in tree-kept n tags values tags' values' u.same c.formed t l m

  pub mark-same : (t : ℕ) → is_term tags n t ≡ true → (v : ℕ) → mark_of tags' values' n t v ≡ mark_of tags values n t v
  unfolding mark_of
  mark-same t h v =
      let (l, m) = term-below c t h in
      by-test (ltb v n)
      (λ e.
      let b : v < n = ltb-true v n e in
      rw (u.same.tags-same v b)
      (by-test (eqb (get_or tags v 0) 21)
      (λ o. rw (free-kept n tags values tags' values' u.same c.formed v
      (var-room n tags values tags' values' u.same c.formed v b (eqb-true _ 21 o)) t l))
      (λ o. rw o)))
      (λ e. rw e)
