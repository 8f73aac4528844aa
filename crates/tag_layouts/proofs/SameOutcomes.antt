-- The correspondence of the two layouts: no outcome tells alike pools apart, refusals included; so none tells a list of tags from its narrowed
-- one, nor a pool from its first cells.
--     same-outcomes       for alike pools
--     narrowed-outcomes   a list of tags and its narrowed one, for all arrays
--     byte-outcomes       what a call on u32 tags has and what it lends to one on bytes, for arrays of one length
--     any-outcome         whatever is made of the pool check's answer, the used cells and the room, for calls to come
-- Assumes nothing.
use Prim.Native.Nat.{ℕ}
use mathlib.Core.Path.{◌≡◌, fun_ext}
use mathlib.Core.Bool.{Bool, cond}
use mathlib.Core.List.{List}
use lib.ListN.{length, take}
use lib.Dec.{eqb}
use borrow.Author.Tests.{eqb-true}
use Rattle.cells.specs.ByPlace.{by-test}
use Rattle.answers.specs.declared.Answer.{Answer}
use Rattle.pool.specs.Check.{check_pool}
use Rattle.meaning.proofs.trees.Passed.{Passed, pool-passes, pool-accepts}
use Rattle.formulas.specs.Built.{Pool}
use Rattle.building.specs.Arrays.{fits}
use Rattle.tag_layouts.specs.Narrowed.{narrowed, first_cells, byte_tags, Alike}
use Rattle.tag_layouts.specs.SameOutcomes.{SameOutcomes}
use Rattle.tag_layouts.proofs.PoolCheck.{pool-alike}
use Rattle.tag_layouts.proofs.UsedCells.{used, term-same, tree-same, mark-same}
use Rattle.tag_layouts.proofs.Rules.{rule-same}
use Rattle.tag_layouts.proofs.Answers.{term-alike, sort-alike, free-alike, step-alike, normal-alike, clause-alike}
use Rattle.tag_layouts.proofs.FreeVars.{free-vars-alike}
use Rattle.tag_layouts.proofs.Alike.{narrowed-alike, byte-alike}

pub same-outcomes : (tags values tags' values' : List ℕ) → Alike tags values tags' values' → SameOutcomes tags values tags' values'
same-outcomes tags values tags' values' s = record {
  pool = pool-alike tags values tags' values' s;
  term = term-alike tags values tags' values' s;
  sort = sort-alike tags values tags' values' s;
  free = free-alike tags values tags' values' s;
  free-vars = free-vars-alike tags values tags' values' s;
  step = step-alike tags values tags' values' s;
  normal = normal-alike tags values tags' values' s;
  clauses = clause-alike tags values tags' values' s;
  shared = λ rules n e.
      let c : Passed tags values rules n = pool-passes tags values rules n (pool-accepts tags values rules n e) in
      let u = used tags' values' s c in
      record {
        tags-used = u.tags-used;
        values-used = u.values-used;
        room = u.room;
        terms = term-same c tags' values' u;
        trees = tree-same c tags' values' u;
        marks = mark-same c tags' values' u;
        rule = rule-same c tags' values' u;
      };
}

pub narrowed-outcomes : (tags values : List ℕ) → SameOutcomes tags values (narrowed tags) values
narrowed-outcomes tags values = same-outcomes tags values (narrowed tags) values (narrowed-alike tags values)

pub byte-outcomes : (tags values : List ℕ) → length tags ≡ length values → SameOutcomes tags values (byte_tags tags) (first_cells values)
byte-outcomes tags values z = same-outcomes tags values (byte_tags tags) (first_cells values) (byte-alike tags values z)

pub any-outcome : {A : Type 0} (refused : Answer → A) (next : List ℕ → List ℕ → (Pool → Bool) → A) (tags values tags' values' : List ℕ)
    → Alike tags values tags' values' → (rules : List ℕ) (n : ℕ)
    → cond (eqb (check_pool tags' values' rules n).code 0) (next (take n tags') (take n values') (λ q. fits q (length tags')))
    (refused (check_pool tags' values' rules n))
    ≡ cond (eqb (check_pool tags values rules n).code 0) (next (take n tags) (take n values) (λ q. fits q (length tags)))
    (refused (check_pool tags values rules n))
any-outcome refused next tags values tags' values' s rules n =
    rw (pool-alike tags values tags' values' s rules n)
    (by-test (eqb (check_pool tags values rules n).code 0)
    (λ e.
    let u = used tags' values' s (pool-passes tags values rules n (pool-accepts tags values rules n (eqb-true _ 0 e))) in
    let r : (λ (q : Pool). fits q (length tags')) ≡ (λ (q : Pool). fits q (length tags)) = fun_ext u.room in
    rw (u.tags-used, u.values-used, r))
    (λ e. rw e))
