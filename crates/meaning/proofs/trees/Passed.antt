-- What a pool that passes the pool check is, and the theorems on its trees.
-- Assumes nothing.
use Prim.Native.Nat.{ℕ, suc, ◌+◌, ◌≤◌, ◌<◌}
use mathlib.Core.Path.{◌≡◌, refl, sym, ap, ◌∙◌}
use mathlib.Core.Bool.{Bool, true, false, not, ◌&&◌, cond}
use mathlib.Core.List.{List, [], ◌∷◌}
use Rattle.std.specs.Prelude.{Option, Some, None}
use lib.ListN.{length, get_or}
use lib.Dec.{eqb, leb}
use native.Mathlib.Omega.{arith}
use borrow.Author.Tests.{eqb-true, eqb-false, leb-true, eq-eqb, not-false}
use Rattle.cells.specs.ByPlace.{by-test}
use Rattle.answers.specs.Answer.{accepted, ill_formed, repeated, wrong_sort, not_a_term, bad_arrays, refuse_at}
use Rattle.cells.specs.Cell.{cells_of, sort_of, is_at}
use Rattle.headers.specs.WellFormed.{first_bad, is_sort_tag, is_term_tag, is_term}
use Rattle.descriptions.specs.Description.{find, first_repeat}
use Rattle.sorts.specs.SortRule.{states_sort, first_wrong_sort}
use Rattle.sort_table.specs.TableAnswer.{table_answer}
use Rattle.pool.specs.Check.{arrays_fit, check_cells, check_pool, and_then, check_term}
use Rattle.free_variables.specs.Free.{is_free}
use Rattle.meaning.specs.Term.{Var, stated}
use Rattle.meaning.specs.FreeTree.{free, var_at}
use Rattle.meaning.specs.Tree.{sort_from, sort_tree, term_from, tree}
use Rattle.meaning.specs.SortTree.{sort_of_term}
use Rattle.answers.specs.declared.Answer.{Answer}
use Rattle.cells.proofs.Cells.{same_refl, same-eq}
use Rattle.cells.proofs.Walks.{first_below, found-holds}
use Rattle.meaning.proofs.trees.Header.{Header, header, term-tagged}
use Rattle.meaning.proofs.trees.Walk.{place-fits, place-passes}
use Rattle.meaning.proofs.trees.Sorts.{sort-is, sort-one}
use Rattle.meaning.proofs.trees.Terms.{term_is, term-one}
use Rattle.meaning.proofs.trees.Stated.{sort-place, stated-is, var-cells}
use Rattle.meaning.proofs.trees.Free.{free-is}
use Rattle.meaning.proofs.trees.WrongSort.{sorted-computed}
use Rattle.meaning.proofs.trees.Occurs.{Stands, stands}

-- ---- the checks that have passed
pub record Passed (tags values rules : List ℕ) (n : ℕ) : Type 0 where
  pub equal : length tags ≡ length values
  pub whole : n ≤ length values
  pub limit : n ≤ 8192
  pub loaded : (table_answer rules).code ≡ 0
  pub some : n ≡ 0 → ⊥
  pub formed : first_bad tags values n ≡ None
  pub single : first_repeat tags values n ≡ None
  pub sorted : first_wrong_sort tags values rules n ≡ None

-- an answer with another number is no acceptance
refused : {A : Type 0} (a : Answer) → (a.code ≡ 0 → ⊥) → a ≡ accepted 0 0 → A
refused a h e = absurd (h (ap (λ (x : Answer). x.code) e))

both : (a b : Bool) → a && b ≡ true → (a ≡ true) × (b ≡ true)
both true b e = (refl, e)
both false b e = let y : ◌≡◌ {A = ℕ} 0 1 = cc in absurd (omega arith)

passes : (refusal : ℕ → Answer) → ((p : ℕ) → (refusal p).code ≡ 0 → ⊥) → (w : Option ℕ) (next : Answer) → refuse_at refusal w next ≡ accepted 0 0 → (w ≡ None) × (next ≡ accepted 0 0)
passes refusal h (Some p) next e = refused (refusal p) (h p) e
passes refusal h None next e = (refl, e)

holds : (b : Bool) (x y : Answer) → (y.code ≡ 0 → ⊥) → cond b x y ≡ accepted 0 0 → (b ≡ true) × (x ≡ accepted 0 0)
holds true x y h e = (refl, e)
holds false x y h e = refused y h e

fails : (b : Bool) (x y : Answer) → (x.code ≡ 0 → ⊥) → cond b x y ≡ accepted 0 0 → (b ≡ false) × (y ≡ accepted 0 0)
fails true x y h e = refused x h e
fails false x y h e = (refl, e)

module _ (tags values rules : List ℕ) (n : ℕ) where
  arrays-fit : arrays_fit tags values n ≡ true → (length tags ≡ length values) × (n ≤ length tags) × (n ≤ 8192)
  unfolding arrays_fit
  arrays-fit e =
      let (a, f) = both (eqb (length tags) (length values)) _ e in
      let (b, c) = both (leb n (length tags)) _ f in
      (eqb-true _ _ a, leb-true _ _ b, leb-true _ _ c)

  cells-pass : arrays_fit tags values n ≡ true → (table_answer rules).code ≡ 0 → check_cells tags values rules n ≡ accepted 0 0 → Passed tags values rules n
  unfolding check_cells
  cells-pass fit loaded e =
      let (equal, whole, limit) = arrays-fit fit in
      let (some, e₁) = fails (eqb n 0) (ill_formed 0) from14 (λ z. omega arith) e in
      let (formed, e₂) = passes ill_formed (λ p z. omega arith) (first_bad tags values n) from15 e₁ in
      let (single, e₃) = passes repeated (λ p z. omega arith) (first_repeat tags values n) from16 e₂ in
      let (sorted, e₄) = passes wrong_sort (λ p z. omega arith) (first_wrong_sort tags values rules n) (accepted 0 0) e₃ in
      record {
        equal = equal;
        whole = omega arith;
        limit = limit;
        loaded = loaded;
        some = eqb-false n 0 some;
        formed = formed;
        single = single;
        sorted = sorted;
      }
    where
      from16 : Answer
      from16 = refuse_at wrong_sort (first_wrong_sort tags values rules n) (accepted 0 0)

      from15 : Answer
      from15 = refuse_at repeated (first_repeat tags values n) from16

      from14 : Answer
      from14 = refuse_at ill_formed (first_bad tags values n) from15

  pub pool-passes : check_pool tags values rules n ≡ accepted 0 0 → Passed tags values rules n
  unfolding check_pool and_then
  pool-passes e =
      let (fit, rest) = holds (arrays_fit tags values n) (and_then (table_answer rules) (check_cells tags values rules n)) bad_arrays (λ z. omega arith) e in
      by-test (eqb (table_answer rules).code 0) (λ l. cells-pass fit (eqb-true _ 0 l) (rw l at rest))
      (λ l. refused (table_answer rules) (eqb-false _ 0 l) (rw l at rest))

  -- an acceptance carries no number
  pub pool-accepts : (check_pool tags values rules n).code ≡ 0 → check_pool tags values rules n ≡ accepted 0 0
  unfolding check_pool and_then check_cells
  pool-accepts e =
      by-test (arrays_fit tags values n)
      (λ a. by-test (eqb (table_answer rules).code 0)
      (λ l. by-test (eqb n 0) (λ b. absurd (other 13 (rw (a, l, b) at e)))
      (λ b. rw (a, l, b)
      (after ill_formed (λ p z. omega arith) (first_bad tags values n) _
      (λ e₁. after repeated (λ p z. omega arith) (first_repeat tags values n) _
      (λ e₂. after wrong_sort (λ p z. omega arith) (first_wrong_sort tags values rules n) _ (λ e₃. refl) e₂) e₁)
      (rw (a, l, b) at e))))
      (λ l. absurd (eqb-false _ 0 l (rw (a, l) at e))))
      (λ a. absurd (other 29 (rw a at e)))
    where
      other : (k : ℕ) → suc k ≡ 0 → ⊥
      other k z = omega arith

      after : (refusal : ℕ → Answer) → ((p : ℕ) → (refusal p).code ≡ 0 → ⊥) → (w : Option ℕ) (next : Answer) → (next.code ≡ 0 → next ≡ accepted 0 0) → (refuse_at refusal w next).code ≡ 0 → refuse_at refusal w next ≡ accepted 0 0
      after refusal h (Some p) next f e = absurd (h p e)
      after refusal h None next f e = f e

  pub term-accepts : (t : ℕ) → (check_term tags values rules n t).code ≡ 0 → check_term tags values rules n t ≡ accepted 0 0
  unfolding check_term and_then
  term-accepts t e =
      by-test (eqb (check_pool tags values rules n).code 0)
      (λ a. by-test (is_term tags n t) (λ b. rw (a, b)) (λ b. absurd (other (rw (a, b) at e))))
      (λ a. absurd (eqb-false _ 0 a (rw a at e)))
    where
      other : ◌≡◌ {A = ℕ} 17 0 → ⊥
      other z = omega arith

  pub term-passes : (t : ℕ) → check_term tags values rules n t ≡ accepted 0 0 → Passed tags values rules n × (is_term tags n t ≡ true)
  unfolding check_term and_then
  term-passes t e =
      by-test (eqb (check_pool tags values rules n).code 0)
      (λ a. (
        pool-passes (pool-accepts (eqb-true _ 0 a)),
        (holds (is_term tags n t) (accepted 0 0) (not_a_term t) (λ z. omega arith) (rw a at e)).0,
      ))
      (λ a. refused (check_pool tags values rules n) (eqb-false _ 0 a) (rw a at e))

-- ---- the trees of a pool that passes
module _ {tags values rules : List ℕ} {n : ℕ} (c : Passed tags values rules n) where
  -- a place with a tag is a header with its cells below n, each with tag 0 and holding what it must: an earlier sort or term where it names
  -- one
  pub header_at : (t : ℕ) → t < n → (get_or tags t 0 ≡ 0 → ⊥) → Header tags values n t
  header_at t h tag = header tags values n t (place-fits tags values n c.formed t h tag)

  pub sort-of-cells : (s : ℕ) → s < n → is_sort_tag (get_or tags s 0) ≡ true → sort_tree tags values s ≡ sort_from (get_or tags s 0) (cells_of values s) (sort_tree tags values)
  sort-of-cells = sort-is tags values n c.whole c.formed

  pub term-of-cells : (t : ℕ) → t < n → is_term_tag (get_or tags t 0) ≡ true
      → tree tags values t ≡ term_from (get_or tags t 0) (cells_of values t) (sort_tree tags values) (tree tags values)
  term-of-cells = term_is tags values n c.whole c.formed

  pub one-sort : (s u : ℕ) → s < n → u < n → is_sort_tag (get_or tags s 0) ≡ true → is_sort_tag (get_or tags u 0) ≡ true
      → sort_tree tags values s ≡ sort_tree tags values u → s ≡ u
  one-sort = sort-one tags values n c.whole c.formed c.single

  pub one-term : (t u : ℕ) → t < n → u < n → is_term_tag (get_or tags t 0) ≡ true → is_term_tag (get_or tags u 0) ≡ true
      → tree tags values t ≡ tree tags values u → t ≡ u
  one-term = term-one tags values n c.whole c.formed c.single

  pub sort-of-term : (t : ℕ) → t < n → is_term_tag (get_or tags t 0) ≡ true → stated (tree tags values t) ≡ sort_tree tags values (sort_of values t)
  sort-of-term = stated-is tags values n c.whole c.formed

  pub free-of-tree : (v : ℕ) → v < n → get_or tags v 0 ≡ 21 → (t : ℕ) → t < n → is_term_tag (get_or tags t 0) ≡ true
      → is_free tags values v t ≡ free (tree tags values t) (var_at tags values v)
  free-of-tree = free-is tags values n c.whole c.formed c.single

  -- every term states the sort that is computed of its tree
  pub computed-sort : (t : ℕ) → t < n → is_term_tag (get_or tags t 0) ≡ true → sort_of_term rules (tree tags values t) ≡ Some (stated (tree tags values t))
  computed-sort = sorted-computed tags values rules n c.whole c.formed n (omega arith) c.sorted

  pub sort-place-of : (t : ℕ) → t < n → is_term_tag (get_or tags t 0) ≡ true → (sort_of values t < t) × (is_sort_tag (get_or tags (sort_of values t) 0) ≡ true)
  sort-place-of = sort-place tags values n c.whole c.formed

  pub cells-of-var : (v : ℕ) → v < n → get_or tags v 0 ≡ 21 → cells_of values v ≡ sort_of values v ∷ get_or values (v + 2) 0 ∷ []
  cells-of-var = var-cells tags values n c.whole c.formed

  -- a variable that is free in a term has a place of its own
  pub free-stands : (v : Var) (t : ℕ) → t < n → is_term_tag (get_or tags t 0) ≡ true → free (tree tags values t) v ≡ true → Stands tags values n v
  free-stands = stands tags values n c.whole c.formed

  -- a term states the sort that is computed
  pub states : (t : ℕ) → t < n → is_term_tag (get_or tags t 0) ≡ true → states_sort tags values rules t ≡ true
  unfolding first_wrong_sort
  states t h k =
      not-false _ (rw k at
      (place-passes tags values n c.formed (λ u. is_term_tag (get_or tags u 0) && not (states_sort tags values rules u)) n (omega arith) c.sorted t h (term-tagged _ k)))

  -- the place that `find` gives has the description, and where it gives none no place has it
  pub found_at : (tag : ℕ) (cells : List ℕ) (p : ℕ) → find tags values n tag cells ≡ Some p → (p < n) × (get_or tags p 0 ≡ tag) × (cells_of values p ≡ cells)
  unfolding find is_at
  found_at tag cells p e =
      let (t, k) = both (eqb (get_or tags p 0) tag) _ (found-holds values n (λ q. is_at tags values q tag cells) p e) in
      (first_below values n (λ q. is_at tags values q tag cells) p e, eqb-true _ _ t, same-eq _ _ k)

  pub found_none : (tag : ℕ) (cells : List ℕ) → find tags values n tag cells ≡ None
      → (p : ℕ) → p < n → (tag ≡ 0 → ⊥) → get_or tags p 0 ≡ tag → cells_of values p ≡ cells → ⊥
  unfolding find is_at
  found_none tag cells e p h tagged t k =
      let no-match : is_at tags values p tag cells ≡ false = place-passes tags values n c.formed (λ q. is_at tags values q tag cells) n (omega arith) e p h (λ z. tagged (sym t ∙ z)) in
      let match : is_at tags values p tag cells ≡ true = rw (eq-eqb _ _ t, k, same_refl) in
      let y : ◌≡◌ {A = ℕ} 0 1 = cc in omega arith
