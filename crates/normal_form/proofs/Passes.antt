-- What an accepted normal form or clause list leaves passes the pool check under the same table: it states Bool in every `not`, `and` and
-- `or`, and a table that loads has that sort for them (41).
--     passed-checks          a pool that passes each check passes the pool check
--     normal-form-passes     of the normal form's call
--     clause-list-passes     of the clause list's
-- Assumes nothing.
use Rattle.std.specs.Prelude.{None, Some}
use Prim.Native.Nat.{ℕ, ◌+◌, ◌≤◌, ◌<◌}
use mathlib.Core.Path.{◌≡◌, refl, sym, ap, ◌∙◌}
use mathlib.Core.Bool.{Bool, true, not}
use mathlib.Core.List.{List, [], ◌∷◌}
use lib.ListN.{length, get_or}
use lib.Seq.{get_or-take}
use lib.Dec.{ltb}
use native.Mathlib.Omega.{arith}
use borrow.Author.Tests.{ltb-true, ltb-false, eqb-true, eq-eqb, ne_eqb, le-leb}
use Rattle.cells.specs.ByPlace.{by-test}
use Rattle.cells.specs.Cell.{cells_of, sort_of, same_cells, is_at}
use Rattle.cells.proofs.Walks.{first-end}
use Rattle.headers.specs.WellFormed.{shape_of, count_fits, is_term_tag, header_fits, first_bad}
use Rattle.answers.specs.Answer.{accepted}
use Rattle.answers.specs.declared.Answer.{Answer}
use Rattle.descriptions.specs.Description.{first_repeat}
use Rattle.sort_table.specs.TableAnswer.{table_answer}
use Rattle.sort_table.proofs.loading.Loaded.{BoolConnectives, loaded-connectives}
use Rattle.sorts.specs.SortRule.{made, is_sort, by_rule, compute_sort, states_sort}
use Rattle.pool.specs.Check.{arrays_fit, check_cells, check_pool, and_then}
use Rattle.meaning.specs.Term.{stated}
use Rattle.meaning.specs.Tree.{tree}
use Rattle.meaning.specs.SortTree.{sort_of_term}
use Rattle.meaning.proofs.trees.Header.{Described, term-tagged}
use Rattle.meaning.proofs.trees.Walk.{place-described}
use Rattle.meaning.proofs.trees.SortRules.{states-computed}
use Rattle.meaning.proofs.trees.WrongSort.{computed-sorted}
use Rattle.meaning.proofs.trees.Passed.{Passed, computed-sort}
use Rattle.formulas.specs.Built.{Pool, count}
use Rattle.meaning.proofs.places.FormTree.{first-bool}
use Rattle.meaning.proofs.places.SameTree.{formed-kept}
use Rattle.building.specs.Arrays.{pool_of}
use Rattle.building.proofs.Interning.{Grows}
use Rattle.normal_form.proofs.Repeats.{repeat-same}
use Rattle.normal_form.proofs.NewTerms.{BuiltTag, forall-tag, exists-tag, not-tag, and-tag, or-tag, Clean}
use Rattle.normal_form.specs.Calls.{NormalForm, ClauseList}
use Rattle.normal_form.proofs.TreeGrows.{Sound}
use Rattle.normal_form.proofs.NormalFormTruth.{used-count, normal-form-is}
use Rattle.normal_form.proofs.Single.{normal-clean, clausal-clean}
use Rattle.normal_form.proofs.ClauseListTruth.{old-term, clausal-form-is}
use Rattle.normal_form.proofs.Accepted.{HoldsPool, padded-length, left-same, left-tree, normal-accepted, list-accepted}

-- ---- a pool that passes each check passes the pool check
pub passed-checks : (tags values rules : List ℕ) (n : ℕ) → Passed tags values rules n → check_pool tags values rules n ≡ accepted 0 0
unfolding check_pool and_then arrays_fit check_cells
passed-checks tags values rules n c =
    rw (
      eq-eqb (length tags) (length values) c.equal,
      le-leb n (length tags) (omega (arith, c.equal, c.whole)),
      le-leb n 8192 c.limit,
      eq-eqb (table_answer rules).code 0 c.loaded,
      ne_eqb n 0 c.some,
      c.formed,
      c.single,
      c.sorted,
    )

-- ---- a term that was built states the sort that is computed
module _ (tags values rules : List ℕ) (table : BoolConnectives rules) (t : ℕ) where
  computed-bool : (k : ℕ) → BuiltTag k → get_or tags t 0 ≡ k → compute_sort tags values rules t ≡ made 1 []
  unfolding compute_sort by_rule
  computed-bool _ forall-tag e = rw e
  computed-bool _ exists-tag e = rw e
  computed-bool _ not-tag e = rw (e, table.for-not)
  computed-bool _ and-tag e = rw (e, table.for-and)
  computed-bool _ or-tag e = rw (e, table.for-or)

no_cells : (l : List ℕ) → length l ≡ 0 → l ≡ []
no_cells [] e = refl
no_cells (x ∷ l) e = absurd (omega arith)

module _ (tags values : List ℕ) (n : ℕ) (whole : n ≤ length values) (formed : first_bad tags values n ≡ None) (some-cell : 0 < n) where
  bool-here : is_at tags values 0 1 [] ≡ true
  unfolding is_at same_cells shape_of count_fits
  bool-here =
      let e : get_or tags 0 0 ≡ 1 = first-bool tags values n formed some-cell in
      let d : Described tags values 0 = place-described tags values n formed whole 0 some-cell (λ z. omega (arith, e)) in
      let k : cells_of values 0 ≡ [] = no_cells (cells_of values 0) (eqb-true _ 0 (rw e at d.count)) in
      rw (e, k)

  built-states : (rules : List ℕ) → BoolConnectives rules → (t : ℕ) → get_or values (t + 1) 0 ≡ 0 → BuiltTag (get_or tags t 0) → states_sort tags values rules t ≡ true
  unfolding states_sort sort_of is_sort
  built-states rules table t e b = rw (e, computed-bool tags values rules table t (get_or tags t 0) b refl) bool-here

-- ---- arrays that hold a pool which goes on from one that passes
module _ {tags values rules : List ℕ} {n : ℕ} (c : Passed tags values rules n) where
  module _ {q : Pool} (s : Sound q) (grows : Grows (pool_of tags values n) q) (clean : Clean n q)
      {tags' values' : List ℕ} (h : HoldsPool q (length tags) tags' values') where
    whole' : count q ≤ length values'
    whole' = (left-same s h).long'

    formed' : first_bad tags' values' (count q) ≡ None
    formed' =
        formed-kept (count q) q.tags q.values tags' values' (left-same s h) s.formed (count q) (omega arith)
        (sym (first-end values' (count q) (λ p. not (header_fits tags' values' (count q) p)) _ (count q) refl (omega arith)))

    single' : first_repeat tags' values' (count q) ≡ None
    single' = repeat-same (count q) q.tags q.values tags' values' (left-same s h) s.good.fills ∙ clean.single

    sorted-at : (t : ℕ) → t < count q → is_term_tag (get_or tags' t 0) ≡ true → sort_of_term rules (tree tags' values' t) ≡ Some (stated (tree tags' values' t))
    sorted-at t l k =
        let tag_same : get_or tags' t 0 ≡ get_or q.tags t 0 = (left-same s h).tags-same t l in
        let k₁ : is_term_tag (get_or q.tags t 0) ≡ true = rw tag_same at k in
        by-test (ltb t n)
        (λ e.
        let m : t < n = ltb-true t n e in
        let old : get_or q.tags t 0 ≡ get_or tags t 0 = grows.tags-same t (omega (arith, used-count c)) ∙ get_or-take n tags t 0 m in
        let k₂ : is_term_tag (get_or tags t 0) ≡ true = rw old at k₁ in
        rw (left-tree s h t (l, k₁) ∙ old-term c q s.good grows t m k₂) (computed-sort c t m k₂))
        (λ e.
        let new = clean.built t (ltb-false t n e) l (term-tagged _ k₁) in
        states-computed tags' values' (count q) whole' formed' rules t l k
        (built-states tags' values' (count q) whole' formed' s.some rules (loaded-connectives rules c.loaded) t
        ((left-same s h).values_same (t + 1) new.inside ∙ new.states-bool) (rw tag_same new.tag)))

    left_passed : Passed tags' values' rules (count q)
    left_passed = record {
      equal =
          ap length h.tags-are
          ∙ (padded-length q.tags (length tags) h.room
          ∙ sym (ap length h.values-are ∙ padded-length q.values (length tags) (omega (arith, s.good.size, h.room))));
      whole = whole';
      limit = h.small;
      loaded = c.loaded;
      some = λ z. omega (arith, s.some);
      formed = formed';
      single = single';
      sorted = computed-sorted tags' values' rules (count q) whole' formed' single' sorted-at;
    }

    left-checks : (m : ℕ) → m ≡ count q → check_pool tags' values' rules m ≡ accepted 0 0
    left-checks m e = rw e (passed-checks tags' values' rules (count q) left_passed)

-- ---- the two calls
pub normal-form-passes : {tags values rules : List ℕ} {n t : ℕ} {polarity : Bool} {r : Answer} {tags' values' : List ℕ}
    → NormalForm tags values rules n t polarity r tags' values' → r.code ≡ 0 → check_pool tags' values' rules r.second ≡ accepted 0 0
normal-form-passes {tags} {values} {rules} {n} {t} {polarity} {r} {tags'} {values'} f ok =
    let a = normal-accepted f ok in
    let c = a.checked in
    let i = normal-form-is c.passed t c.below c.term polarity in
    left-checks c.passed i.sound i.grows (normal-clean c.passed t polarity) a.holds r.second a.counted

pub clause-list-passes : {tags values rules : List ℕ} {n t : ℕ} {literals ends : List ℕ} {r : Answer} {m : ℕ} {tags' values' literals' ends' : List ℕ}
    → ClauseList tags values rules n t literals ends r m tags' values' literals' ends' → r.code ≡ 0 → check_pool tags' values' rules m ≡ accepted 0 0
clause-list-passes {tags} {values} {rules} {n} {t} {literals} {ends} {r} {m} {tags'} {values'} {literals'} {ends'} f ok =
    let a = list-accepted f ok in
    let c = a.checked in
    let i = clausal-form-is c.passed t c.below c.term in
    left-checks c.passed i.sound i.grows (clausal-clean c.passed t) a.holds m a.counted
