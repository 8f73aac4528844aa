-- Laws of `Check`, one for each way out of a function.
-- Assumes nothing.
use Rattle.std.specs.Prelude.{Option, Some, None}
use Prim.Native.Nat.{ℕ, suc, ◌≤◌, ◌<◌}
use mathlib.Core.Path.{◌≡◌, sym, ◌∙◌}
use mathlib.Core.Bool.{Bool, true, false, not}
use mathlib.Core.List.{List}
use lib.ListN.{length}
use lib.Dec.{leb, eqb}
use native.Mathlib.Omega.{arith}
use mir.Val.{Fits}
use mir.Syntax.{w32}
use borrow.Author.Tests.{le-leb, lt-leb, eq-eqb, ne_eqb, leb-true, not-true, not-false}
use Rattle.cells.specs.ByPlace.{by-test}
use Rattle.answers.specs.Answer.{accepted, ill_formed, repeated, wrong_sort, not_a_term, bad_arrays}
use Rattle.headers.specs.WellFormed.{first_bad, is_term}
use Rattle.descriptions.specs.Description.{first_repeat}
use Rattle.descriptions.specs.Index.{Indexes}
use Rattle.sorts.specs.SortRule.{first_wrong_sort}
use Rattle.sort_table.specs.TableAnswer.{table_answer}
use Rattle.pool.specs.Check.{arrays_fit, check_cells, check_pool, Indexed, and_then, check_term}
use Rattle.answers.specs.Refusal.{answer_to}
use Rattle.answers.proofs.Refusals.{refused-code}
use Rattle.answers.specs.declared.Answer.{Answer}
use Rattle.answers.specs.declared.refusal.Refusal.{Refusal}
use Rattle.cells.proofs.Walks.{first_below}

-- ---- a refusal, or what comes next
module _ (a : Answer) where
  pub stop : (next : Answer) → (a.code ≡ 0 → ⊥) → a ≡ and_then a next
  unfolding and_then
  stop next h = rw (ne_eqb _ _ h)

  pub go_on : (next : Answer) → a.code ≡ 0 → next ≡ and_then a next
  unfolding and_then
  go_on next h = rw (eq-eqb _ _ h)

-- ---- a check by its answer: refused it is the refusal's, passed the code is 0
pub refused : (x : Refusal) → (answer_to x).code ≡ 0 → ⊥
refused x e = absurd (let z : false ≡ true = sym (refused-code x) ∙ eq-eqb _ _ e in let w : ◌≡◌ {A = ℕ} 0 1 = cc in omega arith)

-- ---- 30, and then 40 and 41 of the table in use
module _ (tags values : List ℕ) (n : ℕ) where
  pub fit-lengths : (length tags ≡ length values → ⊥) → false ≡ arrays_fit tags values n
  unfolding arrays_fit
  fit-lengths h = rw (ne_eqb _ _ h)

  module _ (e : length tags ≡ length values) where
    pub fit-short : length tags < n → false ≡ arrays_fit tags values n
    unfolding arrays_fit
    fit-short h = rw (eq-eqb _ _ e, lt-leb _ _ h)

    pub fit-rest : n ≤ length tags → leb n 8192 ≡ arrays_fit tags values n
    unfolding arrays_fit
    fit-rest h = rw (eq-eqb _ _ e, le-leb _ _ h)

  -- arrays that fit hold at most 8,192 used cells, all of them there
  fit_all : arrays_fit tags values n ≡ true → (n ≤ length tags) × (n ≤ 8192)
  unfolding arrays_fit
  fit_all e =
      by-test (eqb (length tags) (length values))
      (λ a. by-test (leb n (length tags))
      (λ b. (leb-true n (length tags) b, leb-true n 8192 (rw (a, b) at e)))
      (λ b. let z : false ≡ true = rw (a, b) at e in absurd (no z)))
      (λ a. let z : false ≡ true = rw a at e in absurd (no z))
    where
      no : false ≡ true → ⊥
      no z = let w : ◌≡◌ {A = ℕ} 0 1 = cc in omega arith

  module _ (r : Bool) (is : r ≡ arrays_fit tags values n) where
    pub fit-size : not r ≡ false → n ≤ 8192
    fit-size e = (fit_all (sym is ∙ not-false r e)).1

    pub pool-arrays : (rules : List ℕ) → not r ≡ true → (made : Answer) → made ≡ bad_arrays → made ≡ check_pool tags values rules n
    unfolding check_pool
    pool-arrays rules e made q = rw (← is, not-true r e) q

    module _ (rules : List ℕ) (e : not r ≡ false) (table : Answer) (of-table : table ≡ table_answer rules) where
      pub pool-table : (table.code ≡ 0 → ⊥) → table ≡ check_pool tags values rules n
      unfolding check_pool
      pool-table h = rw (← is, not-false r e, ← of-table) (stop table _ h)

      pub pool-cells : table.code ≡ 0 → (a : Answer) → a ≡ check_cells tags values rules n → a ≡ check_pool tags values rules n
      unfolding check_pool
      pool-cells h a q = q ∙ rw (← is, not-false r e, ← of-table) (go_on table _ h)

pub ruleset fits = (fit-lengths, fit-short, fit-rest)

-- ---- 14, 15, 16: what the walks found
module _ (tags values rules : List ℕ) (n : ℕ) where
  pub cells-none : n ≡ 0 → (made : Answer) → made ≡ ill_formed 0 → made ≡ check_cells tags values rules n
  unfolding check_cells
  cells-none h made q = rw (eq-eqb _ _ h) q

  module _ (h : n ≡ 0 → ⊥) (bad : Option ℕ) (is-bad : bad ≡ first_bad tags values n) where
    pub cells-bad : (p : ℕ) → bad ≡ Some p → (made : Answer) → made ≡ ill_formed p → made ≡ check_cells tags values rules n
    unfolding check_cells
    cells-bad p e made q = rw (ne_eqb _ _ h, ← is-bad, e) q

    module _ (good : bad ≡ None) (rep : Option ℕ) (is-rep : rep ≡ first_repeat tags values n) where
      pub cells-repeated : (p : ℕ) → rep ≡ Some p → (made : Answer) → made ≡ repeated p → made ≡ check_cells tags values rules n
      unfolding check_cells
      cells-repeated p e made q = rw (ne_eqb _ _ h, ← is-bad, good, ← is-rep, e) q

      module _ (once : rep ≡ None) (wrong : Option ℕ) (is-wrong : wrong ≡ first_wrong_sort tags values rules n) where
        pub cells-wrong : (p : ℕ) → wrong ≡ Some p → (made : Answer) → made ≡ wrong_sort p → made ≡ check_cells tags values rules n
        unfolding check_cells
        cells-wrong p e made q = rw (ne_eqb _ _ h, ← is-bad, good, ← is-rep, once, ← is-wrong, e) q

        pub cells_right : wrong ≡ None → (made : Answer) → made ≡ accepted 0 0 → made ≡ check_cells tags values rules n
        unfolding check_cells
        cells_right e made q = rw (ne_eqb _ _ h, ← is-bad, good, ← is-rep, once, ← is-wrong, e) q

-- ---- the index: a refusal leaves any, a pool that passes its own
module _ (tags values : List ℕ) (n : ℕ) (made : Answer) (index : List ℕ) where
  other-code : (k : ℕ) → made.code ≡ suc k → Indexed tags values n made index
  other-code k e = record { passed = λ z. absurd (omega arith) }

  pub indexed-bad : (p : ℕ) → made ≡ ill_formed p → Indexed tags values n made index
  indexed-bad p e = other-code 13 (rw e)

  pub indexed-repeated : (p : ℕ) → made ≡ repeated p → Indexed tags values n made index
  indexed-repeated p e = other-code 14 (rw e)

  pub indexed-wrong : (p : ℕ) → made ≡ wrong_sort p → Indexed tags values n made index
  indexed-wrong p e = other-code 15 (rw e)

  pub indexed-table : (made.code ≡ 0 → ⊥) → Indexed tags values n made index
  indexed-table h = record { passed = λ z. absurd (h z) }

  pub indexed-right : n ≤ 8192 → (bad : Option ℕ) → bad ≡ first_bad tags values n → bad ≡ None → (rep : Option ℕ) → rep ≡ first_repeat tags values n → rep ≡ None
      → Indexes tags values n index → Indexed tags values n made index
  indexed-right small bad is-bad good rep is-rep once i = record { passed = λ z. i.whole small (sym is-bad ∙ good) (sym is-rep ∙ once) }

-- a place that a walk found stands below n, and fits u32 as n does
module _ (tags values rules : List ℕ) (n p : ℕ) (small : n ≤ 8192) (found : Option ℕ) (at : found ≡ Some p) where
  fit : p < n → Fits w32 p
  fit h = record { fits = omega arith }

  pub bad-fits : found ≡ first_bad tags values n → Fits w32 p
  unfolding first_bad
  bad-fits e = fit (first_below values n _ p (sym e ∙ at))

  pub repeat-fits : found ≡ first_repeat tags values n → Fits w32 p
  unfolding first_repeat
  repeat-fits e = fit (first_below values n _ p (sym e ∙ at))

  pub wrong-fits : found ≡ first_wrong_sort tags values rules n → Fits w32 p
  unfolding first_wrong_sort
  wrong-fits e = fit (first_below values n _ p (sym e ∙ at))

module _ (tags values rules : List ℕ) (n t : ℕ) where
  module _ (a : Answer) (is : a ≡ check_pool tags values rules n) where
    pub term-refused : (a.code ≡ 0 → ⊥) → a ≡ check_term tags values rules n t
    unfolding check_term
    term-refused h = rw (← is) (stop a _ h)

    module _ (h : a.code ≡ 0) (r : Bool) (e : r ≡ is_term tags n t) where
      pub term-not : not r ≡ true → (made : Answer) → made ≡ not_a_term t → made ≡ check_term tags values rules n t
      unfolding check_term
      term-not o made q = q ∙ rw (← is, ← e, not-true r o) (go_on a _ h)

      pub term_is : not r ≡ false → (made : Answer) → made ≡ accepted 0 0 → made ≡ check_term tags values rules n t
      unfolding check_term
      term_is o made q = q ∙ rw (← is, ← e, not-false r o) (go_on a _ h)
