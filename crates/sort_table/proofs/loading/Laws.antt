-- Laws of `TableAnswer`, one for each way out of a function.
-- Assumes nothing.
use Prim.Native.Nat.{ℕ, zero, suc, ◌+◌, ◌≤◌, ◌<◌}
use mathlib.Core.Path.{◌≡◌, refl, sym, ◌∙◌}
use mathlib.Core.Bool.{Bool, true, false, not, ◌&&◌, ◌||◌}
use mathlib.Core.List.{List}
use lib.ListN.{length, get_or}
use lib.Dec.{ltb, eqb}
use native.Mathlib.Omega.{arith}
use native.Mathlib.Numerals.{add-one}
use mir.Val.{Fits}
use mir.Syntax.{w32}
use borrow.Author.Tests.{le-leb, lt-leb, lt-ltb, le-ltb, eq-eqb, ne_eqb, eqb-true}
use Rattle.std.specs.Prelude.{Option, Some, None, Result, is_ok}
use Rattle.answers.specs.Refusal.{answer_of_check}
use Rattle.answers.specs.declared.refusal.Refusal.{Refusal}
use Rattle.answers.proofs.Refusals.{passed-code}
use Rattle.std.specs.List.{find, range_with_len}
use Rattle.std.specs.Option.{option_map}
use Rattle.std.proofs.lemmas.Iterator.Adapters.{option_map_id}
use Rattle.cells.specs.ByPlace.{by-test}
use Rattle.answers.specs.Answer.{accepted, bad_table, not_bool}
use Rattle.answers.specs.declared.Answer.{Answer}
use Rattle.sort_table.specs.Table.{built_in}
use Rattle.sort_table.specs.TableAnswer.{entry_count, first_entry, forbids, is_connective, loses_bool, table_answer, Loaded}

-- ---- the tests
module _ (rule own : ℕ) where
  pub allowed-below : rule < 7 → true ≡ (ltb rule 7 || (eqb rule 7 && eqb own 7))
  allowed-below h = rw (lt-ltb _ _ h)

  pub allowed-over : 7 ≤ rule → (rule ≡ 7 → ⊥) → false ≡ (ltb rule 7 || (eqb rule 7 && eqb own 7))
  allowed-over h o = rw (le-ltb _ _ h, ne_eqb _ _ o)

  pub allowed-own : 7 ≤ rule → rule ≡ 7 → eqb own 7 ≡ (ltb rule 7 || (eqb rule 7 && eqb own 7))
  allowed-own h e = rw (le-ltb _ _ h, eq-eqb _ _ e)

pub ruleset allowed = (allowed-below, allowed-over, allowed-own)

and-false : (a : Bool) → false ≡ a && false
and-false true = refl
and-false false = refl

module _ (i rule : ℕ) where
  pub bool-rule : rule ≡ 0 → false ≡ (is_connective i && not (eqb rule 0))
  bool-rule e = rw (eq-eqb _ _ e) (and-false (is_connective i))

  module _ (o : rule ≡ 0 → ⊥) where
    pub before-not : i < 2 → false ≡ (is_connective i && not (eqb rule 0))
    unfolding is_connective
    before-not h = rw (lt-leb _ _ h, ne_eqb i 7 (λ e. omega arith))

    module _ (l : 2 ≤ i) where
      pub not-to-or : i ≤ 5 → true ≡ (is_connective i && not (eqb rule 0))
      unfolding is_connective
      not-to-or h = rw (ne_eqb rule 0 o, le-leb _ _ l, le-leb _ _ h)

      pub after-or : 5 < i → eqb i 7 ≡ (is_connective i && not (eqb rule 0))
      unfolding is_connective
      after-or h = rw (ne_eqb rule 0 o, le-leb _ _ l, lt-leb _ _ h) (and-true (eqb i 7))
        where
          and-true : (a : Bool) → a ≡ a && true
          and-true true = refl
          and-true false = refl

pub ruleset connectives = (bool-rule, before-not, not-to-or, after-or)

-- ---- the first entry, as `find` over the range gives it
first_entry-found : (test : ℕ → Bool) (f i : ℕ) → first_entry test f i ≡ find test (range_with_len i f)
unfolding first_entry
first_entry-found test zero i = refl
first_entry-found test (suc f) i =
    by-test (test i)
    (λ e. rw e)
    (λ e. rw (e, add-one i) (first_entry-found test f (suc i)))

pub first-is : (test : ℕ → Bool) (n : ℕ) (r : Option ℕ) → option_map (λ i. i) r ≡ find test (range_with_len 0 n) → r ≡ first_entry test n 0
first-is test n r e = sym (option_map_id r) ∙ e ∙ sym (first_entry-found test n 0)

module _ (test : ℕ → Bool) where
  entry-below : (f i k : ℕ) → first_entry test f i ≡ Some k → k < i + f
  unfolding first_entry
  entry-below zero i k e = let z : ◌≡◌ {A = ℕ} 0 1 = cc in absurd (omega arith)
  entry-below (suc f) i k e =
      by-test (test i)
      (λ o. let d : Some i ≡ Some k = rw o at e in let z : i ≡ k = cc in omega arith)
      (λ o. let d : first_entry test f (suc i) ≡ Some k = rw o at e in omega (arith, entry-below f (suc i) k d))

  pub entry-fits : (found : Option ℕ) (k : ℕ) → found ≡ first_entry test entry_count 0 → found ≡ Some k → Fits w32 k
  entry-fits found k e at = record { fits = omega (arith, entry-below entry_count 0 k (sym e ∙ at)) }

-- an entry that is not allowed, by the built-in table as the code has it
pub forbids-is : (entries own : List ℕ) (i : ℕ) → own ≡ built_in → (r : Bool)
    → r ≡ (ltb (get_or entries i 0) 7 || (eqb (get_or entries i 0) 7 && eqb (get_or own i 0) 7)) → not r ≡ forbids entries i
unfolding forbids
forbids-is entries own i same r is = rw (is, same)

pub loses-is : (entries : List ℕ) (i : ℕ) (r : Bool) → r ≡ (is_connective i && not (eqb (get_or entries i 0) 0)) → r ≡ loses_bool entries i
unfolding loses_bool
loses-is entries i r is = is

-- ---- the answer
module _ (entries : List ℕ) where
  pub other_length : (length entries ≡ entry_count → ⊥) → (made : Answer) → made ≡ bad_table entry_count → made ≡ table_answer entries
  unfolding table_answer
  other_length h made q = rw (ne_eqb _ _ h) q

  module _ (h : length entries ≡ entry_count) (bad : Option ℕ) (is-bad : bad ≡ first_entry (forbids entries) entry_count 0) where
    pub entry-forbidden : (i : ℕ) → bad ≡ Some i → (made : Answer) → made ≡ bad_table i → made ≡ table_answer entries
    unfolding table_answer
    entry-forbidden i e made q = rw (eq-eqb _ _ h, ← is-bad, e) q

    module _ (good : bad ≡ None) (lost : Option ℕ) (is_lost : lost ≡ first_entry (loses_bool entries) entry_count 0) where
      pub entry-not-bool : (i : ℕ) → lost ≡ Some i → (made : Answer) → made ≡ not_bool i → made ≡ table_answer entries
      unfolding table_answer
      entry-not-bool i e made q = rw (eq-eqb _ _ h, ← is-bad, good, ← is_lost, e) q

      pub entries-load : lost ≡ None → (made : Answer) → made ≡ accepted 0 0 → made ≡ table_answer entries
      unfolding table_answer
      entries-load e made q = rw (eq-eqb _ _ h, ← is-bad, good, ← is_lost, e) q

pub ruleset answers = (other_length, entry-forbidden, entry-not-bool, entries-load)

-- entries that load are 135
pub loads-length : (entries : List ℕ) → (table_answer entries).code ≡ 0 → length entries ≡ entry_count
unfolding table_answer
loads-length entries e =
    by-test (eqb (length entries) entry_count) (λ o. eqb-true (length entries) entry_count o)
    (λ o. let z : ◌≡◌ {A = ℕ} 40 0 = rw o at e in absurd (omega arith))

-- ---- loading: r is what the check of the entries says
module _ (entries : List ℕ) (r : Result (Unit {0}) Refusal) (is : answer_of_check r ≡ table_answer entries) where
  loads : is_ok r ≡ true → (table_answer entries).code ≡ 0
  loads o = rw is at (eqb-true (answer_of_check r).code 0 (passed-code r ∙ o))

  pub load-length : is_ok r ≡ true → length entries ≡ entry_count
  load-length o = loads-length entries (loads o)

  pub loaded : is_ok r ≡ true → (table : List ℕ) (a : Answer) → a ≡ answer_of_check r → Loaded entries table a entries
  loaded o table a e = record { answer = e ∙ is; in_use = rw (e, passed-code r, o) }

  pub not-loaded : is_ok r ≡ false → (table : List ℕ) (a : Answer) → a ≡ answer_of_check r → Loaded entries table a table
  not-loaded o table a e = record { answer = e ∙ is; in_use = rw (e, passed-code r, o) }
