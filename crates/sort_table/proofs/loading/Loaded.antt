-- What every table that loads has: 135 entries, and Bool for the connectives.
--     BoolConnectives        a table with Bool for `not`, `and` and `or`, what normal forms build; no other entry matters to them
--     loaded-connectives     a table that loads is one. This is what 41 is for
-- Assumes nothing.
use Rattle.std.specs.Prelude.{Option, Some, None}
use Prim.Native.Nat.{ℕ, zero, suc, ◌+◌, ◌<◌, ◌≤◌}
use mathlib.Core.Path.{◌≡◌, refl, ◌∙◌}
use mathlib.Core.Bool.{Bool, true, false}
use mathlib.Core.List.{List, [], ◌∷◌}
use lib.ListN.{length, get_or}
use lib.Dec.{eqb}
use native.Mathlib.Omega.{arith}
use borrow.Author.Tests.{eqb-true, eqb-false, not-false}
use Rattle.cells.specs.ByPlace.{by-test}
use Rattle.answers.specs.Answer.{accepted, bad_table, not_bool, refuse_at}
use Rattle.answers.specs.declared.Answer.{Answer}
use Rattle.sort_table.specs.TableAnswer.{entry_count, first_entry, forbids, is_connective, loses_bool, table_answer}
use Rattle.sort_table.proofs.loading.Laws.{loads-length}

pub record BoolConnectives (rules : List ℕ) : Type 0 where
  pub for-not : get_or rules 2 7 ≡ 0
  pub for-and : get_or rules 4 7 ≡ 0
  pub for-or : get_or rules 5 7 ≡ 0

-- where no entry is found the test holds at none
none-holds : (test : ℕ → Bool) (f i : ℕ) → first_entry test f i ≡ None → (j : ℕ) → i ≤ j → j < i + f → test j ≡ false
unfolding first_entry
none-holds test zero i e j h l = absurd (omega arith)
none-holds test (suc f) i e j h l =
    by-test (test i)
    (λ y. let d : Some i ≡ None = rw y at e in let z : ◌≡◌ {A = ℕ} 0 1 = cc in absurd (omega arith))
    (λ y. by-test (eqb i j)
    (λ o. let z : i ≡ j = eqb-true i j o in rw z at y)
    (λ o. none-holds test f (suc i) (rw y at e) j (omega (arith, eqb-false i j o)) (omega arith)))

-- within a list the value for what is past its end does not matter
any-default : (l : List ℕ) (i a b : ℕ) → i < length l → get_or l i a ≡ get_or l i b
any-default [] i a b h = absurd (omega arith)
any-default (x ∷ l) zero a b h = refl
any-default (x ∷ l) (suc i) a b h = any-default l i a b (omega arith)

no-refusal : (refusal : ℕ → Answer) → ((i : ℕ) → (refusal i).code ≡ 0 → ⊥) → (w : Option ℕ) (next : Answer)
    → (refuse_at refusal w next).code ≡ 0 → (w ≡ None) × (next.code ≡ 0)
no-refusal refusal h (Some i) next e = absurd (h i e)
no-refusal refusal h None next e = (refl, e)

module _ (rules : List ℕ) (ok : (table_answer rules).code ≡ 0) where
  long : length rules ≡ entry_count
  long = loads-length rules ok

  all-bool : first_entry (loses_bool rules) entry_count 0 ≡ None
  unfolding table_answer
  all-bool =
      by-test (eqb (length rules) entry_count)
      (λ y.
      let last = refuse_at not_bool (first_entry (loses_bool rules) entry_count 0) (accepted 0 0) in
      let (a, b) = no-refusal bad_table (λ i z. omega arith) (first_entry (forbids rules) entry_count 0) last (rw y at ok) in
      (no-refusal not_bool (λ i z. omega arith) (first_entry (loses_bool rules) entry_count 0) (accepted 0 0) b).0)
      (λ y. absurd (eqb-false (length rules) entry_count y long))

  entry-bool : (i : ℕ) → i < entry_count → is_connective i ≡ true → get_or rules i 7 ≡ 0
  unfolding loses_bool
  entry-bool i h m =
      any-default rules i 7 0 (omega (arith, long))
      ∙ eqb-true _ 0 (not-false _ (rw m at (none-holds (loses_bool rules) entry_count 0 all-bool i (omega arith) (omega arith))))

  pub loaded-connectives : BoolConnectives rules
  unfolding is_connective
  loaded-connectives = record {
    for-not = entry-bool 2 (omega arith) refl;
    for-and = entry-bool 4 (omega arith) refl;
    for-or = entry-bool 5 (omega arith) refl;
  }
