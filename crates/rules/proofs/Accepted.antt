-- An accepted step is true in every reading: demand 3, of all six rules.
--     rule-sound         a rule that passes a conclusion of a checked pool
--     step_follows       so an answer 0 of `check`
-- Assumes what demand 3 does: for rule 3, no variable taken out is free in the left quantified formula.
use Prim.Native.Nat.{ℕ, suc}
use mathlib.Core.Path.{◌≡◌, sym, ap, ◌∙◌}
use mathlib.Core.Bool.{true}
use mathlib.Core.List.{List}
use lib.ListN.{length, get_or}
use lib.Dec.{eqb}
use native.Mathlib.Omega.{arith}
use borrow.Author.Tests.{eqb-true, eqb-false}
use Rattle.cells.specs.ByPlace.{by-test}
use Rattle.headers.specs.WellFormed.{is_term}
use Rattle.pool.specs.Check.{and_then, check_pool}
use Rattle.meaning.specs.Tree.{tree}
use Rattle.answers.specs.declared.Answer.{Answer}
use Rattle.meaning.proofs.trees.Passed.{Passed, pool-passes, pool-accepts}
use Rattle.meaning.specs.Numbered.{numbered}
use Rattle.meaning.specs.Truth.{Assignment, Reading, Local, True}
use Rattle.answers.specs.Outcome.{pass}
use Rattle.rules.proofs.sound.QntJoin.{qnt-join-sound}
use Rattle.rules.proofs.sound.QntRmUnused.{qnt-rm-unused-sound}
use Rattle.rules.proofs.sound.QntCnf.{qnt-cnf-sound}
use Rattle.rules.proofs.sound.MiniscopeDistribute.{miniscope-distribute-sound}
use Rattle.rules.proofs.sound.MiniscopeSplit.{miniscope-split-sound}
use Rattle.rules.proofs.sound.MiniscopeIte.{miniscope-ite-sound}
use Rattle.clausification.specs.NoCapture.{NoCapture}
use Rattle.rules.specs.Step.{is_rule, rule_outcome, step_answer, Follows}
use Rattle.rules.proofs.Codes.{rule-codes, accepted}

module _ {tags values table : List ℕ} {n : ℕ} (c : Passed tags values table n) (x : ℕ) (t : is_term tags n x ≡ true) where
  pub rule-sound : (rule : ℕ) → rule_outcome tags values n rule x ≡ pass tt → (rule ≡ 3 → NoCapture (tree tags values x))
      → (R : Reading) → Local R → (ρ : Assignment R.Value) → True R (tree tags values x) ρ ≡ true
  unfolding rule_outcome
  rule-sound rule e premise R local ρ =
      by-test (eqb rule 1) (λ a. qnt-join-sound c x t (rw a at e) R local ρ)
      (λ a. by-test (eqb rule 2) (λ b. qnt-rm-unused-sound c x t (rw (a, b) at e) R local ρ)
      (λ b. by-test (eqb rule 3) (λ d. qnt-cnf-sound c x t (rw (a, b, d) at e) (premise (eqb-true rule 3 d)) R local ρ)
      (λ d. by-test (eqb rule 4) (λ f. miniscope-distribute-sound c x t (rw (a, b, d, f) at e) R local ρ)
      (λ f. by-test (eqb rule 5) (λ g. miniscope-split-sound c x t (rw (a, b, d, f, g) at e) R local ρ)
      (λ g. miniscope-ite-sound c x t (rw (a, b, d, f, g) at e) R local ρ)))))

-- ---- the checks that an accepted step has passed
other : (k : ℕ) → suc k ≡ 0 → ⊥
other k z = omega arith

module _ (tags values table : List ℕ) (n rule : ℕ) (conclusion : List ℕ) where
  pub record Accepted : Type 0 where
    pub pool : (check_pool tags values table n).code ≡ 0
    pub passed : Passed tags values table n
    pub rule-code : is_rule rule ≡ true
    pub one : length conclusion ≡ 1
    pub term : is_term tags n (get_or conclusion 0 0) ≡ true
    pub passes : rule_outcome tags values n rule (get_or conclusion 0 0) ≡ pass tt

  pub step-accepted : (step_answer tags values table n rule conclusion).code ≡ 0 → Accepted
  unfolding step_answer and_then
  step-accepted e =
      by-test (eqb (check_pool tags values table n).code 0)
      (λ a. by-test (is_rule rule)
      (λ b. by-test (eqb (length conclusion) 1)
      (λ d. by-test (is_term tags n (get_or conclusion 0 0))
      (λ f. record {
        pool = eqb-true _ 0 a;
        passed = pool-passes tags values table n (pool-accepts tags values table n (eqb-true _ 0 a));
        rule-code = b;
        one = eqb-true _ 1 d;
        term = f;
        passes = accepted _ (rule-codes tags values n (get_or conclusion 0 0) rule) (rw (a, b, d, f) at e);
      })
      (λ f. absurd (other 16 (rw (a, b, d, f) at e))))
      (λ d. absurd (other 0 (rw (a, b, d) at e))))
      (λ b. absurd (other 17 (rw (a, b) at e))))
      (λ a. absurd (eqb-false _ 0 a (rw a at e)))

  pub step_follows : (r : Answer) → r ≡ step_answer tags values table n rule conclusion → Follows tags values table n rule conclusion r
  step_follows r is e premise N local ρ =
      let a = step-accepted (sym (ap (λ (x : Answer). x.code) is) ∙ e) in
      rule-sound a.passed (get_or conclusion 0 0) a.term rule a.passes premise (numbered N) local ρ
