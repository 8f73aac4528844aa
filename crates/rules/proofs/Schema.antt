-- A step is accepted exactly if its checks pass and its conclusion is one of its rule as the Alethe document states it.
--     rule-is          a rule passes a conclusion of a checked pool
--     step_is          so an answer 0 of `check`
-- Assumes nothing.
use Prim.Native.Nat.{ℕ}
use mathlib.Core.Path.{◌≡◌, refl, sym, ap, ◌∙◌}
use mathlib.Core.Logic.{◌↔◌}
use mathlib.Core.Bool.{true, false}
use mathlib.Core.List.{List}
use lib.ListN.{length, get_or}
use lib.Dec.{eqb}
use borrow.Author.Tests.{eqb-true, eqb-false, eq-eqb}
use Rattle.cells.specs.ByPlace.{by-test}
use Rattle.headers.specs.WellFormed.{is_term}
use Rattle.pool.specs.Check.{and_then, check_pool}
use Rattle.answers.specs.declared.Answer.{Answer}
use Rattle.meaning.specs.Tree.{tree}
use Rattle.meaning.proofs.trees.Passed.{Passed, pool-passes, pool-accepts}
use Rattle.answers.specs.Outcome.{pass}
use Rattle.rules.specs.RuleSchema.{WithinLimits, RuleSchema, RuleHolds}
use Rattle.rules.proofs.schemas.Join.{qnt-join-is}
use Rattle.rules.proofs.schemas.RmUnused.{qnt-rm-unused-is}
use Rattle.rules.proofs.schemas.Cnf.{qnt-cnf-within}
use Rattle.rules.proofs.schemas.Distribute.{miniscope-distribute-is}
use Rattle.rules.proofs.schemas.Split.{miniscope-split-is}
use Rattle.rules.proofs.schemas.Ite.{miniscope-ite-is}
use Rattle.rules.specs.Step.{rule_outcome, step_answer, StepHolds}
use Rattle.rules.proofs.Accepted.{step-accepted}

module _ {tags values table : List ℕ} {n : ℕ} (c : Passed tags values table n) (x : ℕ) (t : is_term tags n x ≡ true) where
  abbrev Limits : Type 0
  Limits = WithinLimits tags values n (tree tags values x)

  plain : {A B : Type 0} {rule : ℕ} → eqb rule 3 ≡ false → A ↔ B → A ↔ (B × (rule ≡ 3 → Limits))
  plain {rule = rule} d (f, g) = ((λ a. (f a, λ z. absurd (eqb-false rule 3 d z))), λ h. g h.0)

  limited : {A B : Type 0} {rule : ℕ} → eqb rule 3 ≡ true → A ↔ (B × Limits) → A ↔ (B × (rule ≡ 3 → Limits))
  limited {rule = rule} d (f, g) = ((λ a. ((f a).0, λ z. (f a).1)), λ h. g (h.0, h.1 (eqb-true rule 3 d)))

  not_three : (rule k : ℕ) → eqb rule k ≡ true → eqb k 3 ≡ false → eqb rule 3 ≡ false
  not_three rule k e d = rw (eqb-true rule k e) d

  -- a rule passes exactly if its schema holds, and for rule 3 within the limits
  pub rule-is : (rule : ℕ) → rule_outcome tags values n rule x ≡ pass tt ↔ RuleHolds tags values n rule (tree tags values x)
  unfolding rule_outcome RuleSchema
  rule-is rule =
      by-test (eqb rule 1) (λ a. rw a (plain (not_three rule 1 a refl) (qnt-join-is c x t)))
      (λ a. by-test (eqb rule 2) (λ b. rw (a, b) (plain (not_three rule 2 b refl) (qnt-rm-unused-is c x t)))
      (λ b. by-test (eqb rule 3) (λ d. rw (a, b, d) (limited d (qnt-cnf-within c x t)))
      (λ d. by-test (eqb rule 4) (λ f. rw (a, b, d, f) (plain d (miniscope-distribute-is c x t)))
      (λ f. by-test (eqb rule 5) (λ g. rw (a, b, d, f, g) (plain d (miniscope-split-is c x t)))
      (λ g. rw (a, b, d, f, g) (plain d (miniscope-ite-is c x t)))))))

module _ (tags values table : List ℕ) (n rule : ℕ) (conclusion : List ℕ) where
  step-there : (step_answer tags values table n rule conclusion).code ≡ 0 → StepHolds tags values table n rule conclusion
  step-there e =
      let a = step-accepted tags values table n rule conclusion e in
      record { pool = a.pool; code = a.rule-code; one = a.one; term = a.term; holds = (rule-is a.passed (get_or conclusion 0 0) a.term rule).0 a.passes }

  step_back : StepHolds tags values table n rule conclusion → (step_answer tags values table n rule conclusion).code ≡ 0
  unfolding step_answer and_then
  step_back h =
      let c = pool-passes tags values table n (pool-accepts tags values table n h.pool) in
      rw (
        eq-eqb (check_pool tags values table n).code 0 h.pool,
        h.code,
        eq-eqb (length conclusion) 1 h.one,
        h.term,
        (rule-is c (get_or conclusion 0 0) h.term rule).1 h.holds,
      )

  pub step_is : (r : Answer) → r ≡ step_answer tags values table n rule conclusion → r.code ≡ 0 ↔ StepHolds tags values table n rule conclusion
  step_is r is =
      let same_code : r.code ≡ (step_answer tags values table n rule conclusion).code = ap (λ (a : Answer). a.code) is in
      ((λ e. step-there (sym same_code ∙ e)), λ h. same_code ∙ step_back h)
