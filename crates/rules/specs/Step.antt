-- `check`: the checks of a step and then its rule, what the arrays hold after it, and what an acceptance says of the conclusion.
-- 01, "What stops a step": "0 is acceptance. Checks run 30, 14, 15, 16, 18, 1, 17, then the rule."
-- Rests on answers' Answer, Outcome and struct `Answer`, on headers' WellFormed, on descriptions' Description, on pool's Check, on meaning's Term
-- and Tree, on quantifier_rules' QntJoin and QntRmUnused, on miniscoping's MiniscopeDistribute, MiniscopeIte and MiniscopeSplit, on
-- clausification's NoCapture and QntCnf,
-- and on Premises and RuleSchema.
use Rattle.std.specs.Prelude.{ℕ, min, ◌≡◌, ◌↔◌, Bool, true, not, ◌&&◌, cond, List, length, get_or, leb, eqb}
use Rattle.headers.specs.WellFormed.{is_term}
use Rattle.descriptions.specs.Description.{zero_from}
use Rattle.answers.specs.Answer.{refused, not_a_term}
use Rattle.pool.specs.Check.{and_then, check_pool}
use Rattle.meaning.specs.Term.{Term}
use Rattle.meaning.specs.Tree.{tree}
use Rattle.answers.specs.declared.Answer.{Answer}
use Rattle.answers.specs.Outcome.{Outcome, answer_of}
use Rattle.quantifier_rules.specs.QntJoin.{qnt_join}
use Rattle.quantifier_rules.specs.QntRmUnused.{qnt_rm_unused}
use Rattle.clausification.specs.QntCnf.{qnt_cnf}
use Rattle.miniscoping.specs.MiniscopeDistribute.{miniscope_distribute}
use Rattle.miniscoping.specs.MiniscopeSplit.{miniscope_split}
use Rattle.miniscoping.specs.MiniscopeIte.{miniscope_ite}
use Rattle.clausification.specs.NoCapture.{NoCapture}
use Rattle.rules.specs.RuleSchema.{RuleHolds}
use Rattle.rules.specs.Premises.{TrueInReadings}

-- "The six rules, with codes": 1 to 6
unfoldable pub is_rule : ℕ → Bool
is_rule k = leb 1 k && leb k 6

-- 18: unknown rule (code)
abbrev pub unknown_rule : ℕ → Answer
unknown_rule k = refused 18 k 0

-- 1: conclusion not one term (its length). "A carried number past u32 is given as 4,294,967,295"
abbrev pub not_one_term : ℕ → Answer
not_one_term k = refused 1 (min 4294967295 k) 0

-- the rule of a code on the conclusion at x
unfoldable pub rule_outcome : List ℕ → List ℕ → ℕ → ℕ → ℕ → Outcome (Unit {0})
rule_outcome tags values n rule x =
    cond (eqb rule 1) (qnt_join tags values x)
    (cond (eqb rule 2) (qnt_rm_unused tags values n x)
    (cond (eqb rule 3) (qnt_cnf tags values n x)
    (cond (eqb rule 4) (miniscope_distribute tags values x)
    (cond (eqb rule 5) (miniscope_split tags values n x)
    (miniscope_ite tags values n x)))))

module _ (tags values table : List ℕ) (n rule : ℕ) (conclusion : List ℕ) where
  -- the conclusion's place, if it is one
  abbrev pub conclusion_place : ℕ
  conclusion_place = get_or conclusion 0 0

  -- the conclusion
  abbrev pub conclusion_term : Term
  conclusion_term = tree tags values conclusion_place

  unfoldable pub step_answer : Answer
  step_answer =
      and_then (check_pool tags values table n)
      (cond (is_rule rule)
      (cond (eqb (length conclusion) 1)
      (cond (is_term tags n conclusion_place) (answer_of (rule_outcome tags values n rule conclusion_place)) (not_a_term conclusion_place))
      (not_one_term (length conclusion)))
      (unknown_rule rule))

  -- "Rule checks change no cell, but `qnt_cnf` .. zeroes those past N with every answer but 30."
  unfoldable pub cells_left : Answer → List ℕ → List ℕ
  cells_left a cells = cond (eqb rule 3 && not (eqb a.code 30)) (zero_from n cells) cells

  -- an accepted step: what demand 3 says of its conclusion, under its premises
  abbrev pub Follows : Answer → Type 0
  Follows a = a.code ≡ 0 → (rule ≡ 3 → NoCapture conclusion_term) → TrueInReadings conclusion_term

  -- a step to accept: the pool and the place pass, the code is a rule's, the conclusion is one of that rule as the Alethe document states it, and
  -- rule 3 is within its limits
  pub record StepHolds : Type 0 where
    pub pool : (check_pool tags values table n).code ≡ 0  -- 30, 40, 41, 14, 15, 16
    pub code : is_rule rule ≡ true  -- 18
    pub one : length conclusion ≡ 1  -- 1
    pub term : is_term tags n conclusion_place ≡ true  -- 17
    pub holds : RuleHolds tags values n rule conclusion_term

  -- the whole outcome: the answer r, the arrays after it, what is accepted, and the truth of that
  pub record Step (r : Answer) (tags' values' : List ℕ) : Type 0 where
    pub answer : r ≡ step_answer
    pub tags-are : tags' ≡ cells_left r tags
    pub values-are : values' ≡ cells_left r values
    pub accepts : r.code ≡ 0 ↔ StepHolds
    pub follows : Follows r
