-- What the functions of `check` promise each other.
-- Rests on cells' struct `TermPlace`, on answers' Answer, Refusal and struct `Answer`, on headers' WellFormed, on descriptions' Description, on
-- pool's Check, and on Step, RuleCode and the enum `Rule`.
use Rattle.std.specs.Prelude.{ℕ, ◌≡◌, cond, List, length, get_or, eqb, Result, Ok, Err}
use Rattle.headers.specs.WellFormed.{is_term}
use Rattle.descriptions.specs.Description.{zero_from}
use Rattle.answers.specs.Answer.{accepted, not_a_term}
use Rattle.answers.specs.declared.Answer.{Answer}
use Rattle.pool.specs.Check.{and_then}
use Rattle.answers.specs.Refusal.{answer_to}
use Rattle.answers.specs.declared.refusal.Refusal.{Refusal}
use Rattle.cells.specs.declared.TermPlace.{TermPlace}
use Rattle.rules.specs.Step.{is_rule, unknown_rule, not_one_term}
use Rattle.rules.specs.RuleCode.{code_of}
use Rattle.rules.specs.declared.rule.Rule.{Rule}

-- the checks before the rule, after the pool check: 18, 1, 17, or an acceptance
unfoldable pub before_rule : List ℕ → ℕ → ℕ → List ℕ → Answer → Answer
before_rule tags n rule conclusion checked =
    and_then checked
    (cond (is_rule rule)
    (cond (eqb (length conclusion) 1)
    (cond (is_term tags n (get_or conclusion 0 0)) (accepted 0 0) (not_a_term (get_or conclusion 0 0)))
    (not_one_term (length conclusion)))
    (unknown_rule rule))

-- what the checks before the rule hand on, after the pool check's answer: the rule of the code and the conclusion's place, or the refusal
abbrev pub Ready : List ℕ → ℕ → ℕ → List ℕ → Answer → Result (Rule × TermPlace) Refusal → Type 0
Ready tags n code conclusion checked (Ok p) =
    (before_rule tags n code conclusion checked ≡ accepted 0 0) × (code ≡ code_of p.0) × (p.1.0 ≡ get_or conclusion 0 0)
Ready tags n code conclusion checked (Err r) = answer_to r ≡ before_rule tags n code conclusion checked

-- arrays after a rule: only rule 3 changes cells, and it leaves zeroes past n
pub record CellsKept (n rule : ℕ) (cells cells' : List ℕ) : Type 0 where
  pub same : (rule ≡ 3 → ⊥) → cells' ≡ cells
  pub zeroed : rule ≡ 3 → cells' ≡ zero_from n cells

-- the answer is the one defined, and the arrays are so
pub record Judged (n rule : ℕ) (defined r : Answer) (tags values tags' values' : List ℕ) : Type 0 where
  pub answer : r ≡ defined
  pub tags-kept : CellsKept n rule tags tags'
  pub values-kept : CellsKept n rule values values'
