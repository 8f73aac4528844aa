-- The correspondence of the two layouts: no outcome of a public call tells two pools apart.
--     SameOutcomes     every answer is the same in both, refusals included
--     Shared           what both share once the first has passed its checks, so that whatever is made of it is the same
-- S-9: "shown for the two layouts by one correspondence".
-- Rests on answers' struct `Answer`, on headers' WellFormed, on free_variables' Free, on pool's Check and Calls, on meaning's Tree, on formulas'
-- Built, on building's Arrays, on normal_form's Calls, and on rules' Step.
use Rattle.std.specs.Prelude.{ℕ, ◌≡◌, Bool, true, List, length, take}
use Rattle.headers.specs.WellFormed.{is_term}
use Rattle.free_variables.specs.Free.{mark_of}
use Rattle.answers.specs.declared.Answer.{Answer}
use Rattle.pool.specs.Check.{check_pool, check_term}
use Rattle.pool.specs.Calls.{sort_answer, free_answer, FreeVars}
use Rattle.meaning.specs.Tree.{tree}
use Rattle.formulas.specs.Built.{Pool}
use Rattle.building.specs.Arrays.{fits}
use Rattle.normal_form.specs.Calls.{normal_answer, clause_answer}
use Rattle.rules.specs.Step.{rule_outcome, step_answer}

-- the used cells, the room, and what a term's place says
pub record Shared (n : ℕ) (tags values tags' values' : List ℕ) : Type 0 where
  pub tags-used : take n tags' ≡ take n tags
  pub values-used : take n values' ≡ take n values
  pub room : (q : Pool) → fits q (length tags') ≡ fits q (length tags)
  pub terms : (t : ℕ) → is_term tags' n t ≡ is_term tags n t
  pub trees : (t : ℕ) → is_term tags n t ≡ true → tree tags' values' t ≡ tree tags values t
  pub marks : (t : ℕ) → is_term tags n t ≡ true → (v : ℕ) → mark_of tags' values' n t v ≡ mark_of tags values n t v
  pub rule : (rule x : ℕ) → is_term tags n x ≡ true → rule_outcome tags' values' n rule x ≡ rule_outcome tags values n rule x

pub record SameOutcomes (tags values tags' values' : List ℕ) : Type 0 where
  pub pool : (rules : List ℕ) (n : ℕ) → check_pool tags' values' rules n ≡ check_pool tags values rules n
  pub term : (rules : List ℕ) (n t : ℕ) → check_term tags' values' rules n t ≡ check_term tags values rules n t
  pub sort : (rules : List ℕ) (n t : ℕ) → sort_answer tags' values' rules n t ≡ sort_answer tags values rules n t
  pub free : (rules : List ℕ) (n t k : ℕ) → free_answer tags' values' rules n t k ≡ free_answer tags values rules n t k
  pub free-vars : (rules : List ℕ) (n t : ℕ) (marks : List ℕ) (r : Answer) (marks₁ : List ℕ)
      → FreeVars tags' values' rules n t marks r marks₁ → FreeVars tags values rules n t marks r marks₁
  pub step : (rules : List ℕ) (n rule : ℕ) (conclusion : List ℕ)
      → step_answer tags' values' rules n rule conclusion ≡ step_answer tags values rules n rule conclusion
  pub normal : (rules : List ℕ) (n t : ℕ) (polarity : Bool) → normal_answer tags' values' rules n t polarity ≡ normal_answer tags values rules n t polarity
  pub clauses : (rules : List ℕ) (n t l e : ℕ) → clause_answer tags' values' rules n t l e ≡ clause_answer tags values rules n t l e
  pub shared : (rules : List ℕ) (n : ℕ) → (check_pool tags values rules n).code ≡ 0 → Shared n tags values tags' values'
