-- What the functions of the clause list's call promise each other.
-- Rests on answers' Refusal, struct `Answer` and enum `Refusal`, on cells' Limits and struct `TermPlace`, on descriptions' Description,
-- on pool's Check, on building's Walk, and on Calls and the struct `Listed`.
use Rattle.std.specs.Prelude.{Some, Result, Ok, Err, ℕ, ◌≤◌, ◌≡◌, cond, List, eqb}
use Rattle.cells.specs.Limits.{clause_limit, literal_limit}
use Rattle.cells.specs.declared.TermPlace.{TermPlace}
use Rattle.pool.specs.Check.{check_term}
use Rattle.descriptions.specs.Description.{Cut}
use Rattle.answers.specs.declared.Answer.{Answer}
use Rattle.building.specs.Walk.{Left, NormalBuilt}
use Rattle.normal_form.specs.Calls.{clausal, clause_answer}
use Rattle.answers.specs.Refusal.{answer_to}
use Rattle.answers.specs.declared.refusal.Refusal.{Refusal}
use Rattle.normal_form.specs.declared.call.Listed.{Listed}

-- the term at t has passed its checks, and its taken-out form is built
pub record Passes (tags values rules : List ℕ) (n t : ℕ) (x : TermPlace) (m : ℕ) (tags' values' : List ℕ) : Type 0 where
  pub passed : (check_term tags values rules n t).code ≡ 0
  pub built : NormalBuilt n tags values (clausal tags values rules n t) (Some (x, m)) tags' values'

-- a refusal before there is a list: 30 changes nothing
pub record Refuses (tags values rules : List ℕ) (n t : ℕ) (a : Answer) (tags' values' : List ℕ) : Type 0 where
  pub answer : (l e : ℕ) → literal_limit ≤ l → clause_limit ≤ e → a ≡ clause_answer tags values rules n t l e
  pub code : a.code ≡ 0 → ⊥
  pub same : a.code ≡ 30 → (tags' ≡ tags) × (values' ≡ values)
  pub left : Left n tags values tags' values'

abbrev pub ClausalBuilt : List ℕ → List ℕ → List ℕ → ℕ → ℕ → Result (TermPlace × ℕ) Refusal → List ℕ → List ℕ → Type 0
ClausalBuilt tags values rules n t (Ok p) tags' values' = Passes tags values rules n t p.0 p.1 tags' values'
ClausalBuilt tags values rules n t (Err r) tags' values' = Refuses tags values rules n t (answer_to r) tags' values'

-- a refusal: the new count is 0
abbrev pub unlisted : Answer → Listed
unlisted a = record { answer = a; count = 0 }

-- arrays with m cells in use, cut back to n unless the list is accepted
pub record ListKept (n m : ℕ) (a : Answer) (tags values : List ℕ) (r : Listed) (tags' values' : List ℕ) : Type 0 where
  pub listed : r ≡ record { answer = a; count = cond (eqb a.code 0) m 0 }
  pub cut : Cut (cond (eqb a.code 0) m n) tags values tags' values'
