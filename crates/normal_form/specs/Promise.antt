-- What the two public calls promise: the cells that they leave, and what these say.
--     clauses_read .. m                          m clauses, read back from the lent literals and ends and from the pool
--     NormalFormSays, ClauseListSays            accepted: the values in every reading, and that the pool left passes the pool check
--     NormalFormPromise, ClauseListPromise      the calls' contracts
-- S-1: "For a formula in which no empty `or` and no forall is reached after the normal form, the conjunction of its clauses has the
-- formula's value in every reading. For every formula, the normal form at true polarity has its value and at false polarity the negated
-- value. Both hold even where an opaque literal's value depends on every variable." An empty `or` is refused (13).
-- The terms are those of the arrays as the call leaves them; readings have numbers for values, which is every reading
-- (meaning/proofs/truth/Numbered.antt `every_value`, `every-clauses`).
-- Rests on answers' Answer and struct `Answer`, on pool's Check, on formulas' ClauseLists, on meaning's Term, Skeleton, Tree and Numbered,
-- and on Calls.
use Rattle.std.specs.Prelude.{ℕ, ◌≡◌, Bool, List, map}
use Rattle.answers.specs.Answer.{accepted}
use Rattle.answers.specs.declared.Answer.{Answer}
use Rattle.pool.specs.Check.{check_pool}
use Rattle.meaning.specs.Term.{Term}
use Rattle.meaning.specs.Tree.{tree}
use Rattle.meaning.specs.Skeleton.{NoForallReached}
use Rattle.meaning.specs.Numbered.{SameValue, ClausesSay}
use Rattle.formulas.specs.ClauseLists.{clauses_in}
use Rattle.normal_form.specs.Calls.{NormalForm, ClauseList}

-- the first m clauses, each literal the term at its place of the pool
abbrev pub clauses_read : List ℕ → List ℕ → List ℕ → List ℕ → ℕ → List (List Term)
clauses_read tags values literals ends m = map (map (tree tags values)) (clauses_in literals ends m)

module _ (tags values rules : List ℕ) (n t : ℕ) where
  -- ---- the normal form
  pub record NormalFormSays (polarity : Bool) (r : Answer) (tags' values' : List ℕ) : Type 0 where
    pub value : SameValue polarity (tree tags' values' r.first) (tree tags values t)
    pub passes : check_pool tags' values' rules r.second ≡ accepted 0 0

  pub record NormalFormPromise (polarity : Bool) (r : Answer) (tags' values' : List ℕ) : Type 0 where
    pub cells : NormalForm tags values rules n t polarity r tags' values'
    pub says : r.code ≡ 0 → NormalFormSays polarity r tags' values'

  -- ---- the clause list; m is the new count
  pub record ClauseListSays (r : Answer) (m : ℕ) (tags' values' literals' ends' : List ℕ) : Type 0 where
    pub value : NoForallReached (tree tags values t) → ClausesSay (clauses_read tags' values' literals' ends' r.first) (tree tags values t)
    pub passes : check_pool tags' values' rules m ≡ accepted 0 0

  pub record ClauseListPromise (literals ends : List ℕ) (r : Answer) (m : ℕ) (tags' values' literals' ends' : List ℕ) : Type 0 where
    pub cells : ClauseList tags values rules n t literals ends r m tags' values' literals' ends'
    pub says : r.code ≡ 0 → ClauseListSays r m tags' values' literals' ends'
