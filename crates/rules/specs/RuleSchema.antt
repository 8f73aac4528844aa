-- The schema of a rule's code, and what limits rule 3.
-- 01: "The six rules, with codes"; "From the state: .. 31 .. 32 ..".
-- Rests on answers' struct `Answer`, on headers' WellFormed, on building's Arrays, on meaning's Sort, Term and Tree, and on schemas' Schemas.
use Rattle.std.specs.Prelude.{ℕ, ◌≡◌, true, cond, List, length, eqb}
use Rattle.headers.specs.WellFormed.{is_term}
use Rattle.answers.specs.declared.Answer.{Answer}
use Rattle.meaning.specs.Sort.{Sort}
use Rattle.meaning.specs.Term.{Vars, Term}
use Rattle.meaning.specs.Tree.{tree}
use Rattle.building.specs.Arrays.{fits, clausal_in}
use Rattle.schemas.specs.Schemas.{QntJoin, QntRmUnused, QntCnf, MiniscopeDistribute, MiniscopeSplit, MiniscopeIte, Bounded, binder, implies}

-- the term t is a conclusion of the rule
unfoldable pub RuleSchema : ℕ → Term → Type 0
RuleSchema rule t =
    cond (eqb rule 1) (QntJoin t)
    (cond (eqb rule 2) (QntRmUnused t)
    (cond (eqb rule 3) (QntCnf t)
    (cond (eqb rule 4) (MiniscopeDistribute t)
    (cond (eqb rule 5) (MiniscopeSplit t)
    (MiniscopeIte t)))))

-- none of rule 3's limits 31, 13 and 32 is the answer
abbrev pub Unlimited : Answer → Type 0
Unlimited a = (a.code ≡ 31 → ⊥) × (a.code ≡ 13 → ⊥) × (a.code ≡ 32 → ⊥)

-- "31 new terms .. take the count past the arrays or 8,192": there is room for the two forms of the pool's term t. This limit is one of the cells
abbrev pub Room : List ℕ → List ℕ → ℕ → Term → Type 0
Room tags values n t = (p : ℕ) → is_term tags n p ≡ true → tree tags values p ≡ t → fits (clausal_in tags values n p).pool (length tags) ≡ true

-- the same limits, of the conclusion c where it is `(or (not (forall xs t)) r)`
abbrev pub WithinLimits : List ℕ → List ℕ → ℕ → Term → Type 0
WithinLimits tags values n c =
    (s s' : Sort) (xs : Vars) (t r : Term) → c ≡ implies s s' (binder true xs t) r → Bounded t × Room tags values n t

-- a rule's code passes the conclusion c
abbrev pub RuleHolds : List ℕ → List ℕ → ℕ → ℕ → Term → Type 0
RuleHolds tags values n rule c = RuleSchema rule c × (rule ≡ 3 → WithinLimits tags values n c)
