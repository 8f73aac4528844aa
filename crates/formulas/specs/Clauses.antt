-- Clauses of a form whose foralls are taken out, and their totals; whether an empty `or` is reached in a form through `and` and `or`.
-- 01, "Normal form and clauses": "`conjunctive_normal_form`: an `and` joins lists, an `or` takes products, the first operand slowest. An
-- `and` without operands gives no clause. Clause and literal totals are those of this list."
-- Rests on Normal.
use Rattle.std.specs.Prelude.{ℕ, ◌+◌, Bool, true, false, ◌||◌, List, [], ◌∷◌, ◌++◌, map, length}
use Rattle.formulas.specs.Normal.{Normal, Normals, lit, nmany, nall, nnil, ncons}

-- a clause is a list of literals
abbrev pub Clause : Type 0 → Type 0 → Type 0
Clause B L = List (Normal B L)

-- each clause of the first list with each of the second, the first slowest
abbrev pub product : {A : Type 0} → List (List A) → List (List A) → List (List A)
product [] ds = []
product (c ∷ cs) ds = map (◌++◌ c) ds ++ product cs ds

-- the literals of a clause list
abbrev pub literal_total : {A : Type 0} → List (List A) → ℕ
literal_total [] = 0
literal_total (c ∷ cs) = length c + literal_total cs

module _ {B L : Type 0} where
  abbrev mutual
    pub cnf : Normal B L → List (Clause B L)
    cnf (lit b t) = (lit b t ∷ []) ∷ []
    cnf (nmany true ns) = cnf_and ns
    cnf (nmany false ns) = cnf_or ns
    cnf (nall b vs n) = (nall b vs n ∷ []) ∷ []

    pub cnf_and : Normals B L → List (Clause B L)
    cnf_and nnil = []
    cnf_and (ncons n ns) = cnf n ++ cnf_and ns

    pub cnf_or : Normals B L → List (Clause B L)
    cnf_or nnil = [] ∷ []
    cnf_or (ncons n ns) = product (cnf n) (cnf_or ns)

  -- "13 an empty `or` reached", through `and` and `or`
  abbrev pub is_empty_or : Bool → Normals B L → Bool
  is_empty_or true ns = false
  is_empty_or false nnil = true
  is_empty_or false (ncons n ns) = false

  abbrev mutual
    pub empty_or : Normal B L → Bool
    empty_or (lit b t) = false
    empty_or (nmany b ns) = is_empty_or b ns || empty_ors ns
    empty_or (nall b vs n) = false

    pub empty_ors : Normals B L → Bool
    empty_ors nnil = false
    empty_ors (ncons n ns) = empty_or n || empty_ors ns
