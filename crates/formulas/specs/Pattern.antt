-- The forms that the rules match: quantifiers, and operators with so many operands.
-- 01: "`=` with exactly 2 operands, `not` with 1, `or` of `qnt_cnf` with 2, `ite` with 3"; choice and lambda are no quantifiers.
-- Rests on cells' Cell and on bindings' Binding.
use Rattle.std.specs.Prelude.{ℕ, Bool, true, false, cond, List, [], ◌∷◌, get_or, drop, eqb, Option, Some, None}
use Rattle.cells.specs.Cell.{operands_of}
use Rattle.bindings.specs.Binding.{Binding, bindings_of}

-- forall (true) or exists (false), its list and its body
pub record Quantifier : Type 0 where
  pub kind : Bool
  pub list : List Binding
  pub body : ℕ

abbrev quantifier_of : Bool → List ℕ → Quantifier
quantifier_of kind run = record { kind = kind; list = bindings_of (drop 1 run); body = get_or run 0 0 }

unfoldable pub quantifier : List ℕ → List ℕ → ℕ → Option Quantifier
quantifier tags values x =
    cond (eqb (get_or tags x 0) 23) (Some (quantifier_of true (operands_of tags values x)))
    (cond (eqb (get_or tags x 0) 24) (Some (quantifier_of false (operands_of tags values x)))
    None)

-- the operands of a term with this tag
unfoldable pub operator : List ℕ → List ℕ → ℕ → ℕ → Option (List ℕ)
operator tags values tag x = cond (eqb (get_or tags x 0) tag) (Some (operands_of tags values x)) None

abbrev pub one_of : List ℕ → Option ℕ
one_of [] = None
one_of (a ∷ []) = Some a
one_of (a ∷ (b ∷ os)) = None

abbrev pub two_of : List ℕ → Option (ℕ × ℕ)
two_of [] = None
two_of (a ∷ []) = None
two_of (a ∷ (b ∷ [])) = Some (a, b)
two_of (a ∷ (b ∷ (c ∷ os))) = None

abbrev pub three_of : List ℕ → Option (ℕ × ℕ × ℕ)
three_of [] = None
three_of (a ∷ []) = None
three_of (a ∷ (b ∷ [])) = None
three_of (a ∷ (b ∷ (c ∷ []))) = Some (a, b, c)
three_of (a ∷ (b ∷ (c ∷ (d ∷ os)))) = None

abbrev pub and_then : {A B : Type 0} → Option A → (A → Option B) → Option B
and_then None next = None
and_then (Some a) next = next a

-- `(= l r)`
unfoldable pub equality : List ℕ → List ℕ → ℕ → Option (ℕ × ℕ)
equality tags values x = and_then (operator tags values 39 x) two_of
