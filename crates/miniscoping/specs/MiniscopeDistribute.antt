-- Rule 4, `miniscope_distribute`: `(= (forall L (and ..)) (and (forall L ..) ..))`, or with exists and `or`.
-- 01: "2, 11, then by operand 2, 6, 5."
-- Rests on answers' Outcome, on bindings' Binding, and on formulas' Pattern.
use Rattle.std.specs.Prelude.{ℕ, Bool, true, false, cond, List, [], ◌∷◌, length, eqb, Option, Some, None}
use Rattle.std.specs.Bool.{beq}
use Rattle.answers.specs.Outcome.{Outcome, pass, ◌>>=◌, ◌>>◌, need, guard}
use Rattle.bindings.specs.Binding.{Binding, same_all}
use Rattle.formulas.specs.Pattern.{Quantifier, quantifier, operator, equality, and_then}

-- a quantified `and` or `or` on the left, one of the same operator on the right
pub record Sides : Type 0 where
  pub kind : Bool  -- the quantifier: forall (true)
  pub left : ℕ  -- the left quantifier's place
  pub right : ℕ  -- the right side's place
  pub list : List Binding
  pub from : List ℕ  -- the operands under the left quantifier
  pub to : List ℕ  -- the operands on the right

abbrev pub or_else : Option Sides → Option Sides → Option Sides
or_else (Some s) other = Some s
or_else None other = other

-- a quantifier of this kind
abbrev pub of_kind : Bool → Quantifier → Option Quantifier
of_kind kind q = cond (beq q.kind kind) (Some q) None

module _ (tags values : List ℕ) where
  -- a quantifier of this kind over operands under this operator's tag
  unfoldable pub sides_of : Bool → ℕ → ℕ → Option Sides
  sides_of kind tag x =
      and_then (equality tags values x) λ sides.
      and_then (quantifier tags values sides.0) λ q.
      and_then (of_kind kind q) λ q.
      and_then (operator tags values tag q.body) λ from.
      and_then (operator tags values tag sides.1) λ to.
      Some (record { kind = kind; left = sides.0; right = sides.1; list = q.list; from = from; to = to })

  -- the right operand at u is the quantifier over the left operand at t: "2 .. the operand in the walks of rules 4 and 5"
  unfoldable pub distributed : Sides → ℕ → ℕ → Outcome (Unit {0})
  distributed s t u = do
    q ← need 2 u 0 (and_then (quantifier tags values u) (of_kind s.kind))
    guard 6 s.left u (same_all s.list q.list)
    guard 5 t q.body (eqb t q.body)

  -- one after another, as long as both lists go on
  unfoldable pub distributed_all : Sides → List ℕ → List ℕ → Outcome (Unit {0})
  distributed_all s [] us = pass tt
  distributed_all s (t ∷ ts) [] = pass tt
  distributed_all s (t ∷ ts) (u ∷ us) = do
    distributed s t u
    distributed_all s ts us

  unfoldable pub miniscope_distribute : ℕ → Outcome (Unit {0})
  miniscope_distribute x = do
    s ← need 2 x 0 (or_else (sides_of true 36 x) (sides_of false 37 x))
    guard 11 (length s.from) (length s.to) (eqb (length s.from) (length s.to))
    distributed_all s s.from s.to
