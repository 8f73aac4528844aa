-- What the answers of `matching` say: each one's value as the pattern that it stands for.
-- Rests on cells' Cell and the struct `TermPlace`, on bindings' Binding, on Formula, Pattern, and on the struct `Quantified`.
use Rattle.std.specs.Prelude.{ℕ, Bool, cond, List, length, drop, eqb, Option, Some, None}
use Rattle.std.proofs.Common.{Bor}
use Rattle.cells.specs.Cell.{operands_of}
use Rattle.bindings.specs.Binding.{Binding}
use Rattle.formulas.specs.Formula.{is_forall}
use Rattle.formulas.specs.Pattern.{Quantifier}
use Rattle.cells.specs.declared.TermPlace.{TermPlace}
use Rattle.formulas.specs.declared.matching.Quantified.{Quantified}

-- the cells of a quantifier's list
unfoldable pub pairs_of : List ℕ → List ℕ → ℕ → List ℕ
pairs_of tags values x = drop 1 (operands_of tags values x)

abbrev pub with_list : Bool → List Binding → ℕ → Quantifier
with_list kind list body = record { kind = kind; list = list; body = body }

unfoldable pub quantifier_in : List Binding → Option Quantified → Option Quantifier
quantifier_in list (Some q) = Some (with_list (is_forall q.kind) list q.body.0)
quantifier_in list None = None

-- operands, if there are so many
unfoldable pub of_count : ℕ → List ℕ → Option (List ℕ)
of_count k os = cond (eqb (length os) k) (Some os) None

unfoldable pub cells_in : Option (Bor (List ℕ)) → Option (List ℕ)
cells_in (Some a) = Some a.now
cells_in None = None

unfoldable pub two_in : Option (TermPlace × TermPlace) → Option (ℕ × ℕ)
two_in (Some p) = Some (p.0.0, p.1.0)
two_in None = None
