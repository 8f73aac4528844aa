-- What the answers of `miniscope_ite` say.
-- Rests on bindings' Binding, on formulas' Pattern and PatternAnswer, on MiniscopeDistribute and MiniscopeIte, and on the struct
-- `ItePlaces`.
use Rattle.std.specs.Prelude.{ℕ, Bool, true, false, List, eqb, Option, Some, None}
use Rattle.bindings.specs.Binding.{bindings_of}
use Rattle.formulas.specs.Pattern.{Quantifier, quantifier, and_then}
use Rattle.formulas.specs.PatternAnswer.{pairs_of}
use Rattle.miniscoping.specs.MiniscopeDistribute.{of_kind}
use Rattle.miniscoping.specs.MiniscopeIte.{IteSides}
use Rattle.miniscoping.specs.declared.miniscope_ite.ItePlaces.{ItePlaces}

-- a quantifier over the term at t
abbrev pub is_over : ℕ → Option Quantifier → Bool
is_over t (Some q) = eqb t q.body
is_over t None = false

-- the term at u is a forall over the term at t
unfoldable pub forall_over : List ℕ → List ℕ → ℕ → ℕ → Bool
forall_over tags values t u = is_over t (and_then (quantifier tags values u) (of_kind true))

-- the sides at these places
unfoldable pub ite_at : List ℕ → List ℕ → ItePlaces → IteSides
ite_at tags values p = record {
  left = p.left.0;
  list = bindings_of (pairs_of tags values p.left.0);
  test = p.test.0;
  yes-place = p.yes.0;
  yes-list = bindings_of (pairs_of tags values p.yes.0);
  no_place = p.no.0;
  no-list = bindings_of (pairs_of tags values p.no.0);
}

unfoldable pub ite_in : List ℕ → List ℕ → Option ItePlaces → Option IteSides
ite_in tags values (Some p) = Some (ite_at tags values p)
ite_in tags values None = None
