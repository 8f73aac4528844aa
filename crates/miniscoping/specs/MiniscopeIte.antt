-- Rule 6, `miniscope_ite`: `(= (forall L (ite a b c)) (ite a (forall L b) (forall L c)))`.
-- 01: "2, 6, 6, 12." "A name written twice in a pattern means equal terms"; forall only. 12 carries the first operand of `ite`.
-- Rests on answers' Outcome, on bindings' Binding, on free_pairs' BindingFree, and on formulas' Pattern.
use Rattle.std.specs.Prelude.{ℕ, Bool, true, false, ◌&&◌, cond, List, eqb, Option, Some, None}
use Rattle.answers.specs.Outcome.{Outcome, ◌>>=◌, ◌>>◌, need, guard, unless}
use Rattle.bindings.specs.Binding.{Binding, same_all, first_of}
use Rattle.free_pairs.specs.BindingFree.{binding_free}
use Rattle.formulas.specs.Pattern.{Quantifier, quantifier, operator, three_of, equality, and_then}

pub record IteSides : Type 0 where
  pub left : ℕ  -- the left quantifier's place
  pub list : List Binding
  pub test : ℕ  -- the first operand of `ite`
  pub yes-place : ℕ
  pub yes-list : List Binding
  pub no_place : ℕ
  pub no-list : List Binding

-- what stands there if the repeated names agree
abbrev pub agree : {A : Type 0} → Bool → A → Option A
agree true a = Some a
agree false a = None

module _ (tags values : List ℕ) where
  abbrev forall-at : ℕ → Option Quantifier
  forall-at x = and_then (quantifier tags values x) λ q. cond q.kind (Some q) None

  -- the whole pattern, its three repeated names agreeing
  unfoldable pub ite_sides : ℕ → Option IteSides
  ite_sides x =
      and_then (equality tags values x) λ sides.
      and_then (forall-at sides.0) λ q.
      and_then (and_then (operator tags values 41 q.body) three_of) λ from.
      and_then (and_then (operator tags values 41 sides.1) three_of) λ to.
      and_then (forall-at to.1) λ yes-q.
      and_then (forall-at to.2) λ no-q.
      agree (eqb from.0 to.0 && (eqb from.1 yes-q.body && eqb from.2 no-q.body))
      (record { left = sides.0; list = q.list; test = from.0; yes-place = to.1; yes-list = yes-q.list; no_place = to.2; no-list = no-q.list })

unfoldable pub miniscope_ite : List ℕ → List ℕ → ℕ → ℕ → Outcome (Unit {0})
miniscope_ite tags values n x = do
  s ← need 2 x 0 (ite_sides tags values x)
  guard 6 s.left s.yes-place (same_all s.list s.yes-list)
  guard 6 s.left s.no_place (same_all s.list s.no-list)
  unless 12 (λ (a : Binding). a.name) s.test (first_of (binding_free tags values n s.test) s.list)
