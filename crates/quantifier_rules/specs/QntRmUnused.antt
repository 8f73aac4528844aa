-- Rule 2, `qnt_rm_unused`.
-- 01: "form; left quantifier; accept if no left variable is free in the body and the right is that body; right quantifier, 4, 5, 8, 9."
-- Rests on answers' Outcome, on bindings' Binding, on free_pairs' BindingFree, and on formulas' Formula and Pattern.
use Rattle.std.specs.Prelude.{ℕ, Bool, true, false, not, ◌&&◌, cond, List, eqb, Option, Some, None}
use Rattle.std.specs.Bool.{beq}
use Rattle.answers.specs.Outcome.{Outcome, pass, ◌>>=◌, ◌>>◌, need, guard, unless}
use Rattle.bindings.specs.Binding.{Binding, has, first_of}
use Rattle.free_pairs.specs.BindingFree.{binding_free}
use Rattle.formulas.specs.Pattern.{Quantifier, quantifier, equality}
use Rattle.formulas.specs.Formula.{quantifier_tag}

abbrev pub is_some : {A : Type 0} → Option A → Bool
is_some (Some a) = true
is_some None = false

module _ (tags values : List ℕ) (n : ℕ) where
  -- "8 new variable (name)": the first of the right list that the left list lacks; "9 missing variable (name)": the first of the left list
  -- that the right list lacks and that is free in the body
  unfoldable pub removes : Quantifier → ℕ → Outcome (Unit {0})
  removes left x = do
    right ← need 3 x 0 (quantifier tags values x)
    guard 4 (quantifier_tag left.kind) (quantifier_tag right.kind) (beq left.kind right.kind)
    guard 5 left.body right.body (eqb left.body right.body)
    unless 8 (λ (a : Binding). a.name) 0 (first_of (λ a. not (has left.list a)) right.list)
    unless 9 (λ (a : Binding). a.name) 0 (first_of (λ a. not (has right.list a) && binding_free tags values n left.body a) left.list)

  -- no variable of the list is free in the body
  unfoldable pub unused : Quantifier → Bool
  unused left = not (is_some (first_of (binding_free tags values n left.body) left.list))

  -- the early acceptance, else the checks of the right side at x
  unfoldable pub body_or : Quantifier → ℕ → Outcome (Unit {0})
  body_or left x = cond (unused left && eqb left.body x) (pass tt) (removes left x)

  unfoldable pub qnt_rm_unused : ℕ → Outcome (Unit {0})
  qnt_rm_unused x = do
    sides ← need 2 x 0 (equality tags values x)
    left ← need 3 sides.0 0 (quantifier tags values sides.0)
    body_or left sides.1
