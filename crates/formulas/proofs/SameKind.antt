-- `==` and `!=` of two kinds of quantifier, by what a form carries for them.
--     same-kind     the flag of `==`
--     other-kind     the flag of `!=`
--     not-forall     the flag of `!= QuantifierKind::Forall`
-- Assumes nothing.
use mathlib.Core.Path.{◌≡◌, refl, sym, ap, ◌∙◌}
use mathlib.Core.Bool.{Bool, not, beq}
use denote.Enum.Bare.{sameb}
use Rattle.formulas.specs.contracts.kinds.QuantifierKind.{the_type}
use Rattle.formulas.specs.declared.kinds.QuantifierKind.{QuantifierKind}
use Rattle.formulas.specs.declared.kinds.QuantifierKind.TheVariants.{Forall, Exists}
use Rattle.formulas.specs.Formula.{is_forall}

by-kind : (a b : QuantifierKind) → beq (is_forall a) (is_forall b) ≡ sameb the_type a b
by-kind Forall Forall = refl
by-kind Forall Exists = refl
by-kind Exists Forall = refl
by-kind Exists Exists = refl

not-by-kind : (a : QuantifierKind) → not (is_forall a) ≡ not (sameb the_type a Forall)
not-by-kind Forall = refl
not-by-kind Exists = refl

pub not-forall : (a : QuantifierKind) (v : Bool) → v ≡ not (sameb the_type a Forall) → (w : Bool) → v ≡ w → not (is_forall a) ≡ w
not-forall a v is w e = not-by-kind a ∙ (sym is ∙ e)

module _ (a b : QuantifierKind) (v : Bool) where
  pub same-kind : v ≡ sameb the_type a b → (w : Bool) → v ≡ w → beq (is_forall a) (is_forall b) ≡ w
  same-kind is w e = by-kind a b ∙ (sym is ∙ e)

  pub other-kind : v ≡ not (sameb the_type a b) → (w : Bool) → v ≡ w → not (beq (is_forall a) (is_forall b)) ≡ w
  other-kind is w e = ap not (by-kind a b) ∙ (sym is ∙ e)
