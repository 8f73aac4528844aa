-- Readings whose values are numbers are enough: what is true in all of them is true in every reading.
--     every-reading     the converse of TrueInReadings
-- Assumes nothing.
use mathlib.Core.Path.{◌≡◌, sym, ap, ◌∙◌}
use mathlib.Core.Bool.{true}
use Rattle.meaning.specs.Term.{Term}
use Rattle.meaning.specs.Truth.{Assignment, Reading, Local, True}
use Rattle.meaning.proofs.truth.Numbered.{at, read, numbers, N, code, numbers-true, start-read}
use Rattle.rules.specs.Premises.{TrueInReadings}

module _ (R : Reading) (start : Assignment R.Value) where
  numbers-local : Local R → Local (N R start)
  numbers-local local t o ρ σ h = local t o (read R start ρ) (read R start σ) (λ v q. ap (at R start v.sort) (h v q))

pub every-reading : (c : Term) → TrueInReadings c → (R : Reading) → Local R → (ρ : Assignment R.Value) → True R c ρ ≡ true
every-reading c h R local ρ =
    sym (ap (True R c) (start-read R ρ))
    ∙ (sym (numbers-true R ρ c (code R ρ ρ)) ∙ h (numbers R ρ) (numbers-local R ρ local) (code R ρ ρ))
