-- A small reading, and what is true in it: each line is shown by computation.
--
--     formula                           at the values ρ
--     (forall (x) x)                    false
--     (exists (x) x)                    true
--     (forall () x)                     the value of x
--     (forall ((x Bool)) (x of Int))    the value of x of sort Int: one name under two sorts is two variables
-- Rests on Sort, Term, Skeleton and Truth.
use Rattle.std.specs.Prelude.{◌≡◌, refl, Bool, true, false}
use mathlib.Core.List.{[], ◌∷◌, Memᴰ}
use Rattle.std.proofs.Math.Decide.{ℕ_discrete}
use Rattle.meaning.specs.Sort.{Sort, Sort-discrete, bool, int}
use Rattle.meaning.specs.Term.{Var, Var-discrete, Term, const, bit_vector, var, app, quant, bind, letin, op, no_term}
use Rattle.meaning.specs.Skeleton.{skeleton}
use Rattle.meaning.specs.Truth.{Assignment, Reading, value_at, assign, over, True}

-- every sort has the values true and false, a variable as a formula has its value, and every other opaque term is false
abbrev value_of : Term → Assignment (λ (s : Sort). Bool) → Bool
value_of (const k s c) ρ = false
value_of (bit_vector s w c) ρ = false
value_of (var v) ρ = ρ v
value_of (app s f ts) ρ = false
value_of (quant b s vs t) ρ = false
value_of (bind k s vs t) ρ = false
value_of (letin s ls t) ρ = false
value_of (op k s ts) ρ = false
value_of no_term ρ = false

pub either : (x : Bool) → Memᴰ x (true ∷ false ∷ [])
either true = Memᴰ.head refl
either false = Memᴰ.tail (Memᴰ.head refl)

abbrev pub two_values : Reading
two_values = record { Value = λ s. Bool; values = λ s. true ∷ false ∷ []; listed = λ s. either; opaque-truth = value_of }

abbrev pub x : Var
x = record { name = 1; sort = bool }

abbrev number : Var
number = record { name = 1; sort = int }

pub forall-false : (ρ : Assignment (λ (s : Sort). Bool)) → True two_values (quant true bool (x ∷ []) (var x)) ρ ≡ false
unfolding True skeleton over assign value_at Var-discrete Sort-discrete ℕ_discrete
forall-false ρ = refl

pub exists-true : (ρ : Assignment (λ (s : Sort). Bool)) → True two_values (quant false bool (x ∷ []) (var x)) ρ ≡ true
unfolding True skeleton over assign value_at Var-discrete Sort-discrete ℕ_discrete
exists-true ρ = refl

pub empty-list : (b : Bool) (ρ : Assignment (λ (s : Sort). Bool)) → True two_values (quant b bool [] (var x)) ρ ≡ ρ x
unfolding True skeleton over
empty-list b ρ = refl

pub two-sorts : (ρ : Assignment (λ (s : Sort). Bool)) → ρ number ≡ true → True two_values (quant true bool (x ∷ []) (var number)) ρ ≡ true
unfolding True skeleton over assign value_at Var-discrete Sort-discrete ℕ_discrete
two-sorts ρ e = rw e
