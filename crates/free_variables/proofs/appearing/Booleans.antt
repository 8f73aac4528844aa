-- Booleans: the laws of `and` and `or` that lists without repeats ask for.
-- Assumes nothing.
use mathlib.Core.Path.{◌≡◌, refl, sym, ◌∙◌}
use mathlib.Core.Bool.{Bool, true, false, not, ◌&&◌, ◌||◌, true≢false, false≢true}

pub not-both : {b : Bool} → b ≡ true → b ≡ false → ⊥
not-both p q = true≢false (sym p ∙ q)

pub or_left : (x y : Bool) → x ≡ true → (x || y) ≡ true
or_left true y e = refl
or_left false y e = absurd (false≢true e)

pub or_right : (x y : Bool) → y ≡ true → (x || y) ≡ true
or_right true y e = refl
or_right false y e = e

pub or_cases {ℓ} : (x y : Bool) {C : Type ℓ} → (x || y) ≡ true → (x ≡ true → C) → (y ≡ true → C) → C
or_cases true y e f g = f refl
or_cases false y e f g = g e

pub and_split : (x y : Bool) → (x && y) ≡ true → (x ≡ true) × (y ≡ true)
and_split true y e = (refl, e)
and_split false y e = absurd (false≢true e)

pub and_intro : (x y : Bool) → x ≡ true → y ≡ true → (x && y) ≡ true
and_intro true y p q = q
and_intro false y p q = p

pub and_none : (a b : Bool) → b ≡ false → (a && b) ≡ false
and_none true b q = q
and_none false b q = refl

-- what is there, or what is not there and new
pub or_new : (a b : Bool) → (a || not a && b) ≡ (a || b)
or_new true b = refl
or_new false b = refl
