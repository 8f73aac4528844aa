-- Laws of masks.
--     mask_fits      at most 31 pairs have a mask under 2 ^ 31
--     mask-none      where no pair passes the mask is 0
--     mask-or        the bitwise or of two masks is the mask of either test
--     mask-without   a mask without bound pairs is the mask of what is not bound and passes
-- Assumes nothing.
use Prim.Native.Nat.{ℕ, zero, suc, ◌+◌, ◌*◌, ◌/◌, ◌%◌, ◌^◌, ◌≤◌, ◌<◌, max}
use mathlib.Core.Path.{◌≡◌, refl, ap, fun_ext}
use mathlib.Core.Bool.{Bool, true, false, cond, ◌||◌}
use mathlib.Core.List.{List, [], ◌∷◌}
use lib.ListN.{length}
use lib.Arith.{digits_div, digits_mod}
use lib.Bits.{bit_or, or_step}
use lib.Pow.{pow_pos}
use native.Mathlib.Omega.{arith}
use native.Mathlib.Nat.{pow-suc, div-add-mod'}
use Rattle.cells.specs.ByPlace.{by-test}
use Rattle.bindings.specs.Binding.{Binding, bindings_of}
use Rattle.free_pairs.specs.Mask.{mask_of, without}

-- ---- how large a mask is
bit-small : (b : Bool) → cond b 1 0 < 2
bit-small true = omega arith
bit-small false = omega arith

mask_lt : (test : Binding → Bool) (l : List Binding) (k : ℕ) → length l ≤ k → mask_of test l < 2 ^ k
unfolding mask_of
mask_lt test [] k h = pow_pos k
mask_lt test (a ∷ l) zero h = absurd (omega arith)
mask_lt test (a ∷ l) (suc k) h = rw (pow-suc 2 k) (omega (arith, bit-small (test a), mask_lt test l k (omega arith)))

pairs-length : (l : List ℕ) → length (bindings_of l) * 2 ≤ length l
unfolding bindings_of
pairs-length [] = omega arith
pairs-length (a ∷ []) = omega arith
pairs-length (a ∷ (s ∷ l)) = omega (arith, pairs-length l)

pub mask_fits : (test : Binding → Bool) (l : List ℕ) → length l ≤ 62 → mask_of test (bindings_of l) < 2147483648
mask_fits test l h = mask_lt test (bindings_of l) 31 (omega (arith, pairs-length l))

-- ---- equal tests
pub mask-same : (p q : Binding → Bool) (l : List Binding) → ((a : Binding) → p a ≡ q a) → mask_of p l ≡ mask_of q l
mask-same p q l h = ap (λ (t : Binding → Bool). mask_of t l) (fun_ext h)

pub mask-none : (test : Binding → Bool) (l : List Binding) → ((a : Binding) → test a ≡ false) → mask_of test l ≡ 0
unfolding mask_of
mask-none test [] h = refl
mask-none test (a ∷ l) h = rw (h a, mask-none test l h)

-- a test that passes less than one that no pair of the list passes
pub mask-less : (p q : Binding → Bool) (l : List Binding) → ((a : Binding) → p a ≡ false → q a ≡ false) → mask_of p l ≡ 0 → mask_of q l ≡ 0
unfolding mask_of
mask-less p q [] h e = refl
mask-less p q (a ∷ l) h e =
    by-test (p a)
    (λ o. let z : mask_of p l * 2 + 1 ≡ 0 = rw o at e in absurd (omega arith))
    (λ o. let z : mask_of p l * 2 + 0 ≡ 0 = rw o at e in rw (h a o, mask-less p q l h (omega arith)))

-- ---- two masks
bit-or : (x y : Bool) → max (cond x 1 0) (cond y 1 0) ≡ cond (x || y) 1 0
bit-or true true = refl
bit-or true false = refl
bit-or false true = refl
bit-or false false = refl

pub mask-or : (p q : Binding → Bool) (l : List Binding) → bit_or (mask_of p l) (mask_of q l) ≡ mask_of (λ a. p a || q a) l
unfolding mask_of
mask-or p q [] = refl
mask-or p q (a ∷ l) =
    rw
    (or_step (mask_of p l * 2 + cond (p a) 1 0) (mask_of q l * 2 + cond (q a) 1 0), digits_div (mask_of p l) (bit-small (p a)), digits_div (mask_of q l) (bit-small (q a)), digits_mod (mask_of p l) (bit-small (p a)), digits_mod (mask_of q l) (bit-small (q a)), mask-or p q l, bit-or (p a) (q a))

-- ---- bound pairs taken out
bit-without : (b x : Bool) → ◌≡◌ {A = ℕ} (cond b 0 (cond x 1 0)) (cond (cond b false x) 1 0)
bit-without true x = refl
bit-without false x = refl

pub mask-without : (bound test : Binding → Bool) (l : List Binding) → without bound l (mask_of test l) ≡ mask_of (λ a. cond (bound a) false (test a)) l
unfolding mask_of without
mask-without bound test [] = refl
mask-without bound test (a ∷ l) =
    rw
    (digits_div (mask_of test l) (bit-small (test a)), digits_mod (mask_of test l) (bit-small (test a)), mask-without bound test l, bit-without (bound a) (test a))

cond-le : (b : Bool) (m : ℕ) → cond b 0 m ≤ m
cond-le true m = omega arith
cond-le false m = omega arith

pub without-le : (bound : Binding → Bool) (l : List Binding) (m : ℕ) → without bound l m ≤ m
unfolding without
without-le bound [] m = omega arith
without-le bound (a ∷ l) m = omega (arith, without-le bound l (m / 2), cond-le (bound a) (m % 2), div-add-mod' m 2)
