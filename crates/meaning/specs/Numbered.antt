-- Readings whose values are numbers. All of them together are a type of Type 0, so that a contract can speak of each; what holds in all of
-- them holds in every reading (proofs/Numbered.antt).
--     Numbers          how many values each sort has, and the truth of opaque terms
--     numbered N       the reading
--     SameValue p x t  HasValue in all of them; nothing is asked of locality
--     ClausesSay cs t  Says in all of them
-- Demand 3: "a reading gives each sort finitely many values, at least one". S-1: "in every reading .. even where an opaque literal's value
-- depends on every variable".
-- Rests on Sort, Term and Truth.
use Prim.Native.Nat.{ℕ, zero, suc, Fin, zero-le, suc-le-suc}
use Rattle.std.specs.Prelude.{refl, Bool}
use Rattle.std.proofs.Common.{ap}
use mathlib.Core.List.{List, [], ◌∷◌, map, Memᴰ}
use Rattle.meaning.specs.Sort.{Sort}
use Rattle.meaning.specs.Term.{Var, Term}
use Rattle.meaning.specs.Truth.{Reading, HasValue, Says}

-- the sort s has the values 0 to most s
pub record Numbers : Type 0 where
  pub most : Sort → ℕ
  pub opaque-truth : Term → ((v : Var) → Fin (suc (most v.sort))) → Bool

-- the numbers below n, and that none is left out
unfoldable pub below : (n : ℕ) → List (Fin n)
below zero = []
below (suc n) = (zero, suc-le-suc zero-le) ∷ map native.Mathlib.Fin.succ (below n)

next-listed : {n : ℕ} {x : Fin n} {xs : List (Fin n)} → Memᴰ x xs → Memᴰ (native.Mathlib.Fin.succ x) (map native.Mathlib.Fin.succ xs)
next-listed (Memᴰ.head e) = Memᴰ.head (ap native.Mathlib.Fin.succ e)
next-listed (Memᴰ.tail m) = Memᴰ.tail (next-listed m)

pub below-listed : (n : ℕ) (x : Fin n) → Memᴰ x (below n)
unfolding below
below-listed zero (i, h) = elim h [ ]
below-listed (suc n) (zero, suc-le-suc h) = Memᴰ.head (native.Mathlib.Fin.val_path refl)
below-listed (suc n) (suc i, suc-le-suc h) = Memᴰ.tail (next-listed (below-listed n (i, h)))

abbrev pub numbered : Numbers → Reading
numbered N =
    record {
      Value = λ s. Fin (suc (N.most s));
      values = λ s. below (suc (N.most s));
      listed = λ s. below-listed (suc (N.most s));
      opaque-truth = N.opaque-truth;
    }

-- ---- values in all of them
abbrev pub SameValue : Bool → Term → Term → Type 0
SameValue p x t = (N : Numbers) → HasValue (numbered N) p x t

abbrev pub ClausesSay : List (List Term) → Term → Type 0
ClausesSay cs t = (N : Numbers) → Says (numbered N) cs t
