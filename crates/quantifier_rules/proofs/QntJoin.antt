-- 01's join and the Rust's: one list where every repeat is adjacent, and the smallest lists on which they part.
-- Assumes nothing.
use Prim.Native.Nat.{ℕ, ◌≤◌}
use mathlib.Core.Path.{◌≡◌, refl, sym, ap, ◌∙◌}
use mathlib.Core.Bool.{Bool, true, false, not, ◌&&◌, ◌||◌}
use mathlib.Core.List.{List, [], ◌∷◌, ◌++◌}
use lib.ListN.{length}
use native.Mathlib.Omega.{arith}
use lib.Dec.{eqb}
use borrow.Author.Tests.{not-true, eq-eqb, ne_eqb, eqb-true, eqb-false}
use Rattle.cells.specs.ByPlace.{by-test}
use Rattle.bindings.specs.Binding.{Binding, same, has}
use Rattle.quantifier_rules.specs.QntJoin.{after_pair, without_adjacent, firsts_after, firsts_only, joined, joined_rust, adjacent_after, repeats_adjacent}
use Rattle.bindings.proofs.binding.Laws.{same-is}

same_self : (a : Binding) → same a a ≡ true
unfolding same
same_self a = rw (eq-eqb a.name a.name refl, eq-eqb a.sort a.sort refl)

eqb_swap : (a b : ℕ) → eqb a b ≡ eqb b a
eqb_swap a b =
    by-test (eqb b a)
    (λ e. rw e (eq-eqb a b (sym (eqb-true b a e))))
    (λ e. rw e (ne_eqb a b (λ p. eqb-false b a e (sym p))))

same-swap : (a b : Binding) → same a b ≡ same b a
unfolding same
same-swap a b = rw (eqb_swap a.name b.name, eqb_swap a.sort b.sort)

-- what is seen matters only by what it has
seen_as : (s t list : List Binding) → ((x : Binding) → has s x ≡ has t x) → firsts_after s list ≡ firsts_after t list
unfolding firsts_after has
seen_as s t [] e = refl
seen_as s t (a ∷ as') e =
    by-test (has t a)
    (λ h. rw (e a, h) (seen_as s t as' e))
    (λ h. rw (e a, h) (ap (λ (l : List Binding). a ∷ l) (seen_as (a ∷ s) (a ∷ t) as' (λ x. ap (λ (b : Bool). same a x || b) (e x)))))

either-self : (b c : Bool) → (b || (b || c)) ≡ (b || c)
either-self true c = refl
either-self false c = refl

-- a pair that is seen twice
seen_twice : (a : Binding) (seen list : List Binding) → firsts_after (a ∷ (a ∷ seen)) list ≡ firsts_after (a ∷ seen) list
unfolding has
seen_twice a seen list = seen_as _ _ list (λ x. either-self (same a x) (has seen x))

-- the two conditions of a step, in the order of the definition
both : (b c : Bool) → (b && c) ≡ true → (b ≡ true) × (c ≡ true)
both true true e = (refl, refl)
both true false e = (refl, e)
both false c e = (e, cc)

after-agree : (seen : List Binding) (a : Binding) (list : List Binding) → adjacent_after seen a list ≡ true → after_pair a list ≡ firsts_after (a ∷ seen) list
unfolding after_pair firsts_after adjacent_after has
after-agree seen a [] h = refl
after-agree seen a (b ∷ bs) h =
    let parts : ((same a b || not (has seen b)) ≡ true) × (adjacent_after (a ∷ seen) b bs ≡ true) = both _ _ h in
    by-test (same a b)
    (λ e. rw e (after-agree (a ∷ seen) b bs parts.1 ∙ rw (sym (same-is a b e)) (seen_twice a seen bs)))
    (λ e.
    let new : has seen b ≡ false = not-true (has seen b) (rw e at parts.0) in
    rw (e, new) (ap (λ (l : List Binding). b ∷ l) (after-agree (a ∷ seen) b bs parts.1)))

dropped-agree : (list : List Binding) → repeats_adjacent list ≡ true → without_adjacent list ≡ firsts_only list
unfolding repeats_adjacent without_adjacent firsts_only firsts_after has
dropped-agree [] h = refl
dropped-agree (a ∷ as') h = ap (λ (l : List Binding). a ∷ l) (after-agree [] a as' h)

-- where the outer list and then the inner repeat no pair at a distance
pub joins-agree : (outer inner : List Binding) → repeats_adjacent (outer ++ inner) ≡ true → joined outer inner ≡ joined_rust outer inner
unfolding joined joined_rust
joins-agree outer inner h = dropped-agree (outer ++ inner) h

-- two pairs have no repeat at a distance
short-adjacent : (list : List Binding) → length list ≤ 2 → repeats_adjacent list ≡ true
unfolding repeats_adjacent adjacent_after has
short-adjacent [] h = refl
short-adjacent (a ∷ []) h = refl
short-adjacent (a ∷ (b ∷ [])) h = by-test (same a b) (λ e. rw e) (λ e. rw e)
short-adjacent (a ∷ (b ∷ (c ∷ list))) h = absurd (omega arith)

pub short-joins-agree : (outer inner : List Binding) → length (outer ++ inner) ≤ 2 → joined outer inner ≡ joined_rust outer inner
short-joins-agree outer inner h = joins-agree outer inner (short-adjacent (outer ++ inner) h)

-- the smallest lists on which they part, x with y, x: 01's join is x y x, the Rust's is x y
module _ (x y : Binding) (other : same x y ≡ false) where
  pub join_apart : joined (x ∷ []) (y ∷ (x ∷ [])) ≡ x ∷ (y ∷ (x ∷ []))
  unfolding joined without_adjacent after_pair
  join_apart = simp (other, same-swap y x ∙ other)

  pub join-apart-rust : joined_rust (x ∷ []) (y ∷ (x ∷ [])) ≡ x ∷ (y ∷ [])
  unfolding joined_rust firsts_only firsts_after has
  join-apart-rust = simp (other, same-swap y x ∙ other, same_self)
