-- Laws of `Gathered`: what lists of occurrences add, one after another.
-- Assumes nothing.
use Prim.Native.Nat.{ℕ, zero, suc, ◌+◌, ◌≤◌, ◌<◌}
use mathlib.Core.Path.{◌≡◌, refl, sym, ap, ◌∙◌}
use mathlib.Core.Bool.{Bool, true, false, cond, ◌||◌}
use mathlib.Core.List.{List, [], ◌∷◌, ◌++◌, append-nil, append_assoc}
use lib.ListN.{length, get_or, take}
use lib.Seq.{take_all, length-take-le}
use lib.Dec.{eqb}
use native.Mathlib.Nat.{add-zero}
use native.Mathlib.Omega.{arith}
use borrow.Author.Tests.{eqb-true}
use Rattle.cells.specs.ByPlace.{by-test}
use Rattle.cells.specs.Limits.{cell_limit}
use Rattle.free_variables.specs.Once.{among, leave_out, firsts, add_all}
use Rattle.free_variables.proofs.appearing.Booleans.{not-both, or_left, or_right}
use Rattle.free_variables.proofs.appearing.Once.{leave_out-twice, leave_out-append, leave_out-same, add_all-append, add_all-is, add_all-firsts, among-append, among-leave_out, among-firsts}
use Rattle.free_variables.proofs.appearing.Listed.{eqb_is, eqb_refl}
use Rattle.appearance.specs.Walk.{is_hidden, new_in, Gathered}

-- ---- lists of places
-- two tests that agree on a list leave out the same
pub leave_out-on : (f g : ℕ → Bool) (xs : List ℕ) → ((v : ℕ) → among eqb xs v ≡ true → f v ≡ g v) → leave_out f xs ≡ leave_out g xs
unfolding leave_out among
leave_out-on f g [] h = refl
leave_out-on f g (x ∷ xs) h =
    let rest = leave_out-on f g xs (λ v e. h v (or_right (eqb x v) (among eqb xs v) e)) in
    let here : f x ≡ g x = h x (or_left (eqb x x) (among eqb xs x) (eqb_refl x)) in
    rw (here, rest)

-- leaving out commutes with dropping repeats
same_out : (g : ℕ → Bool) (x : ℕ) → g x ≡ true → (v : ℕ) → (g v || eqb x v) ≡ g v
same_out g x e v =
    by-test (eqb x v)
    (λ q. rw (q, ap g (sym (eqb_is x v q)) ∙ e))
    (λ q. rw q (or_nothing (g v)))
  where
    or_nothing : (b : Bool) → (b || false) ≡ b
    or_nothing true = refl
    or_nothing false = refl

or_swap : (a b : Bool) → (a || b) ≡ (b || a)
or_swap true true = refl
or_swap true false = refl
or_swap false true = refl
or_swap false false = refl

pub firsts-leave_out : (g : ℕ → Bool) (xs : List ℕ) → firsts eqb (leave_out g xs) ≡ leave_out g (firsts eqb xs)
unfolding firsts leave_out
firsts-leave_out g [] = refl
firsts-leave_out g (x ∷ xs) =
    by-test (g x)
    (λ e. rw e (firsts-leave_out g xs
    ∙ sym (leave_out-twice g (eqb x) (firsts eqb xs) ∙ leave_out-same (λ v. g v || eqb x v) g (same_out g x e) (firsts eqb xs))))
    (λ e. rw e (ap (λ (l : List ℕ). x ∷ l)
    (ap (leave_out (eqb x)) (firsts-leave_out g xs)
    ∙ leave_out-twice (eqb x) g (firsts eqb xs)
    ∙ leave_out-same (λ v. eqb x v || g v) (λ v. g v || eqb x v) (λ v. or_swap (eqb x v) (g v)) (firsts eqb xs)
    ∙ sym (leave_out-twice g (eqb x) (firsts eqb xs)))))

firsts-append : (xs ys : List ℕ) → firsts eqb (xs ++ ys) ≡ firsts eqb xs ++ leave_out (among eqb (firsts eqb xs)) (firsts eqb ys)
firsts-append xs ys =
    sym (add_all-firsts eqb eqb_is eqb_refl (xs ++ ys))
    ∙ add_all-append eqb [] xs ys
    ∙ ap (λ (l : List ℕ). add_all eqb l ys) (add_all-firsts eqb eqb_is eqb_refl xs)
    ∙ add_all-is eqb eqb_is eqb_refl (firsts eqb xs) ys

-- a list of occurrences below the limit
pub record Below (xs : List ℕ) : Type 0 where
  pub at : (v : ℕ) → among eqb xs v ≡ true → v < cell_limit

-- ---- what is new
pub new_none : (state : List ℕ) → new_in state [] ≡ []
unfolding new_in firsts leave_out
new_none state = refl

-- a place that is new is wanted
new-shown : (state xs : List ℕ) (v : ℕ) → among eqb (new_in state xs) v ≡ true → get_or state v 0 ≡ 0
unfolding new_in is_hidden
new-shown state xs v e = by-test (eqb (get_or state v 0) 0)
    (λ q. eqb-true (get_or state v 0) 0 q)
    (λ q. absurd (not-both e (among-firsts eqb eqb_is eqb_refl (leave_out (is_hidden state) xs) v
    ∙ among-leave_out eqb eqb_is eqb_refl (is_hidden state) xs v ∙ rw q)))

module _ (state xs state' ys : List ℕ) (b : Below ys)
    (c : (v : ℕ) → v < cell_limit → get_or state' v 0 ≡ get_or state v 0 + cond (among eqb (new_in state xs) v) 1 0) where
  hidden-now : (v : ℕ) → v < cell_limit → is_hidden state' v ≡ (among eqb (new_in state xs) v || is_hidden state v)
  unfolding is_hidden
  hidden-now v h = by-test (among eqb (new_in state xs) v)
      (λ e. rw (c v h, e, new-shown state xs v e))
      (λ e. let same : get_or state' v 0 ≡ get_or state v 0 = c v h ∙ rw e (add-zero (get_or state v 0)) in rw (same, e))

  -- what two lists add, one after the other
  pub new-append : new_in state (xs ++ ys) ≡ new_in state xs ++ new_in state' ys
  unfolding new_in
  new-append =
      ap (firsts eqb) (leave_out-append (is_hidden state) xs ys)
      ∙ firsts-append (leave_out (is_hidden state) xs) (leave_out (is_hidden state) ys)
      ∙ ap (λ (l : List ℕ). firsts eqb (leave_out (is_hidden state) xs) ++ l)
      (sym (firsts-leave_out (among eqb (new_in state xs)) (leave_out (is_hidden state) ys))
      ∙ ap (firsts eqb) (leave_out-twice (among eqb (new_in state xs)) (is_hidden state) ys
      ∙ leave_out-on (λ v. among eqb (new_in state xs) v || is_hidden state v) (is_hidden state') ys (λ v e. sym (hidden-now v (b.at v e)))))

take_more : (k : ℕ) (xs ys : List ℕ) → take k (take k xs ++ ys) ≡ take k (xs ++ ys)
take_more zero xs ys = refl
take_more (suc k) [] ys = refl
take_more (suc k) (x ∷ xs) ys = ap (λ (l : List ℕ). x ∷ l) (take_more k xs ys)

-- ---- gathering
pub gather_none : (state found : List ℕ) (len : ℕ) (xs : List ℕ) → len ≤ length found → new_in state xs ≡ [] → Gathered state found len xs state found len
unfolding among
gather_none state found len xs h e = record {
  within = h;
  places = rw e (sym (ap (take (length found)) (append-nil (take len found)) ∙ take_all (length found) (take len found) (rw (length-take-le len found h) h)));
  counts = λ v l. rw e (omega arith);
}

module _ (state found : List ℕ) (len : ℕ) (xs state' found' : List ℕ) (len' : ℕ) (g : Gathered state found len xs state' found' len')
    (long : length found' ≡ length found) (ys : List ℕ) (b : Below ys)
    (state'' found'' : List ℕ) (len'' : ℕ) (g' : Gathered state' found' len' ys state'' found'' len'') where
  pub gather-then : Gathered state found len (xs ++ ys) state'' found'' len''
  gather-then = record {
    within = g'.within;
    places = g'.places ∙ rw (long, g.places) (
        take_more (length found) (take len found ++ new_in state xs) (new_in state' ys)
        ∙ ap (take (length found)) (append_assoc (take len found) (new_in state xs) (new_in state' ys))
        ∙ rw (new-append state xs state' ys b g.counts));
    counts = λ v l. g'.counts v l ∙ rw (g.counts v l, new-append state xs state' ys b g.counts, among-append eqb eqb_is eqb_refl (new_in state xs) (new_in state' ys) v)
        (by-test (among eqb (new_in state' ys) v)
        (λ e. by-test (among eqb (new_in state xs) v)
        (λ q. absurd (over v l e q))
        (λ q. rw (e, q) (omega arith)))
        (λ e. by-test (among eqb (new_in state xs) v)
        (λ q. rw (e, q) (omega arith))
        (λ q. rw (e, q) (omega arith))));
  }
    where
      over : (v : ℕ) → v < cell_limit → among eqb (new_in state' ys) v ≡ true → among eqb (new_in state xs) v ≡ true → ⊥
      over v l e q = let z = new-shown state' ys v e in let c = g.counts v l in (omega (arith, rw q at c, z))

-- the counts stay under a limit
pub gather-few : (state found : List ℕ) (len : ℕ) (xs state' found' : List ℕ) (len' : ℕ) → Gathered state found len xs state' found' len'
    → (limit : ℕ) → 1 ≤ limit → (v : ℕ) → v < cell_limit → get_or state v 0 ≤ limit → get_or state' v 0 ≤ limit
gather-few state found len xs state' found' len' g limit o v l h = by-test (among eqb (new_in state xs) v)
    (λ e. let z = new-shown state xs v e in let c = g.counts v l in omega (arith, rw e at c, z))
    (λ e. let c = g.counts v l in omega (arith, rw e at c))
