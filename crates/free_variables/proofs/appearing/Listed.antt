-- The list of free variables in order of appearance, of any two lists of cells: no check is asked for.
--     listed-at         a variable's place is in the list exactly if it is free there
--     listed-var        a place in the list is a variable's, and does not stand after the term
--     listed-once       no place stands twice
--     listed-few        the list is not longer than the places up to the term
-- Assumes nothing.
use Prim.Native.Nat.{ℕ, zero, suc, ◌≤◌, ◌<◌}
use mathlib.Core.Path.{◌≡◌, refl, sym, ap, ap₂, ◌∙◌}
use mathlib.Core.Bool.{Bool, true, false, not, ◌&&◌, ◌||◌, cond, false≢true, or-false}
use mathlib.Core.List.{List, [], ◌∷◌}
use lib.ListN.{length, get_or}
use lib.Dec.{ltb, eqb}
use native.Mathlib.Omega.{arith}
use borrow.Author.Tests.{eqb-true, eqb-false, eq-eqb, ne_eqb, ltb-true, ltb-false, lt-ltb, not-true}
use Rattle.cells.specs.Cell.{operands_of}
use Rattle.cells.specs.ByPlace.{by-test, by_place-is}
use Rattle.free_variables.specs.Free.{bound_by, let_binds, any_of, let_values, under_pairs, free_step, is_free}
use Rattle.free_variables.specs.Once.{leave_out, among, distinct}
use Rattle.free_variables.specs.Appearing.{joined, occurrences_from, occurrences_step, occurrences_at, appearing_at}
use Rattle.free_variables.proofs.appearing.Booleans.{not-both, or_left, or_cases, and_split}
use Rattle.free_variables.proofs.appearing.Once.{among-append, among-leave_out, among-firsts, firsts-distinct, leave_out-distinct}

-- places are equal as numbers
pub eqb_is : (x y : ℕ) → eqb x y ≡ true → x ≡ y
eqb_is x y e = eqb-true x y e

pub eqb_refl : (x : ℕ) → eqb x x ≡ true
eqb_refl x = eq-eqb x x refl

-- ---- in the list exactly if free
under : (b x : Bool) → (not b && x) ≡ cond b false x
under true x = refl
under false x = refl

module _ (v : ℕ) (free : ℕ → Bool) (rec : ℕ → List ℕ) (right : (u : ℕ) → among eqb (rec u) v ≡ free u) where
  joined-any : (us : List ℕ) → among eqb (joined rec us) v ≡ any_of free us
  unfolding joined any_of among
  joined-any [] = refl
  joined-any (u ∷ us) = among-append eqb eqb_is eqb_refl (rec u) (joined rec us) v ∙ ap₂ ◌||◌ (right u) (joined-any us)

  body-any : (test : ℕ → Bool) (run : List ℕ) → among eqb (leave_out test (rec (get_or run 0 0))) v ≡ under_pairs free (test v) run
  unfolding under_pairs
  body-any test run =
      among-leave_out eqb eqb_is eqb_refl test (rec (get_or run 0 0)) v
      ∙ (under (test v) (among eqb (rec (get_or run 0 0)) v) ∙ ap (cond (test v) false) (right (get_or run 0 0)))

  step-any : (tags values : List ℕ) (t : ℕ) → get_or tags v 0 ≡ 21 → among eqb (occurrences_step tags values t rec) v ≡ free_step tags values v t free
  unfolding occurrences_step occurrences_from free_step among
  step-any tags values t e =
      by-test (ltb (get_or tags t 0) 21)
      (λ p. let l : get_or tags t 0 < 21 = ltb-true (get_or tags t 0) 21 p in
      rw (p, ne_eqb t v (λ z. other l z), lt-ltb (get_or tags t 0) 22 (omega arith)))
      (λ p. by-test (ltb (get_or tags t 0) 22)
      (λ q. rw (p, q) (itself (eqb t v)))
      (λ q. let l : 22 ≤ get_or tags t 0 = ltb-false (get_or tags t 0) 22 q in
      by-test (ltb (get_or tags t 0) 23)
      (λ r. rw (p, q, r, ne_eqb t v (λ z. another l z)) (joined-any (operands_of tags values t)))
      (λ r. by-test (ltb (get_or tags t 0) 27)
      (λ s. rw (p, q, r, s, ne_eqb t v (λ z. another l z)) (body-any (λ w. bound_by values w (operands_of tags values t)) (operands_of tags values t)))
      (λ s. by-test (ltb (get_or tags t 0) 28)
      (λ o. rw (p, q, r, s, o, ne_eqb t v (λ z. another l z))
      (among-append eqb eqb_is eqb_refl (joined rec (let_values (operands_of tags values t)))
      (leave_out (λ w. let_binds values w (operands_of tags values t)) (rec (get_or (operands_of tags values t) 0 0))) v
      ∙ ap₂ ◌||◌ (joined-any (let_values (operands_of tags values t))) (body-any (λ w. let_binds values w (operands_of tags values t)) (operands_of tags values t))))
      (λ o. rw (p, q, r, s, o, ne_eqb t v (λ z. another l z)) (joined-any (operands_of tags values t)))))))
    where
      itself : (b : Bool) → (b || false) ≡ cond b true false
      itself true = refl
      itself false = refl

      other : get_or tags t 0 < 21 → t ≡ v → ⊥
      other l z = let y : get_or tags t 0 ≡ 21 = rw z e in omega arith

      another : 22 ≤ get_or tags t 0 → t ≡ v → ⊥
      another l z = let y : get_or tags t 0 ≡ 21 = rw z e in omega arith

module _ (tags values : List ℕ) where
  module _ (v : ℕ) (e : get_or tags v 0 ≡ 21) where
    listed_below : (d t : ℕ) → t < d → among eqb (occurrences_at tags values t) v ≡ is_free tags values v t
    unfolding occurrences_at is_free among
    listed_below zero t h = absurd (omega arith)
    listed_below (suc d) t h =
        rw (by_place-is (occurrences_step tags values) [] t, by_place-is (free_step tags values v) false t)
        (step-any v (λ u. cond (ltb u t) (is_free tags values v u) false) (λ u. cond (ltb u t) (occurrences_at tags values u) [])
        (λ u. by-test (ltb u t)
        (λ p. rw p (listed_below d u (omega (arith, ltb-true u t p))))
        (λ p. rw p))
        tags values t e)

    pub occurs-at : (t : ℕ) → among eqb (occurrences_at tags values t) v ≡ is_free tags values v t
    occurs-at t = listed_below (suc t) t (omega arith)

    pub listed-at : (t : ℕ) → among eqb (appearing_at tags values t) v ≡ is_free tags values v t
    unfolding appearing_at
    listed-at t = among-firsts eqb eqb_is eqb_refl (occurrences_at tags values t) v ∙ occurs-at t

  -- ---- what is in the list
  module _ (v : ℕ) where
    abbrev Good : ℕ → Type 0
    Good t = (get_or tags v 0 ≡ 21) × (v ≤ t)

    later : (u t : ℕ) → u ≤ t → Good u → Good t
    later u t l g = (g.0, omega (arith, g.1))

    module _ (t : ℕ) (rec : ℕ → List ℕ) (right : (u : ℕ) → among eqb (rec u) v ≡ true → (get_or tags v 0 ≡ 21) × (v ≤ t)) where
      good-joined : (us : List ℕ) → among eqb (joined rec us) v ≡ true → Good t
      unfolding joined among
      good-joined [] e = absurd (false≢true e)
      good-joined (u ∷ us) e =
          or_cases (among eqb (rec u) v) (among eqb (joined rec us) v) (sym (among-append eqb eqb_is eqb_refl (rec u) (joined rec us) v) ∙ e)
          (λ p. right u p) (λ p. good-joined us p)

      good-body : (test : ℕ → Bool) (u : ℕ) → among eqb (leave_out test (rec u)) v ≡ true → Good t
      good-body test u e =
          let h : (not (test v) ≡ true) × (among eqb (rec u) v ≡ true) =
          and_split (not (test v)) (among eqb (rec u) v) (sym (among-leave_out eqb eqb_is eqb_refl test (rec u) v) ∙ e) in
          right u h.1

      good-step : among eqb (occurrences_step tags values t rec) v ≡ true → Good t
      unfolding occurrences_step occurrences_from among
      good-step e =
          by-test (ltb (get_or tags t 0) 21)
          (λ p. absurd (false≢true (rw p at e)))
          (λ p. by-test (ltb (get_or tags t 0) 22)
          (λ q. here (ltb-false _ 21 p) (ltb-true _ 22 q) (rw (p, q) at e))
          (λ q. by-test (ltb (get_or tags t 0) 23)
          (λ r. good-joined (operands_of tags values t) (rw (p, q, r) at e))
          (λ r. by-test (ltb (get_or tags t 0) 27)
          (λ s. good-body (λ w. bound_by values w (operands_of tags values t)) (get_or (operands_of tags values t) 0 0) (rw (p, q, r, s) at e))
          (λ s. by-test (ltb (get_or tags t 0) 28)
          (λ o. or_cases (among eqb (joined rec (let_values (operands_of tags values t))) v)
          (among eqb (leave_out (λ w. let_binds values w (operands_of tags values t)) (rec (get_or (operands_of tags values t) 0 0))) v)
          (sym (among-append eqb eqb_is eqb_refl (joined rec (let_values (operands_of tags values t)))
          (leave_out (λ w. let_binds values w (operands_of tags values t)) (rec (get_or (operands_of tags values t) 0 0))) v) ∙ (rw (p, q, r, s, o) at e))
          (λ z. good-joined (let_values (operands_of tags values t)) z)
          (λ z. good-body (λ w. let_binds values w (operands_of tags values t)) (get_or (operands_of tags values t) 0 0) z))
          (λ o. good-joined (operands_of tags values t) (rw (p, q, r, s, o) at e))))))
        where
          here : 21 ≤ get_or tags t 0 → get_or tags t 0 < 22 → (eqb t v || false) ≡ true → Good t
          here l m z =
              let y : t ≡ v = eqb-true t v (sym (or-false (eqb t v)) ∙ z) in
              let k : get_or tags t 0 ≡ 21 = omega arith in
              (rw y at k, omega arith)

    good-below : (d t : ℕ) → t < d → among eqb (occurrences_at tags values t) v ≡ true → Good t
    unfolding occurrences_at among
    good-below zero t h e = absurd (omega arith)
    good-below (suc d) t h e =
        good-step t (λ u. cond (ltb u t) (occurrences_at tags values u) [])
        (λ u q. by-test (ltb u t)
        (λ p. let l : u < t = ltb-true u t p in later u t (omega arith) (good-below d u (omega arith) (rw p at q)))
        (λ p. absurd (false≢true (rw p at q))))
        (rw (by_place-is (occurrences_step tags values) [] t) at e)

    pub occurs-var : (t : ℕ) → among eqb (occurrences_at tags values t) v ≡ true → (get_or tags v 0 ≡ 21) × (v ≤ t)
    occurs-var t = good-below (suc t) t (omega arith)

    pub listed-var : (t : ℕ) → among eqb (appearing_at tags values t) v ≡ true → (get_or tags v 0 ≡ 21) × (v ≤ t)
    unfolding appearing_at
    listed-var t e = occurs-var t (sym (among-firsts eqb eqb_is eqb_refl (occurrences_at tags values t) v) ∙ e)

  pub listed-once : (t : ℕ) → distinct eqb (appearing_at tags values t) ≡ true
  unfolding appearing_at
  listed-once t = firsts-distinct eqb eqb_is eqb_refl (occurrences_at tags values t)

-- ---- a list of numbers below n without repeats has at most n
out_one : (m : ℕ) (ps : List ℕ) → among eqb ps m ≡ false → leave_out (eqb m) ps ≡ ps
unfolding among leave_out
out_one m [] e = refl
out_one m (p ∷ ps) e =
    by-test (eqb m p)
    (λ q. let z : m ≡ p = eqb-true m p q in absurd (not-both (or_left (eqb p m) (among eqb ps m) (eq-eqb p m (sym z))) e))
    (λ q. by-test (eqb p m) (λ r. absurd (not-both (or_left (eqb p m) (among eqb ps m) r) e))
    (λ r. rw q (ap (λ (l : List ℕ). p ∷ l) (out_one m ps (rw r at e)))))

one_less : (m : ℕ) (ps : List ℕ) → distinct eqb ps ≡ true → length ps ≤ suc (length (leave_out (eqb m) ps))
unfolding distinct leave_out
one_less m [] e = omega arith
one_less m (p ∷ ps) e =
    let h : (not (among eqb ps p) ≡ true) × (distinct eqb ps ≡ true) = and_split (not (among eqb ps p)) (distinct eqb ps) e in
    let k = one_less m ps h.1 in
    by-test (eqb m p)
    (λ q. let z : m ≡ p = eqb-true m p q in
    let y : leave_out (eqb m) ps ≡ ps = out_one m ps (rw z (not-true (among eqb ps p) h.0)) in rw (q, y) (omega arith))
    (λ q. rw q (omega arith))

pub few : (n : ℕ) (ps : List ℕ) → distinct eqb ps ≡ true → ((v : ℕ) → among eqb ps v ≡ true → v < n) → length ps ≤ n
unfolding among
few zero [] e h = omega arith
few zero (p ∷ ps) e h = absurd (omega (arith, h p (or_left (eqb p p) (among eqb ps p) (eqb_refl p))))
few (suc n) ps e h =
    let k : length (leave_out (eqb n) ps) ≤ n = few n (leave_out (eqb n) ps) (leave_out-distinct eqb eqb_is eqb_refl (eqb n) ps e) below in
    omega (arith, one_less n ps e)
  where
    below : (v : ℕ) → among eqb (leave_out (eqb n) ps) v ≡ true → v < n
    below v q =
        let o : (not (eqb n v) ≡ true) × (among eqb ps v ≡ true) = and_split (not (eqb n v)) (among eqb ps v) (sym (among-leave_out eqb eqb_is eqb_refl (eqb n) ps v) ∙ q) in
        let a : v < suc n = h v o.1 in
        let b : n ≡ v → ⊥ = eqb-false n v (not-true (eqb n v) o.0) in
        omega arith

pub listed-few : (tags values : List ℕ) (t : ℕ) → length (appearing_at tags values t) ≤ suc t
listed-few tags values t =
    few (suc t) (appearing_at tags values t) (listed-once tags values t) (λ v e. let (a, b) = listed-var tags values v t e in omega arith)
