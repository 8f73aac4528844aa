-- The clause of a number in a clause list.
--     append_left, append_right     in two lists, one after the other
--     product_at                    in a product: the first list's number is slowest
--     clauses-and, clauses-or       how many clauses an `and` and an `or` have, from those of the first operand and the rest
-- Assumes nothing.
use Prim.Native.Nat.{ℕ, zero, suc, ◌+◌, ◌-◌, ◌*◌, ◌/◌, ◌%◌, ◌≤◌, ◌<◌}
use mathlib.Core.Path.{◌≡◌, refl, sym, ap, ap₂, ◌∙◌}
use mathlib.Core.Bool.{false}
use mathlib.Core.List.{List, [], ◌∷◌, ◌++◌, map}
use lib.ListN.{length, get_or, length-append, length-map, get_or-append}
use lib.Seq.{get_or-append-add}
use lib.Dec.{ltb}
use native.Mathlib.Nat.{add-div_left, add-mod_left, div-eq_of_lt, mod-eq_of_lt, suc-mul, zero-mul, mul-zero}
use native.Mathlib.Numerals.{add-one}
use native.Mathlib.Omega.{arith}
use borrow.Author.Tests.{ltb-true, ltb-false}
use Rattle.cells.specs.ByPlace.{by-test}
use Rattle.formulas.specs.Normal.{Normal, Normals, nmany, ncons}
use Rattle.formulas.specs.Clauses.{product, cnf, cnf_and, cnf_or}
use Rattle.formulas.specs.Totals.{Totals}
use Rattle.formulas.proofs.Totals.{totals-are}

module _ {A : Type 0} where
  pub append_left : (cs ds : List A) (d : A) (i : ℕ) → i < length cs → get_or (cs ++ ds) i d ≡ get_or cs i d
  append_left cs ds d i h = get_or-append cs ds d i h

  pub append_right : (cs ds : List A) (d : A) (i : ℕ) → length cs ≤ i → get_or (cs ++ ds) i d ≡ get_or ds (i - length cs) d
  append_right cs ds d i h =
      let e : i ≡ length cs + (i - length cs) = omega arith in
      ap (λ (k : ℕ). get_or (cs ++ ds) k d) e ∙ get_or-append-add cs ds (i - length cs) d

module _ {A : Type 0} where
  map_at : (c : List A) (ds : List (List A)) (i : ℕ) → i < length ds → get_or (map (◌++◌ c) ds) i [] ≡ c ++ get_or ds i []
  map_at c [] i h = absurd (omega arith)
  map_at c (d ∷ ds) zero h = refl
  map_at c (d ∷ ds) (suc i) h = map_at c ds i (omega arith)

  module _ (c : List A) (cs ds : List (List A)) (n i : ℕ) (e : n ≡ length ds) where
    -- a number below n is in the part of the first clause
    product-first : i < n → get_or (product (c ∷ cs) ds) i [] ≡ get_or (c ∷ cs) (i / n) [] ++ get_or ds (i % n) []
    product-first h =
        rw (div-eq_of_lt h, mod-eq_of_lt h)
        (append_left (map (◌++◌ c) ds) (product cs ds) [] i (rw (length-map ds (◌++◌ c)) (omega arith)) ∙ map_at c ds i (omega arith))

    -- any other is in the parts of the rest
    product-later : 0 < n → n ≤ i → get_or (product cs ds) (i - n) [] ≡ get_or cs ((i - n) / n) [] ++ get_or ds ((i - n) % n) []
        → get_or (product (c ∷ cs) ds) i [] ≡ get_or (c ∷ cs) (i / n) [] ++ get_or ds (i % n) []
    product-later z h q =
        let k : i ≡ n + (i - n) = omega arith in
        let d : i / n ≡ suc ((i - n) / n) = ap (λ (a : ℕ). a / n) k ∙ (add-div_left (i - n) z ∙ add-one ((i - n) / n)) in
        let m : i % n ≡ (i - n) % n = ap (λ (a : ℕ). a % n) k ∙ add-mod_left n (i - n) in
        let l : length (map (◌++◌ c) ds) ≡ n = length-map ds (◌++◌ c) ∙ sym e in
        let p : get_or (product (c ∷ cs) ds) i [] ≡ get_or (product cs ds) (i - n) [] =
        append_right (map (◌++◌ c) ds) (product cs ds) [] i (omega arith) ∙ ap (λ (a : ℕ). get_or (product cs ds) (i - a) []) l in
        rw (d, m) (p ∙ q)

  -- n is the length of ds
  pub product_at : (cs ds : List (List A)) (n i : ℕ) → n ≡ length ds → i < length cs * n
      → get_or (product cs ds) i [] ≡ get_or cs (i / n) [] ++ get_or ds (i % n) []
  product_at [] ds n i e h = absurd (omega (arith, zero-mul n))
  product_at (c ∷ cs) ds zero i e h = absurd (omega (arith, mul-zero (length (c ∷ cs))))
  product_at (c ∷ cs) ds (suc n) i e h =
      by-test (ltb i (suc n))
      (λ q. product-first c cs ds (suc n) i e (ltb-true i (suc n) q))
      (λ q. let l : suc n ≤ i = ltb-false i (suc n) q in
      product-later c cs ds (suc n) i e (omega arith) l (product_at cs ds (suc n) (i - suc n) e (omega (arith, suc-mul (length cs) (suc n)))))

module _ {B L : Type 0} (n : Normal B L) (ns : Normals B L) where
  pub clauses-and : length (cnf_and (ncons n ns)) ≡ length (cnf n) + length (cnf_and ns)
  clauses-and = length-append (cnf n) (cnf_and ns)

  pub clauses-or : length (cnf_or (ncons n ns)) ≡ length (cnf n) * length (cnf_or ns)
  clauses-or =
      let clauses : Totals → ℕ = λ t. t.clauses in
      sym (ap clauses (totals-are (nmany false (ncons n ns))))
      ∙ ap₂ (λ (a b : ℕ). a * b) (ap clauses (totals-are n)) (ap clauses (totals-are (nmany false ns)))
