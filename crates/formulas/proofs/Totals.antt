-- Totals.
--     totals-are      the totals of a form are those of its clause list
--     cut-add, cut-mul, cap-combine     sums and products of cut numbers, also where a factor is 0
-- Assumes nothing.
use Prim.Native.Nat.{ℕ, zero, suc, ◌+◌, ◌*◌, ◌≤◌, zero-le, min}
use mathlib.Core.Path.{◌≡◌, refl, sym, ap₂, ◌∙◌}
use mathlib.Core.Bool.{Bool, true, false}
use mathlib.Core.List.{List, [], ◌∷◌, ◌++◌, map}
use native.Mathlib.Nat.{zero-add, add_assoc, mul-zero, mul-suc, suc-mul, mul_comm, add-mul, le-mul_of_pos_right, min-zero, min-eq_left, min-eq_right, le_trans, le_of_lt}
use native.Mathlib.Omega.{arith}
use lib.Dec.{leb}
use lib.ListN.{length, length-append, length-map}
use borrow.Author.Tests.{leb-true, leb-false}
use Rattle.formulas.specs.Normal.{Normal, Normals, lit, nmany, nall, nnil, ncons}
use Rattle.formulas.specs.Clauses.{product, literal_total, cnf, cnf_and, cnf_or}
use Rattle.cells.specs.ByPlace.{by-test}
use Rattle.formulas.specs.Totals.{Totals, plus, times, combine, cap, totals, totals_of}

-- ---- lists of clauses
module _ {A : Type 0} where
  abbrev list_totals : List (List A) → Totals
  list_totals cs = record { clauses = length cs; literals = literal_total cs }

  literals-append : (cs ds : List (List A)) → literal_total (cs ++ ds) ≡ literal_total cs + literal_total ds
  literals-append [] ds = sym (zero-add (literal_total ds))
  literals-append (c ∷ cs) ds = rw (literals-append cs ds, ← add_assoc (length c) (literal_total cs) (literal_total ds))

  literals-map : (c : List A) (ds : List (List A)) → literal_total (map (◌++◌ c) ds) ≡ length c * length ds + literal_total ds
  literals-map c [] = omega arith
  literals-map c (d ∷ ds) = rw (literals-map c ds, length-append c d, mul-suc) (omega arith)

  append-totals : (cs ds : List (List A)) → list_totals (cs ++ ds) ≡ plus (list_totals cs) (list_totals ds)
  append-totals cs ds = λ i. record { clauses = length-append cs ds i; literals = literals-append cs ds i }

  product-length : (cs ds : List (List A)) → length (product cs ds) ≡ length cs * length ds
  product-length [] ds = omega arith
  product-length (c ∷ cs) ds =
      rw (length-append (map (◌++◌ c) ds) (product cs ds), length-map ds (◌++◌ c), product-length cs ds, suc-mul) (omega arith)

  product-literals : (cs ds : List (List A)) → literal_total (product cs ds) ≡ literal_total cs * length ds + literal_total ds * length cs
  product-literals [] ds = omega arith
  product-literals (c ∷ cs) ds =
      rw (literals-append (map (◌++◌ c) ds) (product cs ds), literals-map c ds, product-literals cs ds, add-mul, mul-suc) (omega arith)

  product-totals : (cs ds : List (List A)) → list_totals (product cs ds) ≡ times (list_totals cs) (list_totals ds)
  product-totals cs ds = λ i. record { clauses = product-length cs ds i; literals = product-literals cs ds i }

module _ {B L : Type 0} where
  mutual
    pub totals-are : (n : Normal B L) → totals n ≡ list_totals (cnf n)
    totals-are (lit b t) = refl
    totals-are (nmany true ns) = and-totals ns
    totals-are (nmany false ns) = or-totals ns
    totals-are (nall b vs n) = refl

    and-totals : (ns : Normals B L) → totals_of true ns ≡ list_totals (cnf_and ns)
    and-totals nnil = refl
    and-totals (ncons n ns) = ap₂ plus (totals-are n) (and-totals ns) ∙ sym (append-totals (cnf n) (cnf_and ns))

    or-totals : (ns : Normals B L) → totals_of false ns ≡ list_totals (cnf_or ns)
    or-totals nnil = refl
    or-totals (ncons n ns) = ap₂ times (totals-are n) (or-totals ns) ∙ sym (product-totals (cnf n) (cnf_or ns))

-- ---- numbers cut at k
at_least : (k b : ℕ) → k ≤ k * min k (suc b)
at_least zero b = zero-le
at_least (suc k) b = le-mul_of_pos_right (suc k) (omega arith)

module _ (k : ℕ) where
  pub cut-add : (a b : ℕ) → min k (a + b) ≡ min k (min k a + min k b)
  cut-add a b = omega arith

  -- a factor of k or more, and another that may be 0
  cut-large : (a b : ℕ) → k ≤ a → min k (a * b) ≡ min k (k * min k b)
  cut-large a zero h = simp (mul-zero, min-zero)
  cut-large a (suc b) h = min-eq_left (le_trans h (le-mul_of_pos_right a (omega arith))) ∙ sym (min-eq_left (at_least k b))

  pub cut-mul : (a b : ℕ) → min k (a * b) ≡ min k (min k a * min k b)
  cut-mul a b =
      by-test (leb k a) (λ e. left (leb-true k a e))
      (λ e. by-test (leb k b) (λ f. right (leb-true k b f)) (λ f. neither (le_of_lt (leb-false k a e)) (le_of_lt (leb-false k b f))))
    where
      left : k ≤ a → min k (a * b) ≡ min k (min k a * min k b)
      left h = rw (min-eq_left h) (cut-large a b h)

      right : k ≤ b → min k (a * b) ≡ min k (min k a * min k b)
      right h = rw (min-eq_left h, mul_comm a b, mul_comm (min k a) k) (cut-large b a h)

      neither : a ≤ k → b ≤ k → min k (a * b) ≡ min k (min k a * min k b)
      neither h l = rw (min-eq_right h, min-eq_right l)

-- ---- totals cut at k
module _ (k : ℕ) where
  pub cap-combine : (b : Bool) (t u : Totals) → cap k (combine b t u) ≡ cap k (combine b (cap k t) (cap k u))
  cap-combine true t u = λ i. record { clauses = cut-add k t.clauses u.clauses i; literals = cut-add k t.literals u.literals i }
  cap-combine false t u = λ i. record { clauses = cut-mul k t.clauses u.clauses i; literals = crossed i }
    where
      crossed : min k (t.literals * u.clauses + u.literals * t.clauses)
          ≡ min k (min k t.literals * min k u.clauses + min k u.literals * min k t.clauses)
      crossed =
          cut-add k (t.literals * u.clauses) (u.literals * t.clauses)
          ∙ (ap₂ (λ (x y : ℕ). min k (x + y)) (cut-mul k t.literals u.clauses) (cut-mul k u.literals t.clauses)
          ∙ sym (cut-add k (min k t.literals * min k u.clauses) (min k u.literals * min k t.clauses)))

-- ---- operands counted one after another, from the left
