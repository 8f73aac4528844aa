-- Laws of `is_clause` and `ClauseSearch`, one for each way through the code.
--     clauses-listed     for the callers: the clauses that the arrays of a clause list spell are that list's
-- Assumes nothing.
use Prim.Native.Nat.{ℕ, suc, ◌+◌, ◌-◌, ◌≤◌, ◌<◌}
use mathlib.Core.Path.{◌≡◌, refl, sym, ap, ap₂, ◌∙◌, subst}
use mathlib.Core.Bool.{Bool, true, false}
use mathlib.Core.List.{List, [], ◌∷◌, ◌++◌, map, append_assoc}
use lib.ListN.{length, get_or, take, drop, length-append, drop_of_length-le}
use lib.Seq.{take_at, drop-cons, drop-append_seam}
use native.Mathlib.Omega.{arith}
use native.Mathlib.Numerals.{add-one}
use lib.Dec.{eqb, ltb}
use borrow.Author.Tests.{eq-eqb, ne_eqb, ltb-true, ltb-false}
use Rattle.std.proofs.lemmas.List.{length-take, get_or-take}
use Rattle.cells.specs.ByPlace.{by-test}
use Rattle.cells.specs.Cell.{operands_of, same_cells}
use Rattle.formulas.specs.Normal.{Normal}
use Rattle.formulas.specs.ClauseLists.{clause_places, literal_places, clause_ends, padded}
use Rattle.clausification.specs.QntCnf.{is_clause, any_clause}
use Rattle.clausification.specs.ClauseSearch.{clauses_in}

-- ---- one clause
module _ (tags values : List ℕ) (x : ℕ) (c : List ℕ) where
  pub clause-literal : length c ≡ 1 → eqb (get_or c 0 0) x ≡ is_clause tags values x c
  unfolding is_clause
  clause-literal e = rw (eq-eqb _ _ e)

  module _ (n : length c ≡ 1 → ⊥) (tag : ℕ) (k : tag ≡ get_or tags x 0) where
    pub clause-other : (tag ≡ 37 → ⊥) → false ≡ is_clause tags values x c
    unfolding is_clause
    clause-other o = rw (ne_eqb _ _ n, ← k, ne_eqb _ _ o)

    pub clause-or : tag ≡ 37 → (run : List ℕ) → run ≡ operands_of tags values x → (r : Bool) → r ≡ same_cells run c → r ≡ is_clause tags values x c
    unfolding is_clause
    clause-or e run o r is = rw (ne_eqb _ _ n, ← k, eq-eqb _ _ e, ← o, is)

pub ruleset one_clause = (clause-literal, clause-other, clause-or)

-- ---- the list
pub any-start : (tags values : List ℕ) (x : ℕ) (literals ends : List ℕ) (count : ℕ)
    → any_clause (is_clause tags values x) (clauses_in literals ends 0 count) ≡ any_clause (is_clause tags values x) (clauses_in literals ends 0 (count - 0))
any-start tags values x literals ends count =
    let z : count - 0 ≡ count = omega arith in
    rw z

-- w says whether the term is one of the clauses from number i on
module _ (w : Bool) (tags values : List ℕ) (x : ℕ) (literals ends : List ℕ) (i start count : ℕ)
    (inv : w ≡ any_clause (is_clause tags values x) (clauses_in literals (drop i ends) start (count - i))) where
  pub any-end : count ≤ i → false ≡ w
  unfolding any_clause clauses_in
  any-end h =
      let z : count - i ≡ 0 = omega arith in
      rw (inv, z)

  pub any-short : length ends ≤ i → i < count → false ≡ w
  unfolding any_clause clauses_in
  any-short g h =
      let one_more : count - i ≡ suc (count - (i + 1)) = omega arith in
      rw (inv, drop_of_length-le ends g, one_more)

  module _ (listed : List ℕ) (first : listed ≡ take (count - 0) (drop 0 ends)) where
    listed-are : listed ≡ take count ends
    listed-are =
        let z : count - 0 ≡ count = omega arith in
        first ∙ rw z

    pub any-all : length listed ≤ i → false ≡ w
    any-all h =
        by-test (ltb i count)
        (λ a. by-test (ltb i (length ends))
        (λ b. absurd (
        let below : i < count = ltb-true i count a in
        let there : i < length ends = ltb-true i (length ends) b in
        omega (arith, h, below, there, ap length listed-are, length-take count ends)
        ))
        (λ b. any-short (ltb-false i (length ends) b) (ltb-true i count a)))
        (λ a. any-end (ltb-false i count a))

    module _ (h : i < length listed) (c : List ℕ) (is : c ≡ take (get_or listed i 0 - start) (drop start literals)) (r : Bool) (q : r ≡ is_clause tags values x c) where
      counted : i < count
      counted = omega (arith, h, ap length listed-are, length-take count ends)

      one_more : count - i ≡ suc (count - (i + 1))
      one_more = omega (arith, counted)

      there : i < length ends
      there = omega (arith, h, ap length listed-are, length-take count ends)

      end_there : get_or listed i 0 ≡ get_or ends i 0
      end_there = rw listed-are (get_or-take count ends i 0 counted)

      pub any_here : r ≡ true → true ≡ w
      unfolding any_clause clauses_in
      any_here y = rw (inv, drop-cons ends i 0 there, one_more, ← end_there, ← is, ← q, y)

      pub any_next : r ≡ false
          → w ≡ any_clause (is_clause tags values x) (clauses_in literals (drop (i + 1) ends) (get_or listed i 0) (count - (i + 1)))
      unfolding any_clause clauses_in
      any_next y = rw (inv, drop-cons ends i 0 there, one_more, ← end_there, ← is, ← q, y, add-one i)

-- ---- the arrays of a clause list
places-length : (c : List (Normal (List ℕ) ℕ)) → length (clause_places c) ≡ length c
places-length [] = refl
places-length (l ∷ c) = ap suc (places-length c)

-- a clause's end after the literals before, and the clause itself
module _ (before : List ℕ) (c : List (Normal (List ℕ) ℕ)) where
  end_is : length (before ++ clause_places c) ≡ length before + length c
  end_is = rw (length-append, places-length)

  part-is : (rest : List ℕ) → take (length before + length c - length before) (drop (length before) (before ++ (clause_places c ++ rest))) ≡ clause_places c
  part-is rest =
      let size : length before + length c - length before ≡ length c = omega arith in
      rw (size, drop-append_seam before (clause_places c ++ rest)) (take_at (clause_places c) rest (length c) (places-length c))

clauses-after : (after tail : List ℕ) (cs : List (List (Normal (List ℕ) ℕ))) (before : List ℕ)
    → clauses_in (before ++ (literal_places cs ++ after)) (clause_ends (length before) cs ++ tail) (length before) (length cs) ≡ map clause_places cs
unfolding clauses_in
clauses-after after tail [] before = refl
clauses-after after tail (c ∷ cs) before =
    let here : before ++ (literal_places (c ∷ cs) ++ after) ≡ (before ++ clause_places c) ++ (literal_places cs ++ after) =
    ap (λ (l : List ℕ). before ++ l) (append_assoc (clause_places c) (literal_places cs) after) ∙ sym (append_assoc before (clause_places c) (literal_places cs ++ after)) in
    let next : clauses_in ((before ++ clause_places c) ++ (literal_places cs ++ after)) (clause_ends (length before + length c) cs ++ tail) (length before + length c) (length cs) ≡ map clause_places cs =
    subst (λ m. clauses_in ((before ++ clause_places c) ++ (literal_places cs ++ after)) (clause_ends m cs ++ tail) m (length cs) ≡ map clause_places cs) (end_is before c) (clauses-after after tail cs (before ++ clause_places c)) in
    ap₂ ◌∷◌
    (ap (λ (l : List ℕ). take (length before + length c - length before) (drop (length before) (before ++ l))) (append_assoc (clause_places c) (literal_places cs) after) ∙ part-is before c (literal_places cs ++ after))
    (ap (λ (l : List ℕ). clauses_in l (clause_ends (length before + length c) cs ++ tail) (length before + length c) (length cs)) here ∙ next)

pub clauses-listed : (cs : List (List (Normal (List ℕ) ℕ))) (k m : ℕ) (literals ends : List ℕ) (count : ℕ)
    → literals ≡ padded (literal_places cs) k → ends ≡ padded (clause_ends 0 cs) m → count ≡ length cs
    → clauses_in literals ends 0 count ≡ map clause_places cs
unfolding padded
clauses-listed cs k m literals ends count l e n = rw (l, e, n) (clauses-after _ _ cs [])
