-- A clause list, read back from the two arrays that hold it.
--     read-back     what follows the lists in the arrays does not matter
-- Assumes nothing.
use Prim.Native.Nat.{ℕ, suc, ◌+◌, ◌-◌}
use mathlib.Core.Path.{◌≡◌, refl, sym, ap, ap₂, ◌∙◌}
use mathlib.Core.List.{List, [], ◌∷◌, ◌++◌, map, append_assoc}
use lib.ListN.{length, get_or, drop}
use lib.Seq.{take_at, drop_at, get_or-drop, drop-drop}
use native.Mathlib.Omega.{arith}
use native.Mathlib.Numerals.{add-one}
use Rattle.formulas.specs.Normal.{Normal}
use Rattle.formulas.specs.ClauseLists.{clause_places, literal_places, clause_ends, clause_start, clauses_from, clauses_in}

places-length : (c : List (Normal (List ℕ) ℕ)) → length (clause_places c) ≡ length c
places-length [] = refl
places-length (l ∷ c) = ap suc (places-length c)

module _ (literals ends more-literals more-ends : List ℕ) where
  -- the clauses cs, from clause k on, which starts at a
  read-from : (cs : List (List (Normal (List ℕ) ℕ))) (k a : ℕ) → clause_start ends k ≡ a → drop a literals ≡ literal_places cs ++ more-literals
      → drop k ends ≡ clause_ends a cs ++ more-ends → clauses_from literals ends (length cs) k ≡ map clause_places cs
  unfolding clauses_from
  read-from [] k a s l e = refl
  read-from (c ∷ cs) k a s l e =
      let z : k + 0 ≡ k = omega arith in
      let end : get_or ends k 0 ≡ a + length c = sym (ap (λ (i : ℕ). get_or ends i 0) z) ∙ (sym (get_or-drop k ends 0 0) ∙ ap (λ (x : List ℕ). get_or x 0 0) e) in
      let size : a + length c - a ≡ length c = omega arith in
      let run : drop a literals ≡ clause_places c ++ (literal_places cs ++ more-literals) = l ∙ append_assoc (clause_places c) (literal_places cs) more-literals in
      ap₂ ◌∷◌
      (rw (s, end, size, run) (take_at (clause_places c) (literal_places cs ++ more-literals) (length c) (places-length c)))
      (read-from cs (suc k) (a + length c) end
      (sym (drop-drop (length c) a literals)
      ∙ (ap (drop (length c)) run ∙ drop_at (clause_places c) (literal_places cs ++ more-literals) (length c) (places-length c)))
      (ap (λ (i : ℕ). drop i ends) (sym (add-one k)) ∙ (sym (drop-drop 1 k ends) ∙ ap (drop 1) e)))

pub read_back : (cs : List (List (Normal (List ℕ) ℕ))) (more-literals more-ends : List ℕ)
    → clauses_in (literal_places cs ++ more-literals) (clause_ends 0 cs ++ more-ends) (length cs) ≡ map clause_places cs
read_back cs l e = read-from (literal_places cs ++ l) (clause_ends 0 cs ++ e) l e cs 0 0 refl refl refl
