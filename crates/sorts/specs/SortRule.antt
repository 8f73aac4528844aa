-- Check 16: the sort that `compute_sort` gives a term, and whether the term states it.
-- 01, "Sorts and free variables": "`compute_sort` is the reference. A stated sort must equal it." The operands' sorts are those that they
-- state: before the first wrong place they are the computed ones. No two headers of the pool describe the same thing, so that a sort is
-- its place. The table of rules is a parameter.
-- Rests on cells' Cell and Headers, on headers' WellFormed, and on the enum `Special`.
use Rattle.std.specs.Prelude.{ℕ, ◌+◌, ◌-◌, Bool, true, false, not, ◌&&◌, ◌||◌, cond, length, get_or, drop, leb, ltb, eqb, Option}
use mathlib.Core.List.{List, [], ◌∷◌, ◌++◌, map, reverse, drop_last}
use Rattle.cells.specs.Cell.{cells_of, sort_of, operands_of, is_at}
use Rattle.cells.specs.Headers.{first_header}
use Rattle.headers.specs.WellFormed.{is_term_tag}
use Rattle.sorts.specs.declared.special.Special.{Special}
use Rattle.sorts.specs.declared.special.Special.TheVariants.{Arithmetic, Select, BitVectors, Concat, OneBit, BitCount, BvConst, RareList, Singleton, Insert, TupleOf, TupleUnit, Transpose, Join, Product, NoRule}

-- a sort that `compute_sort` gives; its parts are places
pub data Computed : Type 0 where
  place : ℕ → Computed  -- the sort at a place
  made : ℕ → List ℕ → Computed  -- the sort with this tag and these cells
  relation : List ℕ → Computed  -- the Set of the Tuple of these sorts
  no_answer : Computed

-- the sort at s is the computed one
unfoldable pub is_sort : List ℕ → List ℕ → ℕ → Computed → Bool
is_sort tags values s (place q) = eqb s q
is_sort tags values s (made tag cells) = is_at tags values s tag cells
is_sort tags values s (relation cells) =
    is_at tags values s 12 (get_or values (s + 1) 0 ∷ []) && is_at tags values (get_or values (s + 1) 0) 13 cells
is_sort tags values s no_answer = false

-- ---- parts of operands
-- the second cells of a list of pairs: a binder's sorts
unfoldable pub pair_sorts : List ℕ → List ℕ
pair_sorts [] = []
pair_sorts (a ∷ []) = []
pair_sorts (a ∷ (s ∷ rest)) = s ∷ pair_sorts rest

module _ (values : List ℕ) where
  -- the sort of the first of a list, "a missing operand" has no answer
  unfoldable pub first_sort : List ℕ → Computed
  first_sort [] = no_answer
  first_sort (o ∷ os) = place (sort_of values o)

  unfoldable pub last_sort : List ℕ → Computed
  last_sort [] = no_answer
  last_sort (o ∷ []) = place (sort_of values o)
  last_sort (o ∷ (p ∷ os)) = last_sort (p ∷ os)

  -- the sorts of a relation: the term at o is a Set of the Tuple of these
  unfoldable pub relation_sorts : ℕ → List ℕ
  relation_sorts o = cells_of values (get_or values (sort_of values o + 1) 0)

-- m arguments to a Function with these entries: "to one fewer, the last entry"; else the Function of the entries that are left
unfoldable pub apply : ℕ → List ℕ → Computed
apply m entries =
    cond (eqb (m + 1) (length entries)) (place (get_or entries m 0))
    (cond (leb m (length entries)) (made 10 (drop m entries)) no_answer)

module _ (tags values : List ℕ) where
  -- the tag of the sort that the term at o states
  unfoldable pub sort_tag : ℕ → ℕ
  sort_tag o = get_or tags (sort_of values o) 0

  -- Add, Sub, Mult: Real if an operand is Real, else Int
  unfoldable pub any_real : List ℕ → Bool
  any_real [] = false
  any_real (o ∷ os) = eqb (sort_tag o) 3 || any_real os

  -- Select: the second sort of the first operand's Array
  unfoldable pub selected : List ℕ → Computed
  selected [] = no_answer
  selected (o ∷ os) = cond (eqb (sort_tag o) 11) (place (get_or values (sort_of values o + 2) 0)) no_answer

  -- a bit-vector operation: the sort of the first operand that isn't ParamBitVec, which must be BitVec
  unfoldable pub bit_vector : List ℕ → Computed
  bit_vector [] = made 6 []
  bit_vector (o ∷ os) =
      cond (eqb (sort_tag o) 7) (place (sort_of values o)) (cond (eqb (sort_tag o) 6) (bit_vector os) no_answer)

  -- BvConcat: no answer with an operand that is neither; ParamBitVec if one is that; else the sum of the widths, if it fits u32
  unfoldable pub concat_from : ℕ → Bool → List ℕ → Computed
  concat_from width param [] = cond param (made 6 []) (cond (ltb width 4294967296) (made 7 (width ∷ [])) no_answer)
  concat_from width param (o ∷ os) =
      cond (eqb (sort_tag o) 7) (concat_from (width + get_or values (sort_of values o + 1) 0) param os)
      (cond (eqb (sort_tag o) 6) (concat_from width true os) no_answer)

  -- BvConst: the width is the second operand, where that is an integer
  unfoldable pub bv_const : List ℕ → Computed
  bv_const [] = no_answer
  bv_const (o ∷ []) = no_answer
  bv_const (o ∷ (w ∷ os)) = cond (eqb (get_or tags w 0) 16) (made 7 (get_or values (w + 2) 0 ∷ [])) (made 6 [])

  -- the sort of the term at o is a Set of a Tuple
  unfoldable pub is_relation : ℕ → Bool
  is_relation o = eqb (sort_tag o) 12 && eqb (get_or tags (get_or values (sort_of values o + 1) 0) 0) 13

  -- RelTranspose: the sorts reversed
  unfoldable pub transpose : List ℕ → Computed
  transpose [] = no_answer
  transpose (o ∷ os) = cond (is_relation o) (relation (reverse (relation_sorts values o))) no_answer

  -- RelJoin: the left's but its last, then the right's but its first, of which there must be one
  unfoldable pub join : List ℕ → Computed
  join [] = no_answer
  join (o ∷ []) = no_answer
  join (o ∷ (p ∷ os)) =
      cond (is_relation o && (is_relation p && ltb 0 (length (relation_sorts values p))))
      (relation (drop_last (relation_sorts values o) ++ drop 1 (relation_sorts values p)))
      no_answer

  -- RelProduct: the left's, then the right's
  unfoldable pub product : List ℕ → Computed
  product [] = no_answer
  product (o ∷ []) = no_answer
  product (o ∷ (p ∷ os)) =
      cond (is_relation o && is_relation p) (relation (relation_sorts values o ++ relation_sorts values p)) no_answer

  -- an application: the run is the function and then its arguments
  unfoldable pub application : List ℕ → Computed
  application [] = no_answer
  application (f ∷ arguments) =
      cond (eqb (sort_tag f) 10) (apply (length arguments) (cells_of values (sort_of values f))) no_answer

-- ---- operators
-- the special rule of an operator code
unfoldable pub special_of : ℕ → Special
special_of op =
    cond (leb 10 op && leb op 12) Arithmetic  -- Add, Sub, Mult
    (cond (eqb op 42) Select
    (cond (leb 79 op && leb op 88) BitVectors  -- BvNot to BvLShr
    (cond (eqb op 90) Concat  -- BvConcat
    (cond (leb 91 op && leb op 94) BitVectors  -- BvNAnd, BvNOr, BvXor, BvXNor
    (cond (eqb op 95) OneBit  -- BvComp
    (cond (leb 96 op && leb op 100) BitVectors  -- BvSub, BvSDiv, BvSRem, BvSMod, BvAShr
    (cond (leb 110 op && leb op 111) BitCount  -- BvPBbTerm, BvBbTerm
    (cond (eqb op 112) BvConst
    (cond (eqb op 115) RareList
    (cond (eqb op 123) Singleton  -- SetSingleton
    (cond (eqb op 127) Insert  -- SetInsert
    (cond (eqb op 129) TupleOf  -- Tuple
    (cond (eqb op 130) TupleUnit
    (cond (eqb op 131) Transpose  -- RelTranspose
    (cond (eqb op 133) Join  -- RelJoin
    (cond (eqb op 134) Product  -- RelProduct
    NoRule))))))))))))))))

-- "RareList without operands has sort Var "?"", and name 0 is that name
unfoldable pub rare_list : List ℕ → List ℕ → Computed
rare_list values [] = made 8 (0 ∷ [])
rare_list values (o ∷ os) = place (sort_of values o)

unfoldable pub singleton : List ℕ → List ℕ → Computed
singleton values [] = no_answer
singleton values (o ∷ os) = made 12 (sort_of values o ∷ [])

unfoldable pub by_special : List ℕ → List ℕ → Special → List ℕ → Computed
by_special tags values Arithmetic os = made (cond (any_real tags values os) 3 2) []
by_special tags values Select os = selected tags values os
by_special tags values BitVectors os = bit_vector tags values os
by_special tags values Concat os = concat_from tags values 0 false os
by_special tags values OneBit os = made 7 (1 ∷ [])
by_special tags values BitCount os = made 7 (length os ∷ [])
by_special tags values BvConst os = bv_const tags values os
by_special tags values RareList os = rare_list values os
by_special tags values Singleton os = singleton values os
by_special tags values Insert os = last_sort values os
by_special tags values TupleOf os = made 13 (map (sort_of values) os)
by_special tags values TupleUnit os = made 13 []
by_special tags values Transpose os = transpose tags values os
by_special tags values Join os = join tags values os
by_special tags values Product os = product tags values os
by_special tags values NoRule os = no_answer

-- rules 0 to 4 are Bool, Int, Real, String, RegLan, whose tags are 1 to 5; then the first operand's, the second's, the special
unfoldable pub by_rule : List ℕ → List ℕ → ℕ → ℕ → List ℕ → Computed
by_rule tags values rule op os =
    cond (ltb rule 5) (made (rule + 1) [])
    (cond (eqb rule 5) (first_sort values os)
    (cond (eqb rule 6) (first_sort values (drop 1 os))
    (by_special tags values (special_of op) os)))

-- ---- binders
-- choice: its first variable's sort; the run is the body and then the pairs
unfoldable pub choice : List ℕ → Computed
choice [] = no_answer
choice (b ∷ []) = no_answer
choice (b ∷ (a ∷ [])) = no_answer
choice (b ∷ (a ∷ (s ∷ rest))) = place s

-- lambda: the Function of its variables' sorts and its body's
unfoldable pub lambda : List ℕ → List ℕ → Computed
lambda values run = made 10 (pair_sorts (drop 1 run) ++ (sort_of values (get_or run 0 0) ∷ []))

-- ---- any term
unfoldable pub compute_sort : List ℕ → List ℕ → List ℕ → ℕ → Computed
compute_sort tags values rules t =
    cond (ltb (get_or tags t 0) 20) (made (get_or tags t 0 - 14) [])  -- 16 to 19: Int, Real, String, RegLan
    (cond (ltb (get_or tags t 0) 21) (made 7 (get_or values (t + 2) 0 ∷ []))  -- a bit vector's width
    (cond (ltb (get_or tags t 0) 22) (place (sort_of values t))  -- a variable has the sort that it states
    (cond (ltb (get_or tags t 0) 23) (application tags values (operands_of tags values t))
    (cond (ltb (get_or tags t 0) 25) (made 1 [])  -- forall, exists
    (cond (ltb (get_or tags t 0) 26) (choice (operands_of tags values t))
    (cond (ltb (get_or tags t 0) 27) (lambda values (operands_of tags values t))
    (cond (ltb (get_or tags t 0) 28) (first_sort values (operands_of tags values t))  -- a let has its body's
    (by_rule tags values (get_or rules (get_or tags t 0 - 32) 7) (get_or tags t 0 - 32) (operands_of tags values t)))))))))

-- the term at t states the sort that is computed
unfoldable pub states_sort : List ℕ → List ℕ → List ℕ → ℕ → Bool
states_sort tags values rules t = is_sort tags values (sort_of values t) (compute_sort tags values rules t)

-- "16 wrong sort (the first place)"
unfoldable pub first_wrong_sort : List ℕ → List ℕ → List ℕ → ℕ → Option ℕ
first_wrong_sort tags values rules n = first_header values n (λ t. is_term_tag (get_or tags t 0) && not (states_sort tags values rules t))
