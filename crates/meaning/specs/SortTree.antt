-- The sort of a term, on trees: what check 16 compares a stated sort with.
--     sort_of_term rules t     the sort that `compute_sort` gives the term t, by the table of rules; `None` where it has no answer
-- 01, "Sorts and free variables": "`compute_sort` is the reference. A stated sort must equal it. It has no answer where the width it gives
-- passes u32 or the Rust would stop". An operand's sort is the one that it states. "Argument sorts are not checked."
-- Rests on sorts' SortRule and enum `Special`, and on Sort and Term.
use Rattle.std.specs.Prelude.{ℕ, ◌+◌, ◌-◌, Bool, true, false, ◌&&◌, ◌||◌, cond, length, get_or, drop, slice_get, leb, ltb, eqb, Option, None, Some}
use mathlib.Core.List.{List, [], ◌∷◌, ◌++◌, map, reverse, drop_last}
use Rattle.meaning.specs.Sort.{Sort, Sorts, bool, int, real, string, reglan, param_bit_vec, bit_vec, sort_var, atom, function, array, set, tuple, no_sort, snil, scons}
use Rattle.meaning.specs.Term.{Var, Vars, Term, Terms, stated, const, bit_vector, var, app, quant, bind, letin, op, no_term, tnil, tcons}
use Rattle.sorts.specs.SortRule.{special_of}
use Rattle.sorts.specs.declared.special.Special.{Special}
use Rattle.sorts.specs.declared.special.Special.TheVariants.{Arithmetic, Select, BitVectors, Concat, OneBit, BitCount, BvConst, RareList, Singleton, Insert, TupleOf, TupleUnit, Transpose, Join, Product, NoRule}

-- the last of a list, if there is one
abbrev pub last_of : {A : Type 0} → List A → Option A
last_of [] = None
last_of (x ∷ []) = Some x
last_of (x ∷ (y ∷ xs)) = last_of (y ∷ xs)

-- ---- sorts taken apart
-- the sorts of a list, and the list of these
unfoldable pub entries : Sorts → List Sort
entries snil = []
entries (scons s ss) = s ∷ entries ss

unfoldable pub sorts_from : List Sort → Sorts
sorts_from [] = snil
sorts_from (s ∷ ss) = scons s (sorts_from ss)

-- SMT-LIB 2.6, section 3.5 (Sorts): an identifier, perhaps with an index, applied to sorts. The identifier is 01's tag.
pub record Form : Type 0 where
  pub tag : ℕ
  pub index : ℕ  -- BitVec's width, the name of Var and Atom
  pub sorts : List Sort

abbrev form : ℕ → ℕ → List Sort → Form
form tag index sorts = record { tag = tag; index = index; sorts = sorts }

unfoldable pub form_of : Sort → Form
form_of bool = form 1 0 []
form_of int = form 2 0 []
form_of real = form 3 0 []
form_of string = form 4 0 []
form_of reglan = form 5 0 []
form_of param_bit_vec = form 6 0 []
form_of (bit_vec w) = form 7 w []
form_of (sort_var a) = form 8 a []
form_of (atom a ss) = form 9 a (entries ss)
form_of (function ss) = form 10 0 (entries ss)
form_of (array s t) = form 11 0 (s ∷ (t ∷ []))
form_of (set s) = form 12 0 (s ∷ [])
form_of (tuple ss) = form 13 0 (entries ss)
form_of no_sort = form 0 0 []

abbrev pub is_real : Sort → Bool
is_real s = eqb (form_of s).tag 3

abbrev pub is_param_bit_vec : Sort → Bool
is_param_bit_vec s = eqb (form_of s).tag 6

abbrev pub is_bit_vec : Sort → Bool
is_bit_vec s = eqb (form_of s).tag 7

abbrev pub is_function : Sort → Bool
is_function s = eqb (form_of s).tag 10

abbrev pub is_array : Sort → Bool
is_array s = eqb (form_of s).tag 11

abbrev pub is_set : Sort → Bool
is_set s = eqb (form_of s).tag 12

abbrev pub is_tuple : Sort → Bool
is_tuple s = eqb (form_of s).tag 13

-- the sort at position j among those that a sort is applied to
abbrev pub part : Sort → ℕ → Sort
part s j = get_or (form_of s).sorts j no_sort

-- a relation is a Set of a Tuple; its columns are the Tuple's sorts
abbrev pub is_relation_sort : Sort → Bool
is_relation_sort s = is_set s && is_tuple (part s 0)

abbrev pub columns : Sort → List Sort
columns s = (form_of (part s 0)).sorts

abbrev pub relation_of : List Sort → Sort
relation_of ss = set (tuple (sorts_from ss))

-- ---- operators: the rules are the Rust's, as 01 tells them; the list holds the operands' sorts
-- the sorts that terms state
unfoldable pub stated_sorts : Terms → List Sort
stated_sorts tnil = []
stated_sorts (tcons t ts) = stated t ∷ stated_sorts ts

-- whether an operand is Real: Add, Sub and Mult are then Real, else Int
unfoldable pub any_real_sort : List Sort → Bool
any_real_sort [] = false
any_real_sort (s ∷ ss) = is_real s || any_real_sort ss

-- Select: the second sort of the first operand's Array
unfoldable pub select_sort : List Sort → Option Sort
select_sort [] = None
select_sort (s ∷ ss) = cond (is_array s) (Some (part s 1)) None

-- a bit-vector operation: the sort of the first operand that isn't ParamBitVec, which must be BitVec
unfoldable pub bit_vector_sort : List Sort → Option Sort
bit_vector_sort [] = Some param_bit_vec
bit_vector_sort (s ∷ ss) = cond (is_bit_vec s) (Some s) (cond (is_param_bit_vec s) (bit_vector_sort ss) None)

-- BvConcat, with the sum of the widths so far and whether a ParamBitVec has been met: "the width it gives passes u32", "any BvConcat
-- operand that is neither"
unfoldable pub concat_sort : ℕ → Bool → List Sort → Option Sort
concat_sort width param [] = cond param (Some param_bit_vec) (cond (ltb width 4294967296) (Some (bit_vec width)) None)
concat_sort width param (s ∷ ss) =
    cond (is_bit_vec s) (concat_sort (width + (form_of s).index) param ss)
    (cond (is_param_bit_vec s) (concat_sort width true ss) None)

-- BvConst: the second operand is the width, if it is an integer
unfoldable pub width_sort : Term → Sort
width_sort (const k s c) = cond (eqb k 16) (bit_vec c) param_bit_vec
width_sort (bit_vector s w c) = param_bit_vec
width_sort (var v) = param_bit_vec
width_sort (app s f ts) = param_bit_vec
width_sort (quant b s vs t) = param_bit_vec
width_sort (bind k s vs t) = param_bit_vec
width_sort (letin s ls t) = param_bit_vec
width_sort (op k s ts) = param_bit_vec
width_sort no_term = param_bit_vec

unfoldable pub bv_const_sort : Terms → Option Sort
bv_const_sort tnil = None
bv_const_sort (tcons t tnil) = None
bv_const_sort (tcons t (tcons w ts)) = Some (width_sort w)

-- "RareList without operands has sort Var "?"", and 0 is that name
unfoldable pub rare_list_sort : List Sort → Sort
rare_list_sort [] = sort_var 0
rare_list_sort (s ∷ ss) = s

-- SetSingleton
unfoldable pub singleton_sort : List Sort → Option Sort
singleton_sort [] = None
singleton_sort (s ∷ ss) = Some (set s)

-- RelTranspose: the columns reversed
unfoldable pub transpose_sort : List Sort → Option Sort
transpose_sort [] = None
transpose_sort (s ∷ ss) = cond (is_relation_sort s) (Some (relation_of (reverse (columns s)))) None

-- RelJoin: the left's columns but the last, then the right's but the first, of which there must be one
unfoldable pub join_sort : List Sort → Option Sort
join_sort [] = None
join_sort (s ∷ []) = None
join_sort (s ∷ (t ∷ ss)) =
    cond (is_relation_sort s && (is_relation_sort t && ltb 0 (length (columns t))))
    (Some (relation_of (drop_last (columns s) ++ drop 1 (columns t))))
    None

-- RelProduct: the left's columns, then the right's
unfoldable pub product_sort : List Sort → Option Sort
product_sort [] = None
product_sort (s ∷ []) = None
product_sort (s ∷ (t ∷ ss)) = cond (is_relation_sort s && is_relation_sort t) (Some (relation_of (columns s ++ columns t))) None

-- rule 7: "special, for operators that none of 0 to 6 describes"
unfoldable pub special_sort : Special → Terms → Option Sort
special_sort Arithmetic ts = Some (cond (any_real_sort (stated_sorts ts)) real int)  -- Add, Sub, Mult
special_sort Select ts = select_sort (stated_sorts ts)
special_sort BitVectors ts = bit_vector_sort (stated_sorts ts)
special_sort Concat ts = concat_sort 0 false (stated_sorts ts)
special_sort OneBit ts = Some (bit_vec 1)  -- BvComp
special_sort BitCount ts = Some (bit_vec (length (stated_sorts ts)))  -- BvPBbTerm, BvBbTerm
special_sort BvConst ts = bv_const_sort ts
special_sort RareList ts = Some (rare_list_sort (stated_sorts ts))
special_sort Singleton ts = singleton_sort (stated_sorts ts)
special_sort Insert ts = last_of (stated_sorts ts)  -- SetInsert
special_sort TupleOf ts = Some (tuple (sorts_from (stated_sorts ts)))  -- Tuple
special_sort TupleUnit ts = Some (tuple snil)
special_sort Transpose ts = transpose_sort (stated_sorts ts)
special_sort Join ts = join_sort (stated_sorts ts)
special_sort Product ts = product_sort (stated_sorts ts)
special_sort NoRule ts = None

-- "Rules: 0 Bool, 1 Int, 2 Real, 3 String, 4 RegLan"
unfoldable pub plain_sort : ℕ → Sort
plain_sort rule = cond (eqb rule 0) bool (cond (eqb rule 1) int (cond (eqb rule 2) real (cond (eqb rule 3) string reglan)))

-- by the table: "5 first operand's sort, 6 second operand's, 7 special"; "a missing operand" has no answer
unfoldable pub operator_sort : ℕ → ℕ → Terms → Option Sort
operator_sort rule code ts =
    cond (ltb rule 5) (Some (plain_sort rule))
    (cond (eqb rule 5) (slice_get (stated_sorts ts) 0)
    (cond (eqb rule 6) (slice_get (stated_sorts ts) 1)
    (special_sort (special_of code) ts)))

-- ---- the other terms
-- 16 integer, 17 real, 18 string, 19 regular language
unfoldable pub constant_sort : ℕ → Sort
constant_sort tag = cond (eqb tag 16) int (cond (eqb tag 17) real (cond (eqb tag 18) string reglan))

-- m arguments to a Function with these entries: all given, "the last entry"; fewer or as many, the Function of those that are left; "to
-- more arguments than its entries", no answer
unfoldable pub apply_sort : ℕ → List Sort → Option Sort
apply_sort m ss =
    cond (eqb (m + 1) (length ss)) (last_of ss)
    (cond (leb m (length ss)) (Some (function (sorts_from (drop m ss)))) None)

unfoldable pub application_sort : Sort → Terms → Option Sort
application_sort s ts = cond (is_function s) (apply_sort (length (stated_sorts ts)) (form_of s).sorts) None

abbrev pub sorts_of_vars : Vars → List Sort
sorts_of_vars vs = map (λ (v : Var). v.sort) vs

-- choice: its first variable's sort; lambda: the Function of its variables' sorts and its body's
unfoldable pub binder_sort : ℕ → Vars → Term → Option Sort
binder_sort tag vs t =
    cond (eqb tag 25) (slice_get (sorts_of_vars vs) 0)
    (Some (function (sorts_from (sorts_of_vars vs ++ (stated t ∷ [])))))

-- ---- any term
-- SMT-LIB 2.6, section 3.6 (Terms and Formulas): a variable has its declared sort, a quantified formula Bool, a let its body's sort, an
-- application to all arguments the function's result sort. Application to fewer, choice and lambda are the Rust's.
unfoldable pub sort_of_term : List ℕ → Term → Option Sort
sort_of_term rules (const k s c) = Some (constant_sort k)
sort_of_term rules (bit_vector s w c) = Some (bit_vec w)
sort_of_term rules (var v) = Some v.sort
sort_of_term rules (app s f ts) = application_sort (stated f) ts
sort_of_term rules (quant b s vs t) = Some bool
sort_of_term rules (bind k s vs t) = binder_sort k vs t
sort_of_term rules (letin s ls t) = Some (stated t)
sort_of_term rules (op k s ts) = operator_sort (get_or rules (k - 32) 7) (k - 32) ts
sort_of_term rules no_term = None
