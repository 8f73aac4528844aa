-- The built-in table: the sort rule of each operator, in operator order.
-- 01, "What the Rust's pointers become": "Rules: 0 Bool, 1 Int, 2 Real, 3 String, 4 RegLan, 5 first operand's sort, 6 second operand's,
-- 7 special, for operators that none of 0 to 6 describes."
-- Rests on the library alone.
use Rattle.std.specs.Prelude.{ℕ, Bool, ◌&&◌, ◌||◌, List, [], ◌∷◌, leb, eqb}

unfoldable pub built_in : List ℕ
built_in =
    0 ∷ 0 ∷ 0 ∷ 0 ∷ 0 ∷ 0 ∷ 0 ∷ 0 ∷ 0 ∷ 6  -- True False Not Implies And Or Xor Equals Distinct Ite
    ∷ 7 ∷ 7 ∷ 7 ∷ 1 ∷ 2 ∷ 1 ∷ 5 ∷ 0 ∷ 0 ∷ 0  -- Add Sub Mult IntDiv RealDiv Mod Abs LessThan GreaterThan LessEq
    ∷ 0 ∷ 2 ∷ 1 ∷ 0 ∷ 1 ∷ 0 ∷ 1 ∷ 2 ∷ 2 ∷ 2  -- GreaterEq ToReal ToInt IsInt Pow2 IsPow2 Log2 RealPi Sqrt Exp
    ∷ 2 ∷ 2 ∷ 2 ∷ 2 ∷ 2 ∷ 2 ∷ 2 ∷ 2 ∷ 2 ∷ 2  -- Sin Cos Tan Csc Sec Cot Arcsin Arccos Arctan Arccsc
    ∷ 2 ∷ 2 ∷ 7 ∷ 5 ∷ 3 ∷ 1 ∷ 0 ∷ 0 ∷ 3 ∷ 3  -- Arcsec Arccot Select Store StrConcat StrLen StrLessThan StrLessEq CharAt Substring
    ∷ 0 ∷ 0 ∷ 0 ∷ 1 ∷ 1 ∷ 3 ∷ 3 ∷ 3 ∷ 3 ∷ 0  -- PrefixOf SuffixOf Contains IndexOf IndexOfRe Replace ReplaceAll ReplaceRe ReplaceReAll StrIsDigit
    ∷ 1 ∷ 3 ∷ 1 ∷ 3 ∷ 4 ∷ 0 ∷ 4 ∷ 4 ∷ 4 ∷ 4  -- StrToCode StrFromCode StrToInt StrFromInt StrToRe StrInRe ReNone ReAll ReAllChar ReConcat
    ∷ 4 ∷ 4 ∷ 4 ∷ 4 ∷ 4 ∷ 4 ∷ 4 ∷ 4 ∷ 4 ∷ 7  -- ReUnion ReIntersection ReKleeneClosure ReComplement ReDiff ReKleeneCross ReOption ReRange ReFromAutomaton BvNot
    ∷ 7 ∷ 7 ∷ 7 ∷ 7 ∷ 7 ∷ 7 ∷ 7 ∷ 7 ∷ 7 ∷ 0  -- BvNeg BvAnd BvOr BvAdd BvMul BvUDiv BvURem BvShl BvLShr BvULt
    ∷ 7 ∷ 7 ∷ 7 ∷ 7 ∷ 7 ∷ 7 ∷ 7 ∷ 7 ∷ 7 ∷ 7  -- BvConcat BvNAnd BvNOr BvXor BvXNor BvComp BvSub BvSDiv BvSRem BvSMod
    ∷ 7 ∷ 0 ∷ 0 ∷ 0 ∷ 0 ∷ 0 ∷ 0 ∷ 0 ∷ 1 ∷ 1  -- BvAShr BvULe BvUGt BvUGe BvSLt BvSLe BvSGt BvSGe UBvToInt SBvToInt
    ∷ 7 ∷ 7 ∷ 7 ∷ 1 ∷ 6 ∷ 7 ∷ 0 ∷ 0 ∷ 5 ∷ 5  -- BvPBbTerm BvBbTerm BvConst BvSize BvIte RareList Cl Delete SetUnion SetInter
    ∷ 5 ∷ 0 ∷ 0 ∷ 7 ∷ 0 ∷ 0 ∷ 1 ∷ 7 ∷ 5 ∷ 7  -- SetMinus SetMember SetSubset SetSingleton SetIsEmpty SetIsSingleton SetCard SetInsert SetComplement Tuple
    ∷ 7 ∷ 7 ∷ 5 ∷ 7 ∷ 7 ∷ []  -- TupleUnit RelTranspose RelTclosure RelJoin RelProduct

-- a ≤ k ≤ b
abbrev pub among : ℕ → ℕ → ℕ → Bool
among a b k = leb a k && leb k b

-- the operators whose terms have sort Bool, by their codes
unfoldable pub is_bool : ℕ → Bool
is_bool k =
    among 0 8 k  -- True to Distinct
    || (among 17 20 k  -- LessThan to GreaterEq
    || (eqb k 23  -- IsInt
    || (eqb k 25  -- IsPow2
    || (among 46 47 k  -- StrLessThan, StrLessEq
    || (among 50 52 k  -- PrefixOf, SuffixOf, Contains
    || (eqb k 59  -- StrIsDigit
    || (eqb k 65  -- StrInRe
    || (eqb k 89  -- BvULt
    || (among 101 107 k  -- BvULe to BvSGe
    || (among 116 117 k  -- Cl, Delete
    || (among 121 122 k  -- SetMember, SetSubset
    || among 124 125 k)))))))))))  -- SetIsEmpty, SetIsSingleton
