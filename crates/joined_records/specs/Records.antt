-- 01: "The list comparison of `qnt_join` is also offered over lent records of name and sort, after the core."
-- A list of records is a list of pairs, and the comparison goes through it one pair at a time. That it is QntJoin's comparison is
-- `joined_is` of proofs/Laws.antt.
-- Rests on bindings' Binding, and on the structs `Binding` and `Along`.
use Rattle.std.specs.Prelude.{ℕ, ◌+◌, Bool, false, not, ◌&&◌, cond, List, [], ◌∷◌, length, get_or, eqb, leb, Option, None, Some, option_and_then}
use Rattle.bindings.specs.Binding.{Binding as Pair, same}
use Rattle.joined_records.specs.declared.Binding.{Binding}
use Rattle.joined_records.specs.declared.Along.{Along}

abbrev pub pair_in : Binding → Pair
pair_in a = record { name = a.name; sort = a.sort }

unfoldable pub bindings_in : List Binding → List Pair
bindings_in [] = []
bindings_in (a ∷ as') = pair_in a ∷ bindings_in as'

-- what is read past a list's end
abbrev pub no_binding : Binding
no_binding = record { name = 0; sort = 0 }

-- before the first pair
abbrev pub start : Along
start = record { last = no_binding; at = 0 }

-- a pair equals the one before it
unfoldable pub is_repeat : Along → Binding → Bool
is_repeat s a = not (eqb s.at 0) && same (pair_in s.last) (pair_in a)

-- one pair more, where b is the right list's pair at the place reached and n its length; None where the lists differ
unfoldable pub next : Along → Binding → Binding → ℕ → Option Along
next s a b n =
    cond (is_repeat s a) (Some s)
    (cond (leb n s.at) None
    (cond (same (pair_in a) (pair_in b)) (Some (record { last = a; at = s.at + 1 }))
    None))

-- the pairs of a list
unfoldable pub follow : List Binding → List Binding → Along → Option Along
follow [] right s = Some s
follow (a ∷ as') right s = option_and_then (λ t. follow as' right t) (next s a (get_or right s.at no_binding) (length right))

-- all of a right list of n pairs
unfoldable pub agrees : Option Along → ℕ → Bool
agrees None n = false
agrees (Some s) n = leb n s.at
