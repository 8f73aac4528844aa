-- What the comparison of joined lists says of itself. As long as the lists agree, the pair before is the one before j in the right list.
-- Rests on bindings' Binding and BindingAnswer, and on QntJoin.
use Rattle.std.specs.Prelude.{ℕ, ◌-◌, ◌≡◌, Bool, false, not, ◌&&◌, cond, List, ◌++◌, drop, ltb, Option, Some, None}
use Rattle.bindings.specs.Binding.{Binding, bindings_of, same, same_all}
use Rattle.bindings.specs.BindingAnswer.{pair_at}
use Rattle.quantifier_rules.specs.QntJoin.{after_pair, without_adjacent}

-- a pair equals the one before j
unfoldable pub is_repeat : List ℕ → ℕ → Binding → Bool
is_repeat right j a = not (ltb j 2) && same (pair_at right (j - 2)) a

-- a list after the pair before j, adjacent equal pairs dropped
unfoldable pub after_place : List ℕ → ℕ → List Binding → List Binding
after_place right j list = cond (ltb j 2) (without_adjacent list) (after_pair (pair_at right (j - 2)) list)

-- it equals the right list from j on
unfoldable pub same_from : List ℕ → ℕ → List Binding → Bool
same_from right j list = same_all (after_place right j list) (bindings_of (drop j right))

unfoldable pub same_at : List ℕ → Option ℕ → List Binding → Bool
same_at right (Some j) list = same_from right j list
same_at right None list = false

-- r is where the right list stands after these pairs, whatever follows them, if it agrees with them
pub record Follows (pairs : List Binding) (right : List ℕ) (j : ℕ) (r : Option ℕ) : Type 0 where
  pub at : (rest : List Binding) → same_from right j (pairs ++ rest) ≡ same_at right r rest
