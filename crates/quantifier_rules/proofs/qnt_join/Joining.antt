-- Laws of `JoinAlong`: comparing joined lists with the right list, one law for each way through the code.
-- Assumes nothing.
use Prim.Native.Nat.{ℕ, ◌+◌, ◌-◌, ◌≤◌, ◌<◌}
use mathlib.Core.Path.{◌≡◌, sym, ap, ◌∙◌}
use mathlib.Core.Bool.{Bool, true, false}
use mathlib.Core.List.{List, [], ◌∷◌, ◌++◌, append-nil}
use lib.ListN.{length, get_or, take, drop, length-drop}
use lib.Seq.{take_all}
use mathlib.Core.Logic.{◌⊎◌, inl, inr}
use lib.Dec.{ltb}
use native.Mathlib.Omega.{arith}
use borrow.Author.Tests.{lt-ltb, le-ltb, ltb-true, ltb-false}
use Rattle.cells.specs.ByPlace.{by-test}
use Rattle.bindings.specs.Binding.{Binding, bindings_of, same, same_all}
use Rattle.bindings.specs.BindingAnswer.{pair, pair_at}
use Rattle.quantifier_rules.specs.QntJoin.{after_pair, without_adjacent, joined}
use Rattle.quantifier_rules.specs.JoinAlong.{is_repeat, after_place, same_from, same_at, Follows}
use Rattle.std.specs.Prelude.{Option, Some, None}
use Rattle.bindings.proofs.binding.Laws.{same-is, pairs_end, pairs_next}

-- ---- a pair that equals the one before j
module _ (right : List ℕ) (j : ℕ) (b : Binding) where
  pub repeat-first : j < 2 → false ≡ is_repeat right j b
  unfolding is_repeat
  repeat-first h = rw (lt-ltb _ _ h)

  pub repeat-before : 2 ≤ j → (a s : ℕ) → a ≡ get_or right (j - 2) 0 → s ≡ get_or right (j - 1) 0 → (r : Bool) → r ≡ same (pair a s) b → r ≡ is_repeat right j b
  unfolding is_repeat
  repeat-before h a s a-is s-is r q =
      let after : j - 2 + 1 ≡ j - 1 = omega arith in
      rw (le-ltb _ _ h, after, ← a-is, ← s-is, q)

-- ---- one pair more
module _ (right : List ℕ) (j : ℕ) (a : Binding) (rest : List Binding) where
  after-repeat : is_repeat right j a ≡ true → after_place right j (a ∷ rest) ≡ after_place right j rest
  unfolding is_repeat after_place after_pair
  after-repeat h =
      by-test (ltb j 2)
      (λ e. let z : false ≡ true = rw e at h in absurd (let n : ◌≡◌ {A = ℕ} 0 1 = cc in omega arith))
      (λ e. let s : same (pair_at right (j - 2)) a ≡ true = rw e at h in rw (e, s) (ap (λ (p : Binding). after_pair p rest) (sym (same-is _ _ s))))

  after-other : is_repeat right j a ≡ false → after_place right j (a ∷ rest) ≡ a ∷ after_pair a rest
  unfolding is_repeat after_place after_pair without_adjacent
  after-other h =
      by-test (ltb j 2)
      (λ e. rw e)
      (λ e. let s : same (pair_at right (j - 2)) a ≡ false = rw e at h in rw (e, s))

after_next : (right : List ℕ) (j : ℕ) (rest : List Binding) → after_place right (j + 2) rest ≡ after_pair (pair_at right j) rest
unfolding after_place
after_next right j rest =
    let back : j + 2 - 2 ≡ j = omega arith in
    rw (le-ltb (j + 2) 2 (omega arith), back)

-- the pairs from j on, as an iterator over them has them left
pub left_from : (right : List ℕ) (j : ℕ) (g : List ℕ) → g ≡ take (length right - j) (drop j right) → (left : List Binding) → left ≡ bindings_of g
    → (v : List Binding) → left ≡ v → bindings_of (drop j right) ≡ v
left_from right j g g-is left is v e = sym (is ∙ ap bindings_of (g-is ∙ take_all (length right - j) (drop j right) (rw length-drop (omega arith)))) ∙ e

-- the pair at j, and the pairs after it
next_there : (right : List ℕ) (j : ℕ) (b : Binding) (others : List Binding) → bindings_of (drop j right) ≡ b ∷ others
    → (b ≡ pair_at right j) × (others ≡ bindings_of (drop (j + 2) right))
next_there right j b others h =
    by-test (ltb (length right - j) 2)
    (λ e. let z : [] ≡ b ∷ others = sym (pairs_end right j (ltb-true _ _ e)) ∙ h in absurd (let n : ◌≡◌ {A = ℕ} 0 1 = cc in omega arith))
    (λ e. let z : pair_at right j ∷ bindings_of (drop (j + 2) right) ≡ b ∷ others = sym (pairs_next right j (ltb-false _ _ e)) ∙ h in (cc, cc))

module _ (right : List ℕ) (j : ℕ) (a : Binding) (r : Bool) (is : r ≡ is_repeat right j a) where
  pub pair-repeats : r ≡ true → Follows (a ∷ []) right j (Some j)
  unfolding same_from same_at
  pair-repeats e = record { at = λ rest. rw (after-repeat right j a rest (sym is ∙ e)) }

  module _ (e : r ≡ false) where
    pub pair-short : bindings_of (drop j right) ≡ [] → Follows (a ∷ []) right j None
    unfolding same_from same_at same_all
    pair-short h = record { at = λ rest. rw (after-other right j a rest (sym is ∙ e), h) }

    pub pair-past : (length right < j) ⊎ (length right < length right) → Follows (a ∷ []) right j None
    pair-past h = pair-short (pairs_end right j (elim h [ inl l ↦ omega arith | inr l ↦ omega arith ]))

    module _ (b : Binding) (others : List Binding) (h : bindings_of (drop j right) ≡ b ∷ others) (s : Bool) (s-is : s ≡ same a b) where
      pub pair-differs : s ≡ false → Follows (a ∷ []) right j None
      unfolding same_from same_at same_all
      pair-differs n = record { at = λ rest. rw (after-other right j a rest (sym is ∙ e), h, ← s-is, n) }

      pub pair-next : s ≡ true → Follows (a ∷ []) right j (Some (j + 2))
      unfolding same_from same_at same_all
      pair-next n = record {
        at = λ rest.
            let (here, after) = next_there right j b others h in
            rw (after-other right j a rest (sym is ∙ e), h, ← s-is, n, after_next right j rest, after)
            (ap (λ (p : Binding). same_all (after_pair p rest) (bindings_of (drop (j + 2) right))) (same-is _ _ (sym s-is ∙ n) ∙ here));
      }

-- ---- a list: what is left of it has still to follow the right list from k on
abbrev pub StillFollows : List ℕ → List ℕ → ℕ → List Binding → ℕ → Type 0
StillFollows list right j left k = (rest : List Binding) → same_from right j (bindings_of list ++ rest) ≡ same_from right k (left ++ rest)

module _ (list right : List ℕ) (j k : ℕ) (left : List Binding) (inv : StillFollows list right j left k) where
  pub list-end : left ≡ [] → Follows (bindings_of list) right j (Some k)
  unfolding same_at
  list-end h = record { at = λ rest. inv rest ∙ rw h }

  module _ (a : Binding) (others : List Binding) (is : left ≡ a ∷ others) (r : Option ℕ) (f : Follows (a ∷ []) right k r) where
    turn : (rest : List Binding) → same_from right j (bindings_of list ++ rest) ≡ same_at right r (others ++ rest)
    turn rest = inv rest ∙ rw is (f.at (others ++ rest))

    pub list-off : r ≡ None → Follows (bindings_of list) right j None
    unfolding same_at
    list-off e = record { at = λ rest. turn rest ∙ rw e }

    pub list-next : (m : ℕ) → r ≡ Some m → StillFollows list right j others m
    unfolding same_at
    list-next m e rest = turn rest ∙ rw e

-- ---- outer and inner list
same_from-end : (right : List ℕ) (k : ℕ) → same_from right k [] ≡ ltb (length right - k) 2
unfolding same_from after_place after_pair without_adjacent same_all
same_from-end right k =
    by-test (ltb (length right - k) 2)
    (λ e. rw (none, pairs_end right k (ltb-true _ _ e), e))
    (λ e. rw (none, pairs_next right k (ltb-false _ _ e), e))
  where
    none : after_place right k [] ≡ []
    none = by-test (ltb k 2) (λ e. rw e) (λ e. rw e)

module _ (outer inner right : List ℕ) (r : Option ℕ) (f : Follows (bindings_of outer) right 0 r) where
  from_inner : same_all (joined (bindings_of outer) (bindings_of inner)) (bindings_of right) ≡ same_at right r (bindings_of inner)
  unfolding joined same_from after_place
  from_inner = f.at (bindings_of inner)

  pub joined-off : r ≡ None → false ≡ same_all (joined (bindings_of outer) (bindings_of inner)) (bindings_of right)
  unfolding same_at
  joined-off e = rw (from_inner, e)

  module _ (j : ℕ) (e : r ≡ Some j) (s : Option ℕ) (g : Follows (bindings_of inner) right j s) where
    to_end : same_all (joined (bindings_of outer) (bindings_of inner)) (bindings_of right) ≡ same_at right s []
    unfolding same_at
    to_end = from_inner ∙ rw e (ap (same_from right j) (sym (append-nil (bindings_of inner))) ∙ g.at [])

    pub joined-inner-off : s ≡ None → false ≡ same_all (joined (bindings_of outer) (bindings_of inner)) (bindings_of right)
    unfolding same_at
    joined-inner-off o = rw (to_end, o)

    pub joined-rest : (k : ℕ) → s ≡ Some k → ltb (length right - k) 2 ≡ same_all (joined (bindings_of outer) (bindings_of inner)) (bindings_of right)
    unfolding same_at
    joined-rest k o = rw (to_end, o, same_from-end right k)

pub ruleset both-lists = (joined-off, joined-inner-off, joined-rest)
