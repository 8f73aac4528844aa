-- Laws of `Records`: one for each way through the code, and that what is followed to its end is the comparison of the joined lists.
-- Assumes nothing.
use Prim.Native.Nat.{ℕ, ◌+◌, ◌≤◌, ◌<◌}
use mathlib.Core.Path.{◌≡◌, refl, sym, ap, ◌∙◌}
use mathlib.Core.Bool.{Bool, true, false, not, ◌&&◌, cond}
use mathlib.Core.List.{List, [], ◌∷◌, ◌++◌, append-nil}
use lib.ListN.{length, get_or, drop, drop_of_length-le}
use lib.Seq.{drop-cons}
use lib.Dec.{eqb, leb}
use native.Mathlib.Omega.{arith}
use native.Mathlib.Numerals.{add-one}
use borrow.Author.Tests.{eq-eqb, ne_eqb, le-leb, lt-leb, leb-true, leb-false, not-true, not-false}
use Rattle.cells.specs.ByPlace.{by-test}
use Rattle.bindings.specs.Binding.{Binding as Pair, same, same_all}
use Rattle.bindings.proofs.binding.Laws.{same-is}
use Rattle.quantifier_rules.specs.QntJoin.{after_pair, without_adjacent, joined}
use Rattle.joined_records.specs.Records.{pair_in, bindings_in, no_binding, start, is_repeat, next, follow, agrees}
use Rattle.joined_records.specs.declared.Binding.{Binding}
use Rattle.joined_records.specs.declared.Along.{Along}
use Rattle.std.specs.Prelude.{Option, None, Some, option_and_then}

-- ---- a pair that equals the one before it
module _ (s : Along) (a : Binding) where
  pub repeat-first : s.at ≡ 0 → not (eqb s.at 0) ≡ is_repeat s a
  unfolding is_repeat
  repeat-first e = rw (eq-eqb _ _ e)

  pub repeat-before : (s.at ≡ 0 → ⊥) → (r : Bool) → r ≡ (eqb s.last.name a.name && eqb s.last.sort a.sort) → r ≡ is_repeat s a
  unfolding is_repeat same
  repeat-before n r e = rw (ne_eqb _ _ n, e)

pub ruleset repeats = (repeat-first, repeat-before)

-- ---- one pair more
module _ (s : Along) (a b : Binding) (n : ℕ) (r : Bool) (is : r ≡ is_repeat s a) where
  pub next-repeat : r ≡ true → Some s ≡ next s a b n
  unfolding next
  next-repeat e = rw (← is, e)

  module _ (e : r ≡ false) where
    pub next-past : n ≤ s.at → (o : Option Along) → o ≡ None → o ≡ next s a b n
    unfolding next
    next-past h o o-is = rw (← is, e, le-leb _ _ h, o-is)

    module _ (h : s.at < n) (b' : Binding) (b-is : b' ≡ b) (t : Bool) (t-is : t ≡ not (eqb a.name b'.name && eqb a.sort b'.sort)) where
      pub next-differs : t ≡ true → None ≡ next s a b n
      unfolding next same
      next-differs d = rw (← is, e, lt-leb _ _ h, ← b-is, not-true _ (sym t-is ∙ d))

      pub next-agrees : t ≡ false → Some (record { last = a; at = s.at + 1 }) ≡ next s a b n
      unfolding next same
      next-agrees d = rw (← is, e, lt-leb _ _ h, ← b-is, not-false _ (sym t-is ∙ d))

-- ---- the pairs of a list from i on
module _ (list right : List Binding) (i : ℕ) (s : Along) where
  pub follow-end : length list ≤ i → follow (drop i list) right s ≡ Some s
  unfolding follow
  follow-end h = rw (drop_of_length-le list h)

  module _ (h : i < length list) (o : Option Along) (is : o ≡ next s (get_or list i no_binding) (get_or right s.at no_binding) (length right)) where
    pub follow-stop : o ≡ None → follow (drop i list) right s ≡ None
    unfolding follow
    follow-stop e = rw (drop-cons list i no_binding h, ← is, e)

    pub follow-next : (t : Along) → o ≡ Some t → follow (drop i list) right s ≡ follow (drop (i + 1) list) right t
    unfolding follow
    follow-next t e = rw (drop-cons list i no_binding h, ← is, e, add-one i)

-- ---- what is still to be compared, with the pairs of `rest` to come
abbrev rest_from : Along → List Pair → List Pair
rest_from s rest = cond (eqb s.at 0) (without_adjacent rest) (after_pair (pair_in s.last) rest)

abbrev compares : List Binding → Option Along → List Pair → Bool
compares right None rest = false
compares right (Some s) rest = same_all (rest_from s rest) (bindings_in (drop s.at right))

module _ (s : Along) (a : Binding) (rest : List Pair) where
  rest-repeat : is_repeat s a ≡ true → rest_from s (pair_in a ∷ rest) ≡ rest_from s rest
  unfolding is_repeat after_pair
  rest-repeat h =
      by-test (eqb s.at 0)
      (λ e. let z : false ≡ true = rw e at h in absurd (let n : ◌≡◌ {A = ℕ} 0 1 = cc in omega arith))
      (λ e. let t : same (pair_in s.last) (pair_in a) ≡ true = rw e at h in rw (e, t) (ap (λ (p : Pair). after_pair p rest) (sym (same-is _ _ t))))

  rest-other : is_repeat s a ≡ false → rest_from s (pair_in a ∷ rest) ≡ pair_in a ∷ after_pair (pair_in a) rest
  unfolding is_repeat after_pair without_adjacent
  rest-other h =
      by-test (eqb s.at 0)
      (λ e. rw e)
      (λ e. let t : same (pair_in s.last) (pair_in a) ≡ false = rw e at h in rw (e, t))

module _ (right : List Binding) (s : Along) (a : Binding) (rest : List Pair) where
  abbrev b : Binding
  b = get_or right s.at no_binding

  compares-next : compares right (Some s) (pair_in a ∷ rest) ≡ compares right (next s a b (length right)) rest
  unfolding next same_all bindings_in
  compares-next =
      by-test (is_repeat s a)
      (λ e. rw (e, rest-repeat s a rest e))
      (λ e. by-test (leb (length right) s.at)
      (λ p. rw (e, p, rest-other s a rest e, drop_of_length-le right (leb-true _ _ p)))
      (λ p.
      let below : s.at < length right = leb-false _ _ p in
      by-test (same (pair_in a) (pair_in b))
      (λ t. rw (e, p, t, rest-other s a rest e, drop-cons right s.at no_binding below, t, ne_eqb (s.at + 1) 0 (λ z. omega (arith, z)), add-one s.at))
      (λ t. rw (e, p, t, rest-other s a rest e, drop-cons right s.at no_binding below, t))))

compares-then : (right : List Binding) (more rest : List Pair) (f : Along → Option Along) → ((t : Along) → compares right (Some t) more ≡ compares right (f t) rest)
    → (o : Option Along) → compares right o more ≡ compares right (option_and_then f o) rest
compares-then right more rest f h None = refl
compares-then right more rest f h (Some t) = h t

compares-list : (right list : List Binding) (s : Along) (rest : List Pair) → compares right (Some s) (bindings_in list ++ rest) ≡ compares right (follow list right s) rest
unfolding follow bindings_in
compares-list right [] s rest = refl
compares-list right (a ∷ as') s rest =
    compares-next right s a (bindings_in as' ++ rest)
    ∙ compares-then right (bindings_in as' ++ rest) rest (λ t. follow as' right t) (λ t. compares-list right as' t rest) (next s a (get_or right s.at no_binding) (length right))

compares-end : (right : List Binding) (o : Option Along) → compares right o [] ≡ agrees o (length right)
unfolding agrees same_all bindings_in without_adjacent after_pair
compares-end right None = refl
compares-end right (Some s) =
    by-test (leb (length right) s.at)
    (λ p. rw (none, p, drop_of_length-le right (leb-true _ _ p)))
    (λ p. rw (none, p, drop-cons right s.at no_binding (leb-false _ _ p)))
  where
    none : rest_from s [] ≡ []
    none = by-test (eqb s.at 0) (λ e. rw e) (λ e. rw e)

pub joined_is : (outer inner right : List Binding)
    → agrees (option_and_then (λ s. follow inner right s) (follow outer right start)) (length right) ≡ same_all (joined (bindings_in outer) (bindings_in inner)) (bindings_in right)
unfolding joined
joined_is outer inner right =
    let last : (t : Along) → compares right (Some t) (bindings_in inner) ≡ compares right (follow inner right t) [] =
    λ t. ap (compares right (Some t)) (sym (append-nil (bindings_in inner))) ∙ compares-list right inner t [] in
    sym (compares-list right outer start (bindings_in inner)
    ∙ compares-then right (bindings_in inner) [] (λ s. follow inner right s) last (follow outer right start)
    ∙ compares-end right (option_and_then (λ s. follow inner right s) (follow outer right start)))

-- ---- one for each way out of `same_joined`
module _ (outer inner right : List Binding) (o : Option Along) (is : o ≡ follow outer right start) where
  abbrev equal : Bool
  equal = same_all (joined (bindings_in outer) (bindings_in inner)) (bindings_in right)

  pub outer-differs : o ≡ None → false ≡ equal
  unfolding agrees
  outer-differs e = rw (sym is ∙ e) at (joined_is outer inner right)

  module _ (s : Along) (e : o ≡ Some s) (p : Option Along) (p-is : p ≡ follow inner right s) where
    pub inner-differs : p ≡ None → false ≡ equal
    unfolding agrees
    inner-differs d = rw (sym is ∙ e, sym p-is ∙ d) at (joined_is outer inner right)

    pub both_followed : (t : Along) → p ≡ Some t → leb (length right) t.at ≡ equal
    unfolding agrees
    both_followed t d = rw (sym is ∙ e, sym p-is ∙ d) at (joined_is outer inner right)
