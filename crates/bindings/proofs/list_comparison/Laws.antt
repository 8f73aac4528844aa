-- Laws of `same_lists`: two iterators over pairs compared, item by item.
-- Assumes nothing.
use mathlib.Core.Path.{◌≡◌}
use mathlib.Core.Bool.{Bool, true, false, ◌&&◌}
use mathlib.Core.List.{List, [], ◌∷◌}
use Rattle.std.specs.Prelude.{Option, Some, None}
use Rattle.std.specs.Iterator.{YieldsThen, YieldsFirstBy, ComparesItemsByEq}
use Rattle.std.specs.List.{AllZip}
use Rattle.std.specs.Option.{MatchOption, IfSome}
use lib.Dec.{eqb}
use Rattle.bindings.specs.Binding.{same, same_all}
use Rattle.bindings.specs.BindingAnswer.{binding, pairs_left}
use Rattle.bindings.specs.declared.pairs.Pairs.{Pairs}
use Rattle.cells.specs.declared.variable.Variable.{Variable}

abbrev steps : Pairs → Option Variable → Pairs → Type 0
steps = YieldsFirstBy binding pairs_left

-- the code's `==` of two variables
abbrev equal : Variable → Variable → Bool
equal v w = eqb v.name w.name && eqb v.sort.0 w.sort.0

-- what one call of each says
one-call : (s t : Pairs) (o p : Option Variable) (u v : Pairs) (r : Bool) → steps s o u → steps t p v
    → MatchOption o (MatchOption p (r ≡ true) (λ _. r ≡ false)) (λ x. (r ≡ false) × IfSome p (λ y. equal x y ≡ false)) → r ≡ same_all (pairs_left s) (pairs_left t)
unfolding same_all same
one-call s t None None u v r e f l = rw (e.0, f.0) l
one-call s t None (Some y) u v r e f l = rw (e.0, f) l
one-call s t (Some x) None u v r e f l = rw (e, f.0) l.0
one-call s t (Some x) (Some y) u v r e f l = rw (e, f, l.1) l.0

-- both gave equal pairs, xs and ys, and then o and p
pub compared : (s t : Pairs) (xs ys : List Variable) (o p : Option Variable) (u v : Pairs) (r : Bool) → YieldsThen steps s xs o u → YieldsThen steps t ys p v
    → AllZip (λ x y. equal x y ≡ true) xs ys → MatchOption o (MatchOption p (r ≡ true) (λ _. r ≡ false)) (λ x. (r ≡ false) × IfSome p (λ y. equal x y ≡ false))
    → r ≡ same_all (pairs_left s) (pairs_left t)
unfolding same_all same
compared s t (x ∷ xs) (y ∷ ys) o p u v r (a, (j, e, m), n) (b, (k, f, g), h) z l =
    rw (e, f, z.0) (compared j k xs ys o p u v r (a, m, n) (b, g, h) z.1 l)
compared s t (x ∷ xs) [] o p u v r a b z l = absurd z
compared s t [] (y ∷ ys) o p u v r a b z l = absurd z
compared s t [] [] o p u v r (a, e, m) (b, f, n) z l = rw (e, f) (one-call a b o p u v r m n l)

pub runs_compared : (s t : Pairs) (r : Bool) → ComparesItemsByEq steps (λ (u : Pairs) v. v ≡ u) steps s t equal r → r ≡ same_all (pairs_left s) (pairs_left t)
runs_compared s t r (it, xs, ys, o, p, u, v, is, a, b, z, l) = rw is at (compared s it xs ys o p u v r a b z l)
