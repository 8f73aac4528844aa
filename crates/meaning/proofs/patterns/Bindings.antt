-- Binding lists, pair by pair: what the rules' tests on them say.
--     binding-eq, list-eq      equal pairs and lists; same_self, list_same: the tests pass at one pair and one list
--     first-none, first-is-none    no pair of a list passes a test
--     first_some               the first pair that does is of the list and passes
--     pairs-append             the pairs of two lists joined
--     var_of, vars_at            the variable of a pair, and those of a list: the sort at a place as a tree
--     has-at, has-pair         a list of pairs holds a pair where its variables hold the pair's
-- Assumes nothing.
use Prim.Native.Nat.{ℕ}
use mathlib.Core.Path.{◌≡◌, refl, ap, ap₂}
use mathlib.Core.Bool.{Bool, true, false, ◌||◌, or_assoc}
use mathlib.Core.List.{List, [], ◌∷◌, ◌++◌}
use Rattle.std.specs.Prelude.{Some, None}
use lib.Dec.{eqb}
use native.Mathlib.Omega.{arith}
use borrow.Author.Tests.{eqb-true, eq-eqb}
use Rattle.cells.specs.ByPlace.{by-test}
use Rattle.meaning.specs.Term.{Var, Vars}
use Rattle.meaning.specs.Tree.{sort_tree, vars_of}
use Rattle.meaning.specs.FreeTree.{has as has_var, same as same_var}
use Rattle.meaning.proofs.trees.Header.{both}
use Rattle.meaning.proofs.truth.Over.{same-eq, same_refl, or_left, or_right, or_cases}
use Rattle.bindings.specs.Binding.{Binding, bindings_of, same, has, same_all, first_of}

pub binding-eq : (a b : Binding) → same a b ≡ true → a ≡ b
unfolding same
binding-eq a b e =
    let p : a.name ≡ b.name = eqb-true _ _ (both (eqb a.name b.name) _ e).0 in
    let q : a.sort ≡ b.sort = eqb-true _ _ (both (eqb a.name b.name) _ e).1 in
    λ i. record { name = p i; sort = q i }

pub list-eq : (as' bs : List Binding) → same_all as' bs ≡ true → as' ≡ bs
unfolding same_all
list-eq [] [] e = refl
list-eq [] (b ∷ bs) e = cc
list-eq (a ∷ as') [] e = cc
list-eq (a ∷ as') (b ∷ bs) e = ap₂ ◌∷◌ (binding-eq a b (both (same a b) _ e).0) (list-eq as' bs (both (same a b) _ e).1)

pub same_self : (a : Binding) → same a a ≡ true
unfolding same
same_self a = rw (eq-eqb a.name a.name refl, eq-eqb a.sort a.sort refl)

pub list_same : (as' : List Binding) → same_all as' as' ≡ true
unfolding same_all
list_same [] = refl
list_same (a ∷ as') = rw (same_self a) (list_same as')

pub first-none : (test : Binding → Bool) (as' : List Binding) → first_of test as' ≡ None → (a : Binding) → has as' a ≡ true → test a ≡ false
unfolding first_of has
first-none test [] e a h = cc
first-none test (b ∷ bs) e a h =
    by-test (test b) (λ o. let d : Some b ≡ None = rw o at e in cc)
    (λ o. or_cases (same b a) (has bs a) h (λ s. rw (← binding-eq b a s) o) (λ r. first-none test bs (rw o at e) a r))

pub first-is-none : (test : Binding → Bool) (as' : List Binding) → ((a : Binding) → has as' a ≡ true → test a ≡ false) → first_of test as' ≡ None
unfolding first_of has
first-is-none test [] h = refl
first-is-none test (b ∷ bs) h = rw (h b (or_left (same b b) _ (same_self b))) (first-is-none test bs (λ a m. h a (or_right (same b a) _ m)))

pub first_some : (test : Binding → Bool) (as' : List Binding) (a : Binding) → first_of test as' ≡ Some a → (has as' a ≡ true) × (test a ≡ true)
unfolding first_of has
first_some test [] a e = let z : ◌≡◌ {A = ℕ} 0 1 = cc in absurd (omega arith)
first_some test (b ∷ bs) a e =
    by-test (test b)
    (λ o. let d : Some b ≡ Some a = rw o at e in
    let z : b ≡ a = cc in
    (or_left (same b a) _ (rw z (same_self a)), rw (← z) o))
    (λ o. let (h, k) = first_some test bs a (rw o at e) in (or_right (same b a) _ h, k))

pub pairs-append : (as' bs : List Binding) (a : Binding) → has (as' ++ bs) a ≡ (has as' a || has bs a)
unfolding has
pairs-append [] bs a = refl
pairs-append (b ∷ as') bs a = rw (pairs-append as' bs a, or_assoc (same b a) (has as' a) (has bs a))

-- ---- variables
module _ (tags values : List ℕ) where
  unfoldable pub var_of : Binding → Var
  var_of a = record { name = a.name; sort = sort_tree tags values a.sort }

  unfoldable pub vars_at : List Binding → Vars
  vars_at [] = []
  vars_at (a ∷ as') = var_of a ∷ vars_at as'

  -- the pairs of a list of cells
  pub vars-are : (cells : List ℕ) → vars_of (sort_tree tags values) cells ≡ vars_at (bindings_of cells)
  unfolding vars_of var_of vars_at bindings_of
  vars-are [] = refl
  vars-are (a ∷ []) = refl
  vars-are (a ∷ (s ∷ rest)) = ap (◌∷◌ (record { name = a; sort = sort_tree tags values s })) (vars-are rest)

  pub vars-append : (as' bs : List Binding) → vars_at (as' ++ bs) ≡ vars_at as' ++ vars_at bs
  unfolding vars_at
  vars-append [] bs = refl
  vars-append (a ∷ as') bs = ap (◌∷◌ (var_of a)) (vars-append as' bs)

  pub has-at : (as' : List Binding) (a : Binding) → has as' a ≡ true → has_var (vars_at as') (var_of a) ≡ true
  unfolding has vars_at has_var
  has-at [] a h = h
  has-at (b ∷ bs) a h =
      or_cases (same b a) (has bs a) h
      (λ s. rw (binding-eq b a s) (or_left (same_var (var_of a) (var_of a)) _ (same_refl (var_of a))))
      (λ r. or_right (same_var (var_of b) (var_of a)) _ (has-at bs a r))

  pub has-pair : {C : Type 0} (as' : List Binding) (v : Var) → has_var (vars_at as') v ≡ true → ((a : Binding) → has as' a ≡ true → var_of a ≡ v → C) → C
  unfolding has vars_at has_var
  has-pair [] v h k = let z : ◌≡◌ {A = ℕ} 0 1 = cc in absurd (omega arith)
  has-pair (b ∷ bs) v h k =
      or_cases (same_var (var_of b) v) (has_var (vars_at bs) v) h
      (λ s. k b (or_left (same b b) _ (same_self b)) (same-eq (var_of b) v s))
      (λ r. has-pair bs v r (λ a m e. k a (or_right (same b a) _ m) e))
