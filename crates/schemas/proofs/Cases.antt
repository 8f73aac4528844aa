-- The schemas at formulas, by computation.
--     steps in the manner of the Alethe document's rules, which the schemas have: those of tools/cases/cases_examples.py, by the same names
--     01's M cases of joins
--     for each rule a step for each side condition that fails, which the schema has not: stated of every term that is that step
-- Variables of sort Int are i, j, k, predicates of them P, Q, R; p is a formula without them.
-- Assumes nothing.
use Prim.Native.Nat.{ℕ}
use native.Mathlib.Decide.{ℕ_discrete}
use native.Mathlib.Omega.{arith}
use borrow.Author.Tests.{not-true}
use mathlib.Core.Path.{◌≡◌, refl, sym, ◌∙◌}
use mathlib.Core.Bool.{Bool, true, false, not, ◌&&◌, ◌||◌, false≢true}
use mathlib.Core.List.{[], ◌∷◌, ◌++◌, Memᴰ}
use Rattle.meaning.specs.Sort.{Sort, Sort-discrete, bool, int, function, snil, scons}
use Rattle.meaning.specs.Term.{Var, Vars, Var-discrete, Term, Terms, var, app, op, tnil, tcons, stated}
use Rattle.meaning.specs.FreeTree.{is_yes, same, has, free}
use Rattle.meaning.proofs.trees.Header.{both}
use Rattle.formulas.specs.Normal.{lit}
use Rattle.formulas.specs.Formula.{connective_tag}
use Rattle.meaning.specs.Skeleton.{skeleton, left_bool, form_of, not_of, implies_of, ite_of, iff_of}
use Rattle.meaning.proofs.truth.Over.{or_cases, not-both, same-eq}
use Rattle.schemas.specs.Notation.{variable, operands, not', implies', and', or', equals, ite'}
use Rattle.schemas.specs.Schemas.{equal, binder, implies, Among, FreeAmong, NotFree, after, joined_once, QntJoin, joins, QntRmUnused, removes, removes-all, with_taken, QntCnf, clausifies, MiniscopeDistribute, distributes, MiniscopeIte, splits-ite, without, Uses, nothing, next, Split, ends, as-it-is, under, MiniscopeSplit, splits}

-- ---- the terms
abbrev i : Var
i = record { name = 1; sort = int }

abbrev j : Var
j = record { name = 2; sort = int }

abbrev k : Var
k = record { name = 3; sort = int }

abbrev predicate : ℕ → Var → Term
predicate name v = app bool (var (record { name = name; sort = function (scons int (scons bool snil)) })) (operands (var v ∷ []))

abbrev P : Var → Term
P = predicate 4

abbrev Q : Var → Term
Q = predicate 5

abbrev R : Var → Term
R = predicate 6

abbrev p : Term
p = variable 7

abbrev forall' : Vars → Term → Term
forall' = binder true

abbrev exists' : Vars → Term → Term
exists' = binder false

abbrev equal' : Term → Term → Term
equal' = equal bool

abbrev implies'' : Term → Term → Term
implies'' = implies bool bool

-- ---- side conditions on lists, by computation
unfoldable all_of : (Var → Bool) → Vars → Bool
all_of test [] = true
all_of test (v ∷ vs) = test v && all_of test vs

all-has : (test : Var → Bool) (xs : Vars) → all_of test xs ≡ true → (v : Var) → has xs v ≡ true → test v ≡ true
unfolding all_of has
all-has test [] e v h = absurd (false≢true h)
all-has test (x ∷ xs) e v h =
    let (a, b) = both (test x) _ e in
    or_cases (same x v) (has xs v) h (λ s. rw (← same-eq x v s) a) (λ r. all-has test xs b v r)

among : (zs xs : Vars) → all_of (has xs) zs ≡ true → Among zs xs
among zs xs e v h = all-has (has xs) zs e v h

free-among : (t : Term) (xs zs : Vars) → all_of (λ v. not (free t v) || has zs v) xs ≡ true → FreeAmong t xs zs
free-among t xs zs e v h f = rw f at (all-has (λ v. not (free t v) || has zs v) xs e v h)

not_free : (xs : Vars) (t : Term) → all_of (λ v. not (free t v)) xs ≡ true → NotFree xs t
not_free xs t e v h = not-true _ (all-has (λ v. not (free t v)) xs e v h)

-- ---- rule 1
join-forall : QntJoin (equal' (forall' (i ∷ []) (forall' (j ∷ []) (implies' (P i) (Q j)))) (forall' (i ∷ j ∷ []) (implies' (P i) (Q j))))
unfolding joined_once after same is_yes Var-discrete Sort-discrete ℕ_discrete
join-forall = joins bool true (i ∷ []) (j ∷ []) (i ∷ j ∷ []) (implies' (P i) (Q j)) refl

join-exists : QntJoin (equal' (exists' (i ∷ []) (exists' (j ∷ k ∷ []) (and' (P i ∷ Q j ∷ R k ∷ [])))) (exists' (i ∷ j ∷ k ∷ []) (and' (P i ∷ Q j ∷ R k ∷ []))))
unfolding joined_once after same is_yes Var-discrete Sort-discrete ℕ_discrete
join-exists = joins bool false (i ∷ []) (j ∷ k ∷ []) (i ∷ j ∷ k ∷ []) (and' (P i ∷ Q j ∷ R k ∷ [])) refl

-- "M join of x with y, x: right x y x accepted, x y refused 7. M x with x: right x accepted, x x refused."
join-keeps-later : QntJoin (equal' (forall' (i ∷ []) (forall' (j ∷ i ∷ []) p)) (forall' (i ∷ j ∷ i ∷ []) p))
unfolding joined_once after same is_yes Var-discrete Sort-discrete ℕ_discrete
join-keeps-later = joins bool true (i ∷ []) (j ∷ i ∷ []) (i ∷ j ∷ i ∷ []) p refl

join-drops-adjacent : QntJoin (equal' (forall' (i ∷ []) (forall' (i ∷ []) p)) (forall' (i ∷ []) p))
unfolding joined_once after same is_yes Var-discrete Sort-discrete ℕ_discrete
join-drops-adjacent = joins bool true (i ∷ []) (i ∷ []) (i ∷ []) p refl

join-list : {T : Term} → QntJoin T → (s : Sort) (b : Bool) (xs ys zs : Vars) (t : Term) → T ≡ equal s (binder b xs (binder b ys t)) (binder b zs t)
    → zs ≡ joined_once (xs ++ ys)
join-list (joins s' d as' bs cs u z) s b xs ys zs t e = cc

join-not-shorter : {T : Term} → QntJoin T → T ≡ equal' (forall' (i ∷ []) (forall' (j ∷ i ∷ []) p)) (forall' (i ∷ j ∷ []) p) → ⊥
unfolding joined_once after same is_yes Var-discrete Sort-discrete ℕ_discrete
join-not-shorter h e =
    let z : i ∷ j ∷ [] ≡ i ∷ j ∷ i ∷ [] = join-list h bool true (i ∷ []) (j ∷ i ∷ []) (i ∷ j ∷ []) p e in
    let never : ◌≡◌ {A = ℕ} 0 1 = cc in
    omega arith

join-not-twice : {T : Term} → QntJoin T → T ≡ equal' (forall' (i ∷ []) (forall' (i ∷ []) p)) (forall' (i ∷ i ∷ []) p) → ⊥
unfolding joined_once after same is_yes Var-discrete Sort-discrete ℕ_discrete
join-not-twice h e =
    let z : i ∷ i ∷ [] ≡ i ∷ [] = join-list h bool true (i ∷ []) (i ∷ []) (i ∷ i ∷ []) p e in
    let never : ◌≡◌ {A = ℕ} 0 1 = cc in
    omega arith

join-one-kind : {T : Term} → QntJoin T → T ≡ equal' (forall' (i ∷ []) (exists' (j ∷ []) p)) (forall' (i ∷ j ∷ []) p) → ⊥
join-one-kind (joins s b xs ys zs t z) e = let never : ◌≡◌ {A = ℕ} 0 1 = cc in omega arith

join-one-body : {T : Term} → QntJoin T → T ≡ equal' (forall' (i ∷ []) (forall' (j ∷ []) (P i))) (forall' (i ∷ j ∷ []) p) → ⊥
join-one-body (joins s b xs ys zs t z) e = let never : ◌≡◌ {A = ℕ} 0 1 = cc in omega arith

-- ---- rule 2
rm-one-unused : QntRmUnused (equal' (forall' (i ∷ j ∷ []) (P i)) (forall' (i ∷ []) (P i)))
unfolding all_of has free same is_yes Var-discrete Sort-discrete ℕ_discrete
rm-one-unused = removes bool true (i ∷ j ∷ []) (i ∷ []) (P i) (among (i ∷ []) (i ∷ j ∷ []) refl) (free-among (P i) (i ∷ j ∷ []) (i ∷ []) refl)

rm-two-unused : QntRmUnused (equal' (exists' (i ∷ j ∷ k ∷ []) (not' (P j))) (exists' (j ∷ []) (not' (P j))))
unfolding all_of has free same is_yes Var-discrete Sort-discrete ℕ_discrete
rm-two-unused =
    removes bool false (i ∷ j ∷ k ∷ []) (j ∷ []) (not' (P j)) (among (j ∷ []) (i ∷ j ∷ k ∷ []) refl)
    (free-among (not' (P j)) (i ∷ j ∷ k ∷ []) (j ∷ []) refl)

rm-all-unused : QntRmUnused (equal' (exists' (i ∷ []) (forall' (j ∷ []) (P j))) (forall' (j ∷ []) (P j)))
unfolding all_of has free same is_yes Var-discrete Sort-discrete ℕ_discrete
rm-all-unused = removes-all bool false (i ∷ []) (forall' (j ∷ []) (P j)) (not_free (i ∷ []) (forall' (j ∷ []) (P j)) refl)

-- a list with a variable that it should not have, or without one that it should have
among-fails : (zs xs zs' xs' : Vars) → Among zs xs → zs ≡ zs' → xs ≡ xs' → (v : Var) → has zs' v ≡ true → has xs' v ≡ false → ⊥
among-fails zs xs zs' xs' a e d v h n =
    let m : has zs v ≡ true = cc in
    let o : has xs v ≡ false = cc in
    not-both (a v m) o

free-fails : (t : Term) (xs zs : Vars) (t' : Term) (xs' zs' : Vars) → FreeAmong t xs zs → t ≡ t' → xs ≡ xs' → zs ≡ zs'
    → (v : Var) → has xs' v ≡ true → free t' v ≡ true → has zs' v ≡ false → ⊥
free-fails t xs zs t' xs' zs' a e d f v h l n =
    let m : has xs v ≡ true = cc in
    let o : free t v ≡ true = cc in
    let q : has zs v ≡ false = cc in
    not-both (a v m o) q

still-free : (xs : Vars) (t : Term) (xs' : Vars) (t' : Term) → NotFree xs t → xs ≡ xs' → t ≡ t' → (v : Var) → has xs' v ≡ true → free t' v ≡ true → ⊥
still-free xs t xs' t' n e d v h l =
    let m : has xs v ≡ true = cc in
    let o : free t v ≡ true = cc in
    not-both o (n v m)

rm-not-new : {T : Term} → QntRmUnused T → T ≡ equal' (forall' (i ∷ []) (P i)) (forall' (i ∷ j ∷ []) (P i)) → ⊥
unfolding has same is_yes Var-discrete Sort-discrete ℕ_discrete
rm-not-new (removes s b xs zs t a u) e = among-fails zs xs (i ∷ j ∷ []) (i ∷ []) a (cc) (cc) j refl refl
rm-not-new (removes-all s b xs t n) e = let never : ◌≡◌ {A = ℕ} 0 1 = cc in omega arith

rm-not-missing : {T : Term} → QntRmUnused T → T ≡ equal' (forall' (i ∷ j ∷ []) (P i)) (forall' (j ∷ []) (P i)) → ⊥
unfolding has free same is_yes Var-discrete Sort-discrete ℕ_discrete
rm-not-missing (removes s b xs zs t a u) e = free-fails t xs zs (P i) (i ∷ j ∷ []) (j ∷ []) u (cc) (cc) (cc) i refl refl refl
rm-not-missing (removes-all s b xs t n) e = let never : ◌≡◌ {A = ℕ} 0 1 = cc in omega arith

rm-not-used : {T : Term} → QntRmUnused T → T ≡ equal' (forall' (i ∷ []) (P i)) (P i) → ⊥
unfolding has free same is_yes Var-discrete Sort-discrete ℕ_discrete
rm-not-used (removes s b xs zs t a u) e = let never : ◌≡◌ {A = ℕ} 0 1 = cc in omega arith
rm-not-used (removes-all s b xs t n) e = still-free xs t (i ∷ []) (P i) n (cc) (cc) i refl refl

rm-one-kind : {T : Term} → QntRmUnused T → T ≡ equal' (forall' (i ∷ []) (P i)) (exists' (i ∷ []) (P i)) → ⊥
rm-one-kind (removes s b xs zs t a u) e = let never : ◌≡◌ {A = ℕ} 0 1 = cc in omega arith
rm-one-kind (removes-all s b xs t n) e = let never : ◌≡◌ {A = ℕ} 0 1 = cc in omega arith

rm-one-body : {T : Term} → QntRmUnused T → T ≡ equal' (forall' (i ∷ []) (P i)) (forall' (i ∷ []) p) → ⊥
rm-one-body (removes s b xs zs t a u) e = let never : ◌≡◌ {A = ℕ} 0 1 = cc in omega arith
rm-one-body (removes-all s b xs t n) e = let never : ◌≡◌ {A = ℕ} 0 1 = cc in omega arith

-- ---- rule 3
-- the variables and the clause of a step, by computation; d is the clause
cnf-clause-of-implies : QntCnf (implies'' (forall' (i ∷ []) (implies' (P i) (Q i))) (forall' (i ∷ []) (or' (not' (P i) ∷ Q i ∷ []))))
unfolding all_of has free same is_yes Var-discrete Sort-discrete ℕ_discrete skeleton left_bool form_of implies_of stated
cnf-clause-of-implies =
    clausifies bool bool (i ∷ []) (i ∷ []) (implies' (P i) (Q i)) (or' (not' (P i) ∷ Q i ∷ [])) _ (Memᴰ.head refl) (bool, refl)
    (among (i ∷ []) (i ∷ []) refl) (free-among (or' (not' (P i) ∷ Q i ∷ [])) (i ∷ []) (i ∷ []) refl)

cnf-clause-of-and : QntCnf (implies'' (forall' (i ∷ []) (and' (P i ∷ Q i ∷ []))) (forall' (i ∷ []) (Q i)))
unfolding all_of has free same is_yes Var-discrete Sort-discrete ℕ_discrete skeleton left_bool form_of stated
cnf-clause-of-and =
    clausifies bool bool (i ∷ []) (i ∷ []) (and' (P i ∷ Q i ∷ [])) (Q i) _ (Memᴰ.tail (Memᴰ.head refl)) refl (among (i ∷ []) (i ∷ []) refl)
    (free-among (Q i) (i ∷ []) (i ∷ []) refl)

cnf-clause-of-equals : QntCnf (implies'' (forall' (i ∷ j ∷ []) (equals (P i ∷ Q j ∷ []))) (forall' (j ∷ i ∷ []) (or' (not' (Q j) ∷ P i ∷ []))))
unfolding all_of has free same is_yes Var-discrete Sort-discrete ℕ_discrete skeleton left_bool form_of iff_of stated
cnf-clause-of-equals =
    clausifies bool bool (i ∷ j ∷ []) (j ∷ i ∷ []) (equals (P i ∷ Q j ∷ [])) (or' (not' (Q j) ∷ P i ∷ [])) _ (Memᴰ.tail (Memᴰ.head refl)) (bool, refl)
    (among (j ∷ i ∷ []) (i ∷ j ∷ []) refl) (free-among (or' (not' (Q j) ∷ P i ∷ [])) (i ∷ j ∷ []) (j ∷ i ∷ []) refl)

cnf-clause-of-ite : QntCnf (implies'' (forall' (i ∷ []) (ite' (P i) (Q i) (R i))) (forall' (i ∷ []) (or' (P i ∷ R i ∷ []))))
unfolding all_of has free same is_yes Var-discrete Sort-discrete ℕ_discrete skeleton left_bool form_of ite_of stated
cnf-clause-of-ite =
    clausifies bool bool (i ∷ []) (i ∷ []) (ite' (P i) (Q i) (R i)) (or' (P i ∷ R i ∷ [])) _ (Memᴰ.tail (Memᴰ.head refl)) (bool, refl)
    (among (i ∷ []) (i ∷ []) refl) (free-among (or' (P i ∷ R i ∷ [])) (i ∷ []) (i ∷ []) refl)

abbrev inner : Term
inner = or' (P i ∷ forall' (j ∷ []) (and' (Q j ∷ R i ∷ [])) ∷ [])

cnf-clause-with-inner-forall : QntCnf (implies'' (forall' (i ∷ []) inner) (forall' (i ∷ j ∷ []) (or' (P i ∷ Q j ∷ []))))
unfolding all_of has free same is_yes Var-discrete Sort-discrete ℕ_discrete skeleton left_bool form_of stated
cnf-clause-with-inner-forall =
    clausifies bool bool (i ∷ []) (i ∷ j ∷ []) inner (or' (P i ∷ Q j ∷ [])) _ (Memᴰ.head refl) (bool, refl)
    (among (i ∷ j ∷ []) (i ∷ j ∷ []) refl) (free-among (or' (P i ∷ Q j ∷ [])) (i ∷ j ∷ []) (i ∷ j ∷ []) refl)

cnf-clause-without-inner-variable : QntCnf (implies'' (forall' (i ∷ []) inner) (forall' (i ∷ []) (or' (P i ∷ R i ∷ []))))
unfolding all_of has free same is_yes Var-discrete Sort-discrete ℕ_discrete skeleton left_bool form_of stated
cnf-clause-without-inner-variable =
    clausifies bool bool (i ∷ []) (i ∷ []) inner (or' (P i ∷ R i ∷ [])) _ (Memᴰ.tail (Memᴰ.head refl)) (bool, refl)
    (among (i ∷ []) (i ∷ j ∷ []) refl) (free-among (or' (P i ∷ R i ∷ [])) (i ∷ j ∷ []) (i ∷ []) refl)

cnf-clause-with-negated-exists : QntCnf (implies'' (forall' (i ∷ []) (not' (exists' (j ∷ []) (and' (P i ∷ Q j ∷ []))))) (forall' (i ∷ j ∷ []) (or' (not' (P i) ∷ not' (Q j) ∷ []))))
unfolding all_of has free same is_yes Var-discrete Sort-discrete ℕ_discrete skeleton left_bool form_of not_of stated
cnf-clause-with-negated-exists =
    clausifies bool bool (i ∷ []) (i ∷ j ∷ []) (not' (exists' (j ∷ []) (and' (P i ∷ Q j ∷ [])))) (or' (not' (P i) ∷ not' (Q j) ∷ [])) _ (Memᴰ.head refl) (bool, refl)
    (among (i ∷ j ∷ []) (i ∷ j ∷ []) refl) (free-among (or' (not' (P i) ∷ not' (Q j) ∷ [])) (i ∷ j ∷ []) (i ∷ j ∷ []) refl)

cnf-clause-with-exists : QntCnf (implies'' (forall' (i ∷ []) (implies' (P i) (exists' (j ∷ []) (R j)))) (forall' (i ∷ []) (or' (not' (P i) ∷ exists' (j ∷ []) (R j) ∷ []))))
unfolding all_of has free same is_yes Var-discrete Sort-discrete ℕ_discrete skeleton left_bool form_of implies_of stated
cnf-clause-with-exists =
    clausifies bool bool (i ∷ []) (i ∷ []) (implies' (P i) (exists' (j ∷ []) (R j))) (or' (not' (P i) ∷ exists' (j ∷ []) (R j) ∷ [])) _ (Memᴰ.head refl) (bool, refl)
    (among (i ∷ []) (i ∷ []) refl) (free-among (or' (not' (P i) ∷ exists' (j ∷ []) (R j) ∷ [])) (i ∷ []) (i ∷ []) refl)

-- the clauses of `(and p p)` are p and p
cnf-not-absent : {T : Term} → QntCnf T → T ≡ implies'' (forall' (i ∷ []) (and' (p ∷ p ∷ []))) (forall' (i ∷ []) (P i)) → ⊥
unfolding skeleton left_bool form_of stated
cnf-not-absent (clausifies s s' xs zs t c d m is a u) e =
    let b : t ≡ and' (p ∷ p ∷ []) = cc in
    by-clause (rw b at m)
  where
    other : p ≡ P i → ⊥
    other z = let never : ◌≡◌ {A = ℕ} 0 1 = cc in omega arith

    by-clause : Memᴰ d ((lit true p ∷ []) ∷ (lit true p ∷ []) ∷ []) → ⊥
    by-clause (Memᴰ.head o) = let w : c ≡ p = rw o at is in other (sym w ∙ (cc))
    by-clause (Memᴰ.tail (Memᴰ.head o)) = let w : c ≡ p = rw o at is in other (sym w ∙ (cc))
    by-clause (Memᴰ.tail (Memᴰ.tail m')) = elim m' [ ]

cnf-not-new : {T : Term} → QntCnf T → T ≡ implies'' (forall' (i ∷ []) (P i)) (forall' (i ∷ j ∷ []) (P i)) → ⊥
unfolding has same is_yes Var-discrete Sort-discrete ℕ_discrete skeleton
cnf-not-new (clausifies s s' xs zs t c d m is a u) e =
    let l : xs ≡ i ∷ [] = cc in
    let b : t ≡ P i = cc in
    among-fails zs (with_taken xs t) (i ∷ j ∷ []) (i ∷ []) a (cc) (rw (l, b)) j refl refl

-- j is bound by an exists, and not taken out
cnf-not-through-exists : {T : Term} → QntCnf T → T ≡ implies'' (forall' (i ∷ []) (exists' (j ∷ []) (Q j))) (forall' (i ∷ j ∷ []) (Q j)) → ⊥
unfolding has same is_yes Var-discrete Sort-discrete ℕ_discrete skeleton
cnf-not-through-exists (clausifies s s' xs zs t c d m is a u) e =
    let l : xs ≡ i ∷ [] = cc in
    let b : t ≡ exists' (j ∷ []) (Q j) = cc in
    among-fails zs (with_taken xs t) (i ∷ j ∷ []) (i ∷ []) a (cc) (rw (l, b)) j refl refl

cnf-not-missing : {T : Term} → QntCnf T → T ≡ implies'' (forall' (i ∷ []) (P i)) (forall' [] (P i)) → ⊥
unfolding has free same is_yes Var-discrete Sort-discrete ℕ_discrete skeleton
cnf-not-missing (clausifies s s' xs zs t c d m is a u) e =
    let l : xs ≡ i ∷ [] = cc in
    let b : t ≡ P i = cc in
    free-fails c (with_taken xs t) zs (P i) (i ∷ []) [] u (cc) (rw (l, b)) (cc) i refl refl refl

cnf-not-exists : {T : Term} → QntCnf T → T ≡ implies'' (exists' (i ∷ []) (P i)) (forall' (i ∷ []) (P i)) → ⊥
cnf-not-exists (clausifies s s' xs zs t c d m is a u) e = let never : ◌≡◌ {A = ℕ} 0 1 = cc in omega arith

-- ---- rule 4
distribute-forall-over-and : MiniscopeDistribute (equal' (forall' (i ∷ []) (and' (P i ∷ Q i ∷ p ∷ [])))
    (and' (forall' (i ∷ []) (P i) ∷ forall' (i ∷ []) (Q i) ∷ forall' (i ∷ []) p ∷ [])))
distribute-forall-over-and = distributes bool bool bool true (i ∷ []) (operands (P i ∷ Q i ∷ p ∷ []))

distribute-exists-over-or : MiniscopeDistribute (equal' (exists' (i ∷ j ∷ []) (or' (P i ∷ Q j ∷ []))) (or' (exists' (i ∷ j ∷ []) (P i) ∷ exists' (i ∷ j ∷ []) (Q j) ∷ [])))
distribute-exists-over-or = distributes bool bool bool false (i ∷ j ∷ []) (operands (P i ∷ Q j ∷ []))

distribute-one-list : {T : Term} → MiniscopeDistribute T → T ≡ equal' (forall' (i ∷ []) (and' (p ∷ []))) (and' (forall' [] p ∷ [])) → ⊥
distribute-one-list (distributes s s' s'' b xs tnil) e = let never : ◌≡◌ {A = ℕ} 0 1 = cc in omega arith
distribute-one-list (distributes s s' s'' b xs (tcons t ts)) e = let never : ◌≡◌ {A = ℕ} 0 1 = cc in omega arith

distribute-not-bare : {T : Term} → MiniscopeDistribute T → T ≡ equal' (forall' (i ∷ []) (and' (p ∷ []))) (and' (p ∷ [])) → ⊥
distribute-not-bare (distributes s s' s'' b xs tnil) e = let never : ◌≡◌ {A = ℕ} 0 1 = cc in omega arith
distribute-not-bare (distributes s s' s'' b xs (tcons t ts)) e = let never : ◌≡◌ {A = ℕ} 0 1 = cc in omega arith

distribute-one-body : {T : Term} → MiniscopeDistribute T → T ≡ equal' (forall' (i ∷ []) (and' (p ∷ []))) (and' (forall' (i ∷ []) (P i) ∷ [])) → ⊥
distribute-one-body (distributes s s' s'' b xs tnil) e = let never : ◌≡◌ {A = ℕ} 0 1 = cc in omega arith
distribute-one-body (distributes s s' s'' b xs (tcons t ts)) e = let never : ◌≡◌ {A = ℕ} 0 1 = cc in omega arith

distribute-as-many : {T : Term} → MiniscopeDistribute T → T ≡ equal' (forall' (i ∷ []) (and' (p ∷ []))) (and' []) → ⊥
distribute-as-many (distributes s s' s'' b xs tnil) e = let never : ◌≡◌ {A = ℕ} 0 1 = cc in omega arith
distribute-as-many (distributes s s' s'' b xs (tcons t ts)) e = let never : ◌≡◌ {A = ℕ} 0 1 = cc in omega arith

-- forall goes with `and`
distribute-not-forall-over-or : {T : Term} → MiniscopeDistribute T → T ≡ equal' (forall' (i ∷ []) (or' [])) (or' []) → ⊥
distribute-not-forall-over-or (distributes s s' s'' b xs ts) e =
    let kind : b ≡ true = cc in
    let tag : connective_tag b ≡ 37 = cc in
    let z : ◌≡◌ {A = ℕ} 36 37 = rw kind at tag in
    omega arith

-- ---- rule 5
split-forall-over-or : MiniscopeSplit (equal' (forall' (i ∷ j ∷ []) (or' (P i ∷ Q j ∷ p ∷ []))) (or' (forall' (i ∷ []) (P i) ∷ forall' (j ∷ []) (Q j) ∷ p ∷ [])))
unfolding all_of has free without same is_yes Var-discrete Sort-discrete ℕ_discrete
split-forall-over-or =
    splits bool bool bool true (i ∷ j ∷ []) (operands (P i ∷ Q j ∷ p ∷ [])) (operands (forall' (i ∷ []) (P i) ∷ forall' (j ∷ []) (Q j) ∷ p ∷ []))
    (under (i ∷ []) (i ∷ j ∷ []) (j ∷ []) (P i) _ _ (next i [] (i ∷ j ∷ []) (j ∷ []) refl (nothing (j ∷ [])))
    (under (j ∷ []) (j ∷ []) [] (Q j) _ _ (next j [] (j ∷ []) [] refl (nothing []))
    (as-it-is [] p tnil tnil (ends []))))
    (not_free (i ∷ j ∷ []) (or' (forall' (i ∷ []) (P i) ∷ forall' (j ∷ []) (Q j) ∷ p ∷ [])) refl)

-- `(= j k)` of the example
abbrev same-value : Term
same-value = equals (var j ∷ var k ∷ [])

split-exists-over-and : MiniscopeSplit (equal' (exists' (i ∷ j ∷ k ∷ []) (and' (P i ∷ same-value ∷ p ∷ []))) (and' (exists' (i ∷ []) (P i) ∷ exists' (j ∷ k ∷ []) same-value ∷ p ∷ [])))
unfolding all_of has free without same is_yes Var-discrete Sort-discrete ℕ_discrete
split-exists-over-and =
    splits bool bool bool false (i ∷ j ∷ k ∷ []) (operands (P i ∷ same-value ∷ p ∷ [])) (operands (exists' (i ∷ []) (P i) ∷ exists' (j ∷ k ∷ []) same-value ∷ p ∷ []))
    (under (i ∷ []) (i ∷ j ∷ k ∷ []) (j ∷ k ∷ []) (P i) _ _ (next i [] (i ∷ j ∷ k ∷ []) (j ∷ k ∷ []) refl (nothing (j ∷ k ∷ [])))
    (under (j ∷ k ∷ []) (j ∷ k ∷ []) [] same-value _ _ (next j (k ∷ []) (j ∷ k ∷ []) [] refl (next k [] (k ∷ []) [] refl (nothing [])))
    (as-it-is [] p tnil tnil (ends []))))
    (not_free (i ∷ j ∷ k ∷ []) (and' (exists' (i ∷ []) (P i) ∷ exists' (j ∷ k ∷ []) same-value ∷ p ∷ [])) refl)

-- one variable is used of a list without it
uses-fails : {ys rest left : Vars} → Uses ys rest left → (v : Var) → ys ≡ v ∷ [] → (rest' : Vars) → rest ≡ rest' → has rest' v ≡ false → ⊥
uses-fails (nothing rest) v e rest' d n = let never : ◌≡◌ {A = ℕ} 0 1 = cc in omega arith
uses-fails (next y ys rest left h u) v e rest' d n =
    let o : has rest y ≡ false = cc in
    not-both h o

split-new : {b : Bool} {rest : Vars} {ts us : Terms} → Split b rest ts us → (v : Var) (rest' : Vars) → rest ≡ rest' → has rest' v ≡ false
    → ts ≡ operands (P i ∷ []) → us ≡ operands (forall' (v ∷ []) (P i) ∷ []) → ⊥
split-new (ends rest) v rest' d n e f = let never : ◌≡◌ {A = ℕ} 0 1 = cc in omega arith
split-new (as-it-is rest t ts us s) v rest' d n e f = let never : ◌≡◌ {A = ℕ} 0 1 = cc in omega arith
split-new (under ys rest left t ts us u s) v rest' d n e f = uses-fails u v (cc) rest' d n

split-not-new : {T : Term} → MiniscopeSplit T → T ≡ equal' (forall' (i ∷ []) (or' (P i ∷ []))) (or' (forall' (j ∷ []) (P i) ∷ [])) → ⊥
unfolding has same is_yes Var-discrete Sort-discrete ℕ_discrete
split-not-new (splits s s' s'' b xs ts us d n) e = split-new d j (i ∷ []) (cc) refl (cc) (cc)

uses-up : {ys rest left : Vars} → Uses ys rest left → ys ≡ i ∷ [] → rest ≡ i ∷ [] → left ≡ []
unfolding without same is_yes Var-discrete Sort-discrete ℕ_discrete
uses-up (nothing rest) e d = cc
uses-up (next y [] rest left h (nothing r)) e d = let z : y ≡ i = cc in rw (z, d)
uses-up (next y (x ∷ ys) rest left h u) e d = cc

split-twice : {b : Bool} {rest : Vars} {ts us : Terms} → Split b rest ts us → rest ≡ i ∷ [] → ts ≡ operands (P i ∷ P i ∷ [])
    → us ≡ operands (forall' (i ∷ []) (P i) ∷ forall' (i ∷ []) (P i) ∷ []) → ⊥
unfolding has
split-twice (ends rest) d e f = let never : ◌≡◌ {A = ℕ} 0 1 = cc in omega arith
split-twice (as-it-is rest t ts us s) d e f = let never : ◌≡◌ {A = ℕ} 0 1 = cc in omega arith
split-twice (under ys rest left t ts us u s) d e f = split-new s i [] (uses-up u (cc) d) refl (cc) (cc)

split-not-twice : {T : Term} → MiniscopeSplit T → T ≡ equal' (forall' (i ∷ []) (or' (P i ∷ P i ∷ []))) (or' (forall' (i ∷ []) (P i) ∷ forall' (i ∷ []) (P i) ∷ [])) → ⊥
split-not-twice (splits s s' s'' b xs ts us d n) e = split-twice d (cc) (cc) (cc)

split-not-free : {T : Term} → MiniscopeSplit T → T ≡ equal' (forall' (i ∷ []) (or' (P i ∷ []))) (or' (P i ∷ [])) → ⊥
unfolding has free same is_yes Var-discrete Sort-discrete ℕ_discrete
split-not-free (splits s s' s'' b xs ts us d n) e = still-free xs (op (connective_tag (not b)) s'' us) (i ∷ []) (or' (P i ∷ [])) n (cc) (cc) i refl refl

-- forall goes with `or`
split-not-forall-over-and : {T : Term} → MiniscopeSplit T → T ≡ equal' (forall' [] (and' [])) (and' []) → ⊥
split-not-forall-over-and (splits s s' s'' b xs ts us d n) e =
    let kind : b ≡ true = cc in
    let tag : connective_tag (not b) ≡ 36 = cc in
    let z : ◌≡◌ {A = ℕ} 37 36 = rw kind at tag in
    omega arith

-- ---- rule 6
ite-forall-over-ite : MiniscopeIte (equal' (forall' (i ∷ []) (ite' p (P i) (Q i))) (ite' p (forall' (i ∷ []) (P i)) (forall' (i ∷ []) (Q i))))
unfolding all_of has free same is_yes Var-discrete Sort-discrete ℕ_discrete
ite-forall-over-ite = splits-ite bool bool bool (i ∷ []) p (P i) (Q i) (not_free (i ∷ []) p refl)

ite-not-free : {T : Term} → MiniscopeIte T → T ≡ equal' (forall' (i ∷ []) (ite' (P i) p p)) (ite' (P i) (forall' (i ∷ []) p) (forall' (i ∷ []) p)) → ⊥
unfolding has free same is_yes Var-discrete Sort-discrete ℕ_discrete
ite-not-free (splits-ite s s' s'' xs q t u n) e = still-free xs q (i ∷ []) (P i) n (cc) (cc) i refl refl

ite-one-list : {T : Term} → MiniscopeIte T → T ≡ equal' (forall' (i ∷ []) (ite' p p p)) (ite' p (forall' (i ∷ []) p) (forall' [] p)) → ⊥
ite-one-list (splits-ite s s' s'' xs q t u n) e = let never : ◌≡◌ {A = ℕ} 0 1 = cc in omega arith

ite-one-test : {T : Term} → MiniscopeIte T → T ≡ equal' (forall' [] (ite' p p p)) (ite' (P i) (forall' [] p) (forall' [] p)) → ⊥
ite-one-test (splits-ite s s' s'' xs q t u n) e = let never : ◌≡◌ {A = ℕ} 0 1 = cc in omega arith

ite-not-exists : {T : Term} → MiniscopeIte T → T ≡ equal' (exists' (i ∷ []) (ite' p p p)) (ite' p (exists' (i ∷ []) p) (exists' (i ∷ []) p)) → ⊥
ite-not-exists (splits-ite s s' s'' xs q t u n) e = let never : ◌≡◌ {A = ℕ} 0 1 = cc in omega arith
