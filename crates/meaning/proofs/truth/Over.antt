-- What a quantifier says, without the order of its list: forall (b is true) is true where its body is true at every assignment that differs
-- at most in the list's variables, and exists (b is false) false where its body is false at every such assignment.
--     over-elim, over-intro     the two halves
-- Later proofs use these and `mix`, and open neither `over` nor `assign`.
-- Assumes nothing.
use mathlib.Core.Path.{◌≡◌, refl, sym, ap, ap₂, subst, ◌∙◌, fun_ext, subst_refl}
use mathlib.Core.Bool.{Bool, true, false, ◌||◌, cond, or_assoc, true≢false, false≢true}
use mathlib.Core.HLevel.{hedberg}
use mathlib.Core.List.{List, [], ◌∷◌, ◌++◌, Memᴰ}
use Rattle.meaning.specs.Sort.{Sort}
use Rattle.meaning.specs.Term.{Var, Vars, Var-discrete}
use Rattle.meaning.specs.FreeTree.{is_yes, same, has}
use Rattle.meaning.specs.Truth.{Assignment, Reading, value_at, assign, and_or, among, over}

-- ---- Booleans
pub bool_cases {ℓ} : (b : Bool) {C : Type ℓ} → (b ≡ true → C) → (b ≡ false → C) → C
bool_cases true f g = f refl
bool_cases false f g = g refl

pub not-both : {b : Bool} → b ≡ true → b ≡ false → ⊥
not-both p q = true≢false (sym p ∙ q)

-- two Booleans that have the value b in the same cases are equal
pub same-at : (b x y : Bool) → (x ≡ b → y ≡ b) → (y ≡ b → x ≡ b) → x ≡ y
same-at true true y f g = sym (f refl)
same-at true false true f g = g refl
same-at true false false f g = refl
same-at false true true f g = refl
same-at false true false f g = g refl
same-at false false y f g = sym (f refl)

-- an `and` that is true, an `or` that is false: so are its parts
pub and_or-intro : (b x y : Bool) → x ≡ b → y ≡ b → and_or b x y ≡ b
and_or-intro true true y p q = q
and_or-intro true false y p q = p
and_or-intro false true y p q = p
and_or-intro false false y p q = q

pub and_or-left : (b x y : Bool) → and_or b x y ≡ b → x ≡ b
and_or-left true true y e = refl
and_or-left true false y e = e
and_or-left false true y e = e
and_or-left false false y e = refl

pub and_or-right : (b x y : Bool) → and_or b x y ≡ b → y ≡ b
and_or-right true true y e = e
and_or-right true false y e = absurd (false≢true e)
and_or-right false true y e = absurd (true≢false e)
and_or-right false false y e = e

pub or_left : (x y : Bool) → x ≡ true → (x || y) ≡ true
or_left true y e = refl
or_left false y e = absurd (false≢true e)

pub or_right : (x y : Bool) → y ≡ true → (x || y) ≡ true
or_right true y e = refl
or_right false y e = e

pub or_cases {ℓ} : (x y : Bool) {C : Type ℓ} → (x || y) ≡ true → (x ≡ true → C) → (y ≡ true → C) → C
or_cases true y e f g = f refl
or_cases false y e f g = g e

-- ---- variables
yes_true : {A : Type 0} (d : Dec A) → is_yes d ≡ true → A
unfolding is_yes
yes_true (yes a) e = a
yes_true (no n) e = absurd (false≢true e)

true-yes : {A : Type 0} (d : Dec A) → A → is_yes d ≡ true
unfolding is_yes
true-yes (yes a) x = refl
true-yes (no n) x = absurd (n x)

pub same-eq : (u v : Var) → same u v ≡ true → u ≡ v
unfolding same
same-eq u v e = yes_true (Var-discrete u v) e

pub same_refl : (u : Var) → same u u ≡ true
unfolding same
same_refl u = true-yes (Var-discrete u u) refl

pub same_not : (u v : Var) → same u v ≡ false → u ≡ v → ⊥
same_not u v e p = not-both (ap (same u) (sym p) ∙ same_refl u) e

-- a list that holds all that another holds
abbrev pub Subset : Vars → Vars → Type 0
Subset us vs = (v : Var) → has us v ≡ true → has vs v ≡ true

pub outside : (us vs : Vars) → Subset us vs → (v : Var) → has vs v ≡ false → has us v ≡ false
outside us vs h v e = bool_cases (has us v) (λ q. absurd (not-both (h v q) e)) (λ q. q)

pub has-append : (us vs : Vars) (v : Var) → has (us ++ vs) v ≡ (has us v || has vs v)
unfolding has
has-append [] vs v = refl
has-append (u ∷ us) vs v = rw (has-append us vs v, or_assoc (same u v) (has us v) (has vs v))

-- ---- `assign`
module _ (Value : Sort → Type 0) where
  value_same : (u : Var) (d : Dec (u ≡ u)) (x y : Value u.sort) → value_at Value u u d x y ≡ x
  unfolding value_at
  value_same u (yes e) x y =
      ap (λ (q : u ≡ u). subst (λ (w : Var). Value w.sort) q x) (hedberg Var-discrete u u e refl)
      ∙ subst_refl (λ (w : Var). Value w.sort) {x = u} x
  value_same u (no n) x y = absurd (n refl)

  value-other : (u v : Var) (d : Dec (u ≡ v)) (x : Value u.sort) (y : Value v.sort) → (u ≡ v → ⊥) → value_at Value u v d x y ≡ y
  unfolding value_at
  value-other u v (yes e) x y n = absurd (n e)
  value-other u v (no m) x y n = refl

  pub assign-same : (ρ : Assignment Value) (u : Var) (x : Value u.sort) → assign Value ρ u x u ≡ x
  unfolding assign
  assign-same ρ u x = value_same u (Var-discrete u u) x (ρ u)

  pub assign_other : (ρ : Assignment Value) (u v : Var) (x : Value u.sort) → (u ≡ v → ⊥) → assign Value ρ u x v ≡ ρ v
  unfolding assign
  assign_other ρ u v x n = value-other u v (Var-discrete u v) x (ρ v) n

  -- σ differs from ρ at most in the variables of vs
  abbrev pub Within : Vars → Assignment Value → Assignment Value → Type 0
  Within vs ρ σ = (v : Var) → has vs v ≡ false → σ v ≡ ρ v

  -- σ's values in vs, ρ's elsewhere
  unfoldable pub mix : Vars → Assignment Value → Assignment Value → Assignment Value
  mix vs σ ρ v = cond (has vs v) (σ v) (ρ v)

  pub mix-in : (vs : Vars) (σ ρ : Assignment Value) (v : Var) → has vs v ≡ true → mix vs σ ρ v ≡ σ v
  unfolding mix
  mix-in vs σ ρ v e = ap (λ (b : Bool). cond b (σ v) (ρ v)) e

  pub mix-out : (vs : Vars) (σ ρ : Assignment Value) → Within vs ρ (mix vs σ ρ)
  unfolding mix
  mix-out vs σ ρ v e = ap (λ (b : Bool). cond b (σ v) (ρ v)) e

  -- one variable of the list after another
  within-assign : (u : Var) (vs : Vars) (ρ σ : Assignment Value) → Within (u ∷ vs) ρ σ → Within vs (assign Value ρ u (σ u)) σ
  unfolding has
  within-assign u vs ρ σ w v e =
      bool_cases (same u v)
      (λ q. subst (λ (t : Var). σ t ≡ assign Value ρ u (σ u) t) (same-eq u v q) (sym (assign-same ρ u (σ u))))
      (λ q. w v (ap₂ ◌||◌ q e) ∙ sym (assign_other ρ u v (σ u) (same_not u v q)))

  within_more : (u : Var) (vs : Vars) (ρ σ : Assignment Value) (x : Value u.sort)
      → Within vs (assign Value ρ u x) σ → Within (u ∷ vs) ρ σ
  unfolding has
  within_more u vs ρ σ x w v e =
      w v (and_or-right false (same u v) (has vs v) e) ∙ assign_other ρ u v x (same_not u v (and_or-left false (same u v) (has vs v) e))

-- ---- `among`
among-elim : {A : Type 0} (b : Bool) (xs : List A) (p : A → Bool) (x : A) → Memᴰ x xs → among b xs p ≡ b → p x ≡ b
among-elim b (y ∷ xs) p x (Memᴰ.head q) e = ap p q ∙ and_or-left b (p y) (among b xs p) e
among-elim b (y ∷ xs) p x (Memᴰ.tail m) e = among-elim b xs p x m (and_or-right b (p y) (among b xs p) e)
among-elim {A = A} b [] p x x4 e = elim x4 [ ]

among-intro : {A : Type 0} (b : Bool) (xs : List A) (p : A → Bool) → ((x : A) → p x ≡ b) → among b xs p ≡ b
among-intro b [] p h = refl
among-intro b (x ∷ xs) p h = and_or-intro b (p x) (among b xs p) (h x) (among-intro b xs p h)

-- ---- `over`
module _ (R : Reading) where
  pub over-elim : (b : Bool) (vs : Vars) (p : Assignment R.Value → Bool) (ρ σ : Assignment R.Value) → Within R.Value vs ρ σ
      → over R b vs p ρ ≡ b → p σ ≡ b
  unfolding over has
  over-elim b [] p ρ σ w e = ap p (fun_ext (λ v. w v refl)) ∙ e
  over-elim b (u ∷ vs) p ρ σ w e =
      over-elim b vs p (assign R.Value ρ u (σ u)) σ (within-assign R.Value u vs ρ σ w)
      (among-elim b (R.values u.sort) (λ x. over R b vs p (assign R.Value ρ u x)) (σ u) (R.listed u.sort (σ u)) e)

  pub over-intro : (b : Bool) (vs : Vars) (p : Assignment R.Value → Bool) (ρ : Assignment R.Value)
      → ((σ : Assignment R.Value) → Within R.Value vs ρ σ → p σ ≡ b) → over R b vs p ρ ≡ b
  unfolding over
  over-intro b [] p ρ h = h ρ (λ v e. refl)
  over-intro b (u ∷ vs) p ρ h =
      among-intro b (R.values u.sort) (λ x. over R b vs p (assign R.Value ρ u x))
      (λ x. over-intro b vs p (assign R.Value ρ u x) (λ σ w. h σ (within_more R.Value u vs ρ σ x w)))
