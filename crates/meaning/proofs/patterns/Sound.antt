-- What the rules' proofs share.
--     equality-true          an equality is true where its sides have one value
--     over_agree             quantifiers over bodies that agree
--     over-fewer             a quantifier over fewer variables, if the body rests on none of those that go
--     over-append            a quantifier under one of its kind
--     term-still, terms-still     terms in which no variable of a list is free, where those take other values
-- Assumes nothing.
use mathlib.Core.Path.{◌≡◌, refl, sym, ◌∙◌}
use mathlib.Core.Bool.{Bool, true, false, beq, decide_iff}
use mathlib.Core.List.{[], ◌∷◌, ◌++◌}
use Rattle.meaning.specs.Sort.{Sort, Sort-discrete, bool}
use Rattle.meaning.specs.Term.{Var, Vars, Term, Terms, op, tnil, tcons, stated}
use Rattle.meaning.specs.FreeTree.{has, free, frees}
use Rattle.meaning.specs.Skeleton.{skeleton, skeletons, left_bool, iff_of, form_of}
use Rattle.meaning.specs.Truth.{Assignment, Reading, Local, assign, among, over, truths, True}
use Rattle.meaning.proofs.truth.Over.{bool_cases, not-both, same-at, Subset, outside, Within, mix, mix-in, mix-out, over-elim, over-intro}
use Rattle.meaning.proofs.truth.Leaves.{skeletons-leaves}
use Rattle.meaning.proofs.truth.Coincide.{Rests, coincides, frees-skeletons, term-coincide}

pub beq_same : (x : Bool) → beq x x ≡ true
beq_same true = refl
beq_same false = refl

pub beq-eq : (x y : Bool) → beq x y ≡ true → x ≡ y
beq-eq true true e = refl
beq-eq true false e = sym e
beq-eq false true e = e
beq-eq false false e = refl

-- F marks no variable of vs
abbrev pub Unfree : Vars → (Var → Bool) → Type 0
Unfree vs F = (v : Var) → has vs v ≡ true → F v ≡ false

module _ (R : Reading) where
  abbrev A : Type 0
  A = Assignment R.Value

  -- "`=` where both are true or both false", with a left side of sort Bool
  pub equality-true : (s : Sort) (l r : Term) (ρ : A) → stated l ≡ bool → True R l ρ ≡ True R r ρ → True R (op 39 s (tcons l (tcons r tnil))) ρ ≡ true
  unfolding True skeleton form_of left_bool iff_of
  equality-true s l r ρ b e = rw ((decide_iff (Sort-discrete (stated l) bool)).1 b, e) (beq_same (True R r ρ))

  pub over_agree : (b : Bool) (vs : Vars) (p q : A → Bool) (ρ : A) → ((σ : A) → Within R.Value vs ρ σ → p σ ≡ q σ) → over R b vs p ρ ≡ over R b vs q ρ
  over_agree b vs p q ρ h =
      same-at b _ _ (λ e. over-intro R b vs q ρ (λ σ w. sym (h σ w) ∙ over-elim R b vs p ρ σ w e))
      (λ e. over-intro R b vs p ρ (λ σ w. h σ w ∙ over-elim R b vs q ρ σ w e))

  -- ls has the variables of rs and others, and the body rests on none of the others
  module _ (b : Bool) (ls rs : Vars) (p : A → Bool) (F : Var → Bool) (rests : Rests R F p) (fewer : Subset rs ls)
      (unused : (v : Var) → has ls v ≡ true → has rs v ≡ false → F v ≡ false) (ρ : A) where
    still : (σ : A) → Within R.Value ls ρ σ → (v : Var) → F v ≡ true → σ v ≡ mix R.Value rs σ ρ v
    still σ w v f =
        bool_cases (has rs v) (λ q. sym (mix-in R.Value rs σ ρ v q))
        (λ q. bool_cases (has ls v) (λ l. absurd (not-both f (unused v l q))) (λ l. w v l ∙ sym (mix-out R.Value rs σ ρ v q)))

    pub over-fewer : over R b ls p ρ ≡ over R b rs p ρ
    over-fewer =
        same-at b _ _ (λ e. over-intro R b rs p ρ (λ σ w. over-elim R b ls p ρ σ (λ v q. w v (outside rs ls fewer v q)) e))
        (λ e. over-intro R b ls p ρ
        (λ σ w. rests σ (mix R.Value rs σ ρ) (still σ w) ∙ over-elim R b rs p ρ (mix R.Value rs σ ρ) (mix-out R.Value rs σ ρ) e))

  pub over-append : (b : Bool) (us vs : Vars) (p : A → Bool) (ρ : A) → over R b us (over R b vs p) ρ ≡ over R b (us ++ vs) p ρ
  unfolding over
  over-append b [] vs p ρ = refl
  over-append b (u ∷ us) vs p ρ = λ i. among b (R.values u.sort) (λ x. over-append b us vs p (assign R.Value ρ u x) i)

  -- ---- terms in which no variable of a list is free
  agree : (vs : Vars) (F : Var → Bool) → Unfree vs F → (ρ σ : A) → Within R.Value vs ρ σ → (v : Var) → F v ≡ true → σ v ≡ ρ v
  agree vs F u ρ σ w v f = bool_cases (has vs v) (λ q. absurd (not-both f (u v q))) (λ q. w v q)

  module _ (local : Local R) (vs : Vars) (ρ σ : A) (w : Within R.Value vs ρ σ) where
    pub term-still : (t : Term) → Unfree vs (free t) → True R t σ ≡ True R t ρ
    term-still t u = term-coincide R local t σ ρ (agree vs (free t) u ρ σ w)

    pub terms-still : (b : Bool) (ts : Terms) → Unfree vs (frees ts) → truths R b (skeletons ts) σ ≡ truths R b (skeletons ts) ρ
    terms-still b ts u = coincides R local (skeletons ts) (skeletons-leaves ts) b σ ρ (λ v f. agree vs (frees ts) u ρ σ w v (sym (frees-skeletons ts v) ∙ f))
