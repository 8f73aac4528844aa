-- Rule 5, `miniscope_split`, is sound.
-- Assumes nothing.
use Prim.Native.Nat.{ℕ}
use mathlib.Core.Path.{◌≡◌, refl, sym, ap, subst, ◌∙◌}
use mathlib.Core.Bool.{Bool, true, false, not, true≢false, false≢true}
use mathlib.Core.List.{List, [], ◌∷◌}
use lib.ListN.{length}
use lib.Dec.{eqb}
use native.Mathlib.Omega.{arith}
use borrow.Author.Tests.{eqb-true}
use Rattle.headers.specs.WellFormed.{is_term}
use Rattle.meaning.specs.Sort.{Sort, bool}
use Rattle.meaning.specs.Term.{Var, Vars, Term, Terms, quant, op, tnil, tcons, stated}
use Rattle.meaning.specs.Tree.{terms_of, tree}
use Rattle.meaning.specs.FreeTree.{has, free, frees}
use Rattle.meaning.proofs.trees.Passed.{Passed}
use Rattle.formulas.specs.Formula.{connective_tag}
use Rattle.meaning.specs.Skeleton.{skeleton, skeletons, form_of}
use Rattle.meaning.specs.Truth.{Assignment, Reading, Local, and_or, over, truths, True}
use Rattle.meaning.proofs.truth.Over.{bool_cases, not-both, or_left, or_right, or_cases, same-at, and_or-intro, and_or-left, and_or-right, Subset, outside, Within, over-elim, over-intro}
use Rattle.answers.specs.Outcome.{pass}
use Rattle.bindings.specs.Binding.{Binding, same, has as has_pair}
use Rattle.formulas.specs.Pattern.{quantifier}
use Rattle.bindings.specs.Used.{without, use_all}
use Rattle.miniscoping.specs.MiniscopeSplit.{split_off, split_one, split_all, split_sides, miniscope_split}
use Rattle.meaning.proofs.patterns.Passes.{need-passes, guard-passes, bind-passes, then-passes, unless-last}
use Rattle.meaning.proofs.patterns.Bindings.{binding-eq, var_of, vars_at, has-at, has-pair}
use Rattle.meaning.proofs.patterns.Trees.{AllTerms, Sorted, sorted-has, quantifier-tree, one-binding, list-unfree}
use Rattle.rules.proofs.sound.Sides.{of-kind, either-sides}
use Rattle.meaning.proofs.patterns.Sound.{Unfree, equality-true, term-still, terms-still}

-- a list taken from what is left of the outer variables, and what is left after it
pub record Taken (list rest left : Vars) : Type 0 where
  pub from : Subset list rest
  pub gone : (v : Var) → has list v ≡ true → has left v ≡ false
  pub kept : Subset left rest

-- operands on the right for those on the left, where rest is left of the outer variables: the same, or under a quantifier
pub data Split (b : Bool) : Vars → Terms → Terms → Type 0 where
  ends : {rest : Vars} → Split b rest tnil tnil
  as-it-is : {rest : Vars} {t : Term} {ts us : Terms} → Split b rest ts us → Split b rest (tcons t ts) (tcons t us)
  under : {rest : Vars} {t : Term} {ts us : Terms} (list left : Vars) → Taken list rest left → Split b left ts us
      → Split b rest (tcons t ts) (tcons (quant b bool list t) us)

-- ---- Booleans: an `or` (b is true) or an `and` (b is false)
-- x has the value b or the other
by_value {ℓ} : (b x : Bool) {C : Type ℓ} → (x ≡ b → C) → (x ≡ not b → C) → C
by_value true true f g = f refl
by_value true false f g = g refl
by_value false true f g = g refl
by_value false false f g = f refl

not-other : (b : Bool) → b ≡ not b → ⊥
not-other true e = true≢false e
not-other false e = false≢true e

left_at : (b x y : Bool) → x ≡ b → and_or (not b) x y ≡ b
left_at true true y e = refl
left_at true false y e = absurd (false≢true e)
left_at false true y e = absurd (true≢false e)
left_at false false y e = refl

right-at : (b x y : Bool) → y ≡ b → and_or (not b) x y ≡ b
right-at true true y e = refl
right-at true false y e = e
right-at false true y e = e
right-at false false y e = refl

other_at : (b x y : Bool) → x ≡ not b → and_or (not b) x y ≡ b → y ≡ b
other_at true true y q e = absurd (true≢false q)
other_at true false y q e = e
other_at false true y q e = e
other_at false false y q e = absurd (false≢true q)

one_at : (b x y : Bool) {C : Type 0} → and_or (not b) x y ≡ b → (x ≡ b → C) → (y ≡ b → C) → C
one_at b x y e f g = by_value b x f (λ q. g (other_at b x y q e))

module _ (R : Reading) (local : Local R) (b : Bool) where
  abbrev A : Type 0
  A = Assignment R.Value

  -- ---- no outer variable is free in the operands on the right
  unfree-first : (vs : Vars) (u : Term) (us : Terms) → Unfree vs (frees (tcons u us)) → Unfree vs (free u)
  unfolding free
  unfree-first vs u us h v q = and_or-left false (free u v) (frees us v) (h v q)

  unfree-rest : (vs : Vars) (u : Term) (us : Terms) → Unfree vs (frees (tcons u us)) → Unfree vs (frees us)
  unfolding free
  unfree-rest vs u us h v q = and_or-right false (free u v) (frees us v) (h v q)

  -- what is left after a list is not free in the body under that list
  unfree-body : (list rest left : Vars) (t : Term) (us : Terms) → Taken list rest left → Unfree rest (frees (tcons (quant b bool list t) us)) → Unfree left (free t)
  unfolding free
  unfree-body list rest left t us taken h v q =
      bool_cases (free t v)
      (λ f. absurd (not-both (and_or-intro true (not (has list v)) (free t v) (ap not untaken) f) (unfree-first rest (quant b bool list t) us h v (taken.kept v q))))
      (λ f. f)
    where
      untaken : has list v ≡ false
      untaken = bool_cases (has list v) (λ c. absurd (not-both q (taken.gone v c))) (λ c. c)

  -- ---- the operands on the left have the value b wherever the variables that are left take other values: then those on the right have it
  abbrev values-at : Terms → A → Bool
  values-at ts σ = truths R (not b) (skeletons ts) σ

  split-there : {rest : Vars} {ts us : Terms} → Split b rest ts us → Unfree rest (frees us)
      → (ρ : A) → ((σ : A) → Within R.Value rest ρ σ → values-at ts σ ≡ b) → values-at us ρ ≡ b
  unfolding skeleton True
  split-there ends unfree ρ h = h ρ (λ v q. refl)
  split-there (as-it-is {rest = rest} {t = t} {us = us} d) unfree ρ h =
      by_value b (True R t ρ) (λ e. left_at b (True R t ρ) _ e)
      (λ e. right-at b (True R t ρ) _
      (split-there d (unfree-rest rest t us unfree) ρ
      (λ σ w. other_at b (True R t σ) _ (term-still R local rest ρ σ w t (unfree-first rest t us unfree) ∙ e) (h σ w))))
  split-there (under {rest = rest} {t = t} {ts = ts} {us = us} list left taken d) unfree ρ h =
      by_value b (values-at us ρ) (λ e. right-at b (over R b list (True R t) ρ) _ e)
      (λ e. left_at b _ (values-at us ρ) (over-intro R b list (True R t) ρ (λ σ w. body e σ w (λ n τ k. split-there d n τ k))))
    where
      -- at σ either the body has the value b, or the others have it, which have the same value at ρ
      body : values-at us ρ ≡ not b → (σ : A) → Within R.Value list ρ σ
          → (Unfree left (frees us) → (τ : A) → ((υ : A) → Within R.Value left τ υ → values-at ts υ ≡ b) → values-at us τ ≡ b) → True R t σ ≡ b
      body e σ w others =
          let here : Within R.Value rest ρ σ = λ v q. w v (outside list rest taken.from v q) in
          by_value b (True R t σ) (λ q. q)
          (λ q. absurd (not-other b
          (sym (others (λ v l. unfree-rest rest (quant b bool list t) us unfree v (taken.kept v l)) σ
          (λ τ k. other_at b (True R t τ) _ (term-still R local left σ τ k t (unfree-body list rest left t us taken unfree) ∙ q)
          (h τ (λ v r. k v (outside left rest taken.kept v r) ∙ here v r))))
          ∙ (terms-still R local rest ρ σ here (not b) us (unfree-rest rest (quant b bool list t) us unfree) ∙ e))))

  split-back : {rest : Vars} {ts us : Terms} → Split b rest ts us → (σ : A) → values-at us σ ≡ b → values-at ts σ ≡ b
  unfolding skeleton True
  split-back ends σ e = e
  split-back (as-it-is {t = t} {us = us} d) σ e =
      one_at b (True R t σ) (values-at us σ) e (λ q. left_at b (True R t σ) _ q) (λ q. right-at b (True R t σ) _ (split-back d σ q))
  split-back (under {t = t} {us = us} list left taken d) σ e =
      one_at b (over R b list (True R t) σ) (values-at us σ) e
      (λ q. left_at b (True R t σ) _ (over-elim R b list (True R t) σ σ (λ v r. refl) q))
      (λ q. right-at b (True R t σ) _ (split-back d σ q))

  over-split : (vs : Vars) (ts us : Terms) → Split b vs ts us → Unfree vs (frees us) → (ρ : A) → over R b vs (values-at ts) ρ ≡ values-at us ρ
  over-split vs ts us d unfree ρ =
      same-at b _ _ (λ e. split-there d unfree ρ (λ σ w. over-elim R b vs (values-at ts) ρ σ w e))
      (λ e. over-intro R b vs (values-at ts) ρ (λ σ w. split-back d σ (terms-still R local vs ρ σ w (not b) us unfree ∙ e)))

module _ (R : Reading) (local : Local R) where
  -- no outer variable is free on the right
  pub split-true : (b : Bool) (vs : Vars) (ts us : Terms) (s s' s'' : Sort) → Split b vs ts us → Unfree vs (frees us) → (ρ : Assignment R.Value)
      → True R (op 39 s (tcons (quant b bool vs (op (connective_tag (not b)) s' ts)) (tcons (op (connective_tag (not b)) s'' us) tnil))) ρ ≡ true
  unfolding True skeleton form_of stated
  split-true b vs ts us s s' s'' d unfree ρ = equality-true R s _ _ ρ refl (sides b d)
    where
      sides : (b : Bool) → Split b vs ts us → True R (quant b bool vs (op (connective_tag (not b)) s' ts)) ρ ≡ True R (op (connective_tag (not b)) s'' us) ρ
      sides true d = over-split R local true vs ts us d unfree ρ
      sides false d = over-split R local false vs ts us d unfree ρ

-- ---- at places
-- what is left of a list of pairs
without-kept : (a : Binding) (bs : List Binding) (b : Binding) → has_pair (without a bs) b ≡ true → has_pair bs b ≡ true
unfolding without has_pair
without-kept a [] b h = h
without-kept a (d ∷ bs) b h =
    bool_cases (same d a)
    (λ e. or_right (same d b) _ (without-kept a bs b (rw e at h)))
    (λ e. or_cases (same d b) (has_pair (without a bs) b) (rw e at h) (λ o. or_left (same d b) _ o) (λ o. or_right (same d b) _ (without-kept a bs b o)))

without_gone : (a : Binding) (bs : List Binding) → has_pair (without a bs) a ≡ false
unfolding without has_pair
without_gone a [] = refl
without_gone a (d ∷ bs) = bool_cases (same d a) (λ e. rw e (without_gone a bs)) (λ e. rw (e, e) (without_gone a bs))

module _ (tags : List ℕ) (n : ℕ) where
  without-sorted : (a : Binding) (bs : List Binding) → Sorted tags n bs → Sorted tags n (without a bs)
  unfolding without
  without-sorted a [] s = tt
  without-sorted a (d ∷ bs) s = bool_cases (same d a) (λ e. rw e (without-sorted a bs s.1)) (λ e. rw e (s.0, without-sorted a bs s.1))

  -- a list that has used its pairs, and what it leaves
  record Used (list rest left : List Binding) : Type 0 where
    pub from : (a : Binding) → has_pair list a ≡ true → has_pair rest a ≡ true
    pub gone : (a : Binding) → has_pair list a ≡ true → has_pair left a ≡ false
    pub kept : (a : Binding) → has_pair left a ≡ true → has_pair rest a ≡ true
    pub sorted : Sorted tags n rest → Sorted tags n left

  used : (list rest left : List Binding) → use_all list rest ≡ pass left → Used list rest left
  unfolding use_all has_pair
  used [] rest left e =
      let z : rest ≡ left = cc in
      subst (Used [] rest) z (record { from = λ a h. absurd (false≢true h); gone = λ a h. absurd (false≢true h); kept = λ a h. h; sorted = λ s. s })
  used (a ∷ as') rest left e =
      guard-passes left _ _ _ _ _ e λ e₁ h₁.
      let u = used as' (without a rest) left h₁ in
      let first : has_pair left a ≡ false = bool_cases (has_pair left a) (λ y. absurd (not-both (u.kept a y) (without_gone a rest))) (λ y. y) in
      record {
        from = λ b h. or_cases (same a b) (has_pair as' b) h (λ o. rw (← binding-eq a b o) e₁) (λ o. without-kept a rest b (u.from b o));
        gone = λ b h. or_cases (same a b) (has_pair as' b) h (λ o. rw (← binding-eq a b o) first) (λ o. u.gone b o);
        kept = λ b h. without-kept a rest b (u.kept b h);
        sorted = λ s. u.sorted (without-sorted a rest s);
      }

module _ {tags values rules : List ℕ} {n : ℕ} (c : Passed tags values rules n) where
  taken-vars : (list rest left : List Binding) → Used tags n list rest left → Sorted tags n list → Sorted tags n rest
      → Taken (vars_at tags values list) (vars_at tags values rest) (vars_at tags values left)
  taken-vars list rest left u s s' =
      record {
        from = λ v h. has-pair tags values list v h (λ a m p. rw (← p) (has-at tags values rest a (u.from a m)));
        gone = λ v h. has-pair tags values list v h (λ a m p. bool_cases (has (vars_at tags values left) v) (λ y. absurd (not_left v a m p y)) (λ y. y));
        kept = λ v h. has-pair tags values left v h (λ a m p. rw (← p) (has-at tags values rest a (u.kept a m)));
      }
    where
      not_left : (v : Var) (a : Binding) → has_pair list a ≡ true → var_of tags values a ≡ v → has (vars_at tags values left) v ≡ true → ⊥
      not_left v a m p y =
          has-pair tags values left v y λ b k q.
          let z : b ≡ a = one-binding c b a (sorted-has tags n left (u.sorted s') b k) (sorted-has tags n list s a m) (q ∙ sym p) in
          not-both (rw z at k) (u.gone a m)

  -- an operand under a quantifier
  off-tree : (kind : Bool) (rest : List Binding) (t u : ℕ) (left : List Binding) → is_term tags n u ≡ true → Sorted tags n rest → split_off tags values kind rest t u ≡ pass left
      → {C : Type 0} → ((list : List Binding) → Used tags n list rest left → Sorted tags n list
      → tree tags values u ≡ quant kind bool (vars_at tags values list) (tree tags values t) → C) → C
  unfolding split_off
  off-tree kind rest t u left k s e go =
      need-passes left _ _ _ _ _ e λ q e₁ h₁.
      guard-passes left _ _ _ _ _ h₁ λ e₂ h₂.
      let (o, same_kind) = of-kind kind (quantifier tags values u) q e₁ in
      let i = quantifier-tree c u k q o in
      go q.list (used tags n q.list rest left h₂) i.sorts (cc (i.tree_is, same_kind, eqb-true t q.body e₂))

  split-tree : (kind : Bool) (rest : List Binding) (ts us : List ℕ) → length ts ≡ length us → AllTerms tags n us → Sorted tags n rest
      → split_all tags values kind rest ts us ≡ pass tt
      → Split kind (vars_at tags values rest) (terms_of (tree tags values) ts) (terms_of (tree tags values) us)
  unfolding split_all split_one terms_of
  split-tree kind rest [] [] l k s e = ends
  split-tree kind rest [] (u ∷ us) l k s e = absurd (omega arith)
  split-tree kind rest (t ∷ ts) [] l k s e = absurd (omega arith)
  split-tree kind rest (t ∷ ts) (u ∷ us) l k s e =
      bind-passes tt _ _ e λ left e₁ h₁.
      bool_cases (eqb t u)
      (λ o. let d : pass rest ≡ pass left = rw o at e₁ in
      let z : rest ≡ left = cc in
      rw (eqb-true t u o) (as-it-is (split-tree kind rest ts us (omega arith) k.1 s (rw (← z) at h₁))))
      (λ o. off-tree kind rest t u left k.0 s (rw o at e₁) λ list used-up sorts is.
      rw is (under (vars_at tags values list) (vars_at tags values left) (taken-vars list rest left used-up sorts s)
      (split-tree kind left ts us (omega arith) k.1 (used-up.sorted s) h₁)))

  pub miniscope-split-sound : (x : ℕ) → is_term tags n x ≡ true → miniscope_split tags values n x ≡ pass tt
      → (R : Reading) → Local R → (ρ : Assignment R.Value) → True R (tree tags values x) ρ ≡ true
  unfolding miniscope_split split_sides free
  miniscope-split-sound x t e R local ρ =
      need-passes tt _ _ _ _ _ e λ s e₁ h₁.
      guard-passes tt _ _ _ _ _ h₁ λ e₂ h₂.
      then-passes tt _ _ h₂ λ e₃ h₃.
      let a = either-sides c x t not s e₁ in
      let unfree : Unfree (vars_at tags values s.list) (free (tree tags values s.right)) =
      list-unfree c s.right a.right s.list a.sorts (unless-last _ _ _ _ h₃) in
      rw a.tree_is (split-true R local s.kind (vars_at tags values s.list) (terms_of (tree tags values) s.from) (terms_of (tree tags values) s.to) _ _ _
      (split-tree s.kind s.list s.from s.to (eqb-true _ _ e₂) a.to-terms a.sorts e₃) (rw a.right_is at unfree) ρ)
