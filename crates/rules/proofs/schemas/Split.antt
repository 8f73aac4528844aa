-- Rule 5, `miniscope_split`, at places is the schema at the tree.
-- Assumes nothing.
use Prim.Native.Nat.{ℕ, suc}
use mathlib.Core.Path.{◌≡◌, refl, sym, ap, ◌∙◌}
use mathlib.Core.Logic.{◌↔◌}
use mathlib.Core.Bool.{Bool, true, false, not}
use mathlib.Core.List.{List, [], ◌∷◌}
use lib.ListN.{length}
use lib.Dec.{eqb}
use native.Mathlib.Omega.{arith}
use borrow.Author.Tests.{eqb-true, eq-eqb}
use Rattle.headers.specs.WellFormed.{is_term}
use Rattle.meaning.specs.Sort.{Sort, bool}
use Rattle.meaning.specs.Term.{Vars, Term, Terms, const, bit_vector, var, app, quant, bind, letin, op, no_term, tcons}
use Rattle.meaning.specs.Tree.{terms_of, tree}
use Rattle.meaning.proofs.trees.Passed.{Passed}
use Rattle.meaning.proofs.truth.Over.{bool_cases}
use Rattle.answers.specs.Outcome.{pass, ◌>>=◌, ◌>>◌, need, guard, unless}
use Rattle.bindings.specs.Binding.{Binding, same, has}
use Rattle.meaning.proofs.patterns.Bindings.{var_of, vars_at, has-at}
use Rattle.formulas.specs.Pattern.{quantifier}
use Rattle.meaning.proofs.patterns.Passes.{bind-passes, need-passes, guard-passes, then-passes, unless-last}
use Rattle.meaning.proofs.patterns.Trees.{AllTerms, SortPlace, Sorted, quantifier-tree, list-unfree}
use Rattle.bindings.specs.Used.{without as without_pair, use_all}
use Rattle.miniscoping.specs.MiniscopeSplit.{split_off, split_one, split_all, split_sides, miniscope_split}
use Rattle.rules.proofs.sound.Sides.{of-kind, either-sides}
use Rattle.schemas.specs.Notation.{term_count}
use Rattle.schemas.specs.Schemas.{MiniscopeSplit, splits, Split, ends, as-it-is, under, Uses, nothing, next, without, binder, NotFree}
use Rattle.meaning.proofs.patterns.Back.{quantifier-back, same_place, same-is, has-is, list-unfree-back}
use Rattle.meaning.proofs.patterns.Sound.{beq_same}
use Rattle.rules.proofs.schemas.Distribute.{terms-count, sides-back}

-- quantifiers at the top: no term is a quantifier over itself
depth : Term → ℕ
depth (const k s c) = 0
depth (bit_vector s w c) = 0
depth (var v) = 0
depth (app s f ts) = 0
depth (quant b s vs t) = suc (depth t)
depth (bind k s vs t) = 0
depth (letin s ls t) = 0
depth (op k s ts) = 0
depth no_term = 0

not_itself : (b : Bool) (s : Sort) (vs : Vars) (t : Term) → t ≡ quant b s vs t → ⊥
unfolding depth
not_itself b s vs t e = let z : depth t ≡ suc (depth t) = ap depth e in omega arith

split-count : {Q : Bool} {rest : Vars} {ts us : Terms} → Split Q rest ts us → term_count ts ≡ term_count us
split-count (ends rest) = refl
split-count (as-it-is rest t ts us d) = ap suc (split-count d)
split-count (under ys rest left t ts us u d) = ap suc (split-count d)

module _ {tags values rules : List ℕ} {n : ℕ} (c : Passed tags values rules n) where
  -- ---- pairs and variables that are left
  pub record Left (as' : List Binding) (vs : Vars) : Type 0 where
    pub vars : vars_at tags values as' ≡ vs
    pub sorts : Sorted tags n as'

  pub without_is : (a : Binding) → SortPlace tags n a.sort → (bs : List Binding) → Sorted tags n bs → Left (without_pair a bs) (without (var_of tags values a) (vars_at tags values bs))
  unfolding without_pair without vars_at
  without_is a k [] s = record { vars = refl; sorts = tt }
  without_is a k (b ∷ bs) s =
      let h = without_is a k bs s.1 in
      bool_cases (same b a)
      (λ e. rw (e, sym (same-is c b a s.0 k) ∙ e) h)
      (λ e. rw (e, sym (same-is c b a s.0 k) ∙ e) (record { vars = ap (◌∷◌ (var_of tags values b)) h.vars; sorts = (s.0, h.sorts) }))

  pub record UsedThere (list rest left : List Binding) : Type 0 where
    pub uses : Uses (vars_at tags values list) (vars_at tags values rest) (vars_at tags values left)
    pub sorts : Sorted tags n left

  pub uses-there : (list rest left : List Binding) → Sorted tags n list → Sorted tags n rest → use_all list rest ≡ pass left → UsedThere list rest left
  unfolding use_all vars_at
  uses-there [] rest left s u e = let z : rest ≡ left = cc in rw (← z) (record { uses = nothing (vars_at tags values rest); sorts = u })
  uses-there (a ∷ as') rest left s u e =
      guard-passes left _ _ _ _ _ e λ e₁ h₁.
      let w = without_is a s.0 rest u in
      let r = uses-there as' (without_pair a rest) left s.1 w.sorts h₁ in
      record {
        uses = next (var_of tags values a) (vars_at tags values as') (vars_at tags values rest) (vars_at tags values left) (has-at tags values rest a e₁) (rw w.vars at r.uses);
        sorts = r.sorts;
      }

  record UsedBack (list rest : List Binding) (vs : Vars) : Type 0 where
    pub left : List Binding
    pub found : use_all list rest ≡ pass left
    pub vars : vars_at tags values left ≡ vs
    pub sorts : Sorted tags n left

  used-one : (a : Binding) (as' rest : List Binding) (vs : Vars) → has rest a ≡ true → UsedBack as' (without_pair a rest) vs → UsedBack (a ∷ as') rest vs
  unfolding use_all ◌>>◌ guard
  used-one a as' rest vs h r = record { left = r.left; found = rw h r.found; vars = r.vars; sorts = r.sorts }

  uses-back : {ys rs ls : Vars} → Uses ys rs ls → (list rest : List Binding) → Sorted tags n list → Sorted tags n rest
      → vars_at tags values list ≡ ys → vars_at tags values rest ≡ rs → UsedBack list rest ls
  unfolding use_all vars_at
  uses-back (nothing rs) [] rest s u e f = record { left = rest; found = refl; vars = f; sorts = u }
  uses-back (nothing rs) (a ∷ as') rest s u e f = let z : ◌≡◌ {A = ℕ} 0 1 = cc in absurd (omega arith)
  uses-back (next y ys rs ls h d) [] rest s u e f = let z : ◌≡◌ {A = ℕ} 0 1 = cc in absurd (omega arith)
  uses-back (next y ys rs ls h d) (a ∷ as') rest s u e f =
      let head : var_of tags values a ≡ y = cc in
      let w = without_is a s.0 rest u in
      let r = uses-back d as' (without_pair a rest) s.1 w.sorts (cc) (w.vars ∙ rw (head, f)) in
      used-one a as' rest ls (has-is c rest u a s.0 ∙ rw (head, f) h) r

  -- ---- the operands, from places to trees
  split-there : (kind : Bool) (rest : List Binding) (ts us : List ℕ) → length ts ≡ length us → AllTerms tags n us → Sorted tags n rest
      → split_all tags values kind rest ts us ≡ pass tt
      → Split kind (vars_at tags values rest) (terms_of (tree tags values) ts) (terms_of (tree tags values) us)
  unfolding split_all split_one split_off terms_of
  split-there kind rest [] [] l k s e = ends (vars_at tags values rest)
  split-there kind rest [] (u ∷ us) l k s e = absurd (omega arith)
  split-there kind rest (t ∷ ts) [] l k s e = absurd (omega arith)
  split-there kind rest (t ∷ ts) (u ∷ us) l k s e =
      bind-passes tt _ _ e λ left e₁ h₁.
      bool_cases (eqb t u)
      (λ o. let d : pass rest ≡ pass left = rw o at e₁ in
      let z : rest ≡ left = cc in
      rw (eqb-true t u o) (as-it-is _ _ _ _ (split-there kind rest ts us (omega arith) k.1 s (rw (← z) at h₁))))
      (λ o. need-passes left _ _ _ _ _ (rw o at e₁) λ q e₂ h₂.
      guard-passes left _ _ _ _ _ h₂ λ e₃ h₃.
      let (f, same_kind) = of-kind kind (quantifier tags values u) q e₂ in
      let i = quantifier-tree c u k.0 q f in
      let w = uses-there q.list rest left i.sorts s h₃ in
      let is : tree tags values u ≡ binder kind (vars_at tags values q.list) (tree tags values t) = cc (i.tree_is, same_kind, eqb-true t q.body e₃) in
      rw is (under (vars_at tags values q.list) _ _ _ _ _ w.uses (split-there kind left ts us (omega arith) k.1 w.sorts h₁)))

  -- ---- and back
  uncons : {C : Type 0} (us : List ℕ) (t : Term) (ts : Terms) → AllTerms tags n us → terms_of (tree tags values) us ≡ tcons t ts
      → ((v : ℕ) (vs : List ℕ) → us ≡ v ∷ vs → is_term tags n v ≡ true → AllTerms tags n vs → tree tags values v ≡ t → terms_of (tree tags values) vs ≡ ts → C) → C
  unfolding terms_of
  uncons [] t ts a e k = let z : ◌≡◌ {A = ℕ} 0 1 = cc in absurd (omega arith)
  uncons (u ∷ us) t ts a e k = k u us refl a.0 a.1 (cc) (cc)

  split-back : {Q : Bool} {rs : Vars} {ts us : Terms} → Split Q rs ts us → (rest : List Binding) (ps qs : List ℕ) → Sorted tags n rest
      → AllTerms tags n ps → AllTerms tags n qs → vars_at tags values rest ≡ rs → terms_of (tree tags values) ps ≡ ts → terms_of (tree tags values) qs ≡ us
      → split_all tags values Q rest ps qs ≡ pass tt
  unfolding split_all split_one split_off terms_of ◌>>=◌ ◌>>◌ need guard
  split-back (ends rs) rest [] qs s k l v e f = refl
  split-back (ends rs) rest (p ∷ ps) qs s k l v e f = let z : ◌≡◌ {A = ℕ} 0 1 = cc in absurd (omega arith)
  split-back (as-it-is rs t ts us d) rest ps qs s k l v e f =
      uncons ps t ts k e λ a as' z₁ k₁ k₂ t₁ e₁.
      uncons qs t us l f λ b bs z₂ l₁ l₂ t₂ f₁.
      rw (z₁, z₂, same_place c a b k₁ l₁ (t₁ ∙ sym t₂)) (split-back d rest as' bs s k₂ l₂ v e₁ f₁)
  split-back {Q = Q} (under ys rs ls t ts us w d) rest ps qs s k l v e f =
      uncons ps t ts k e λ a as' z₁ k₁ k₂ t₁ e₁.
      uncons qs (binder Q ys t) us l f λ b bs z₂ l₁ l₂ t₂ f₁.
      let q = quantifier-back c b l₁ Q bool ys t t₂ in
      let u = uses-back w q.q.list rest q.sorts s q.list v in
      let other : eqb a b ≡ false =
      bool_cases (eqb a b) (λ o. absurd (not_itself Q bool ys t (sym t₁ ∙ (ap (tree tags values) (eqb-true a b o) ∙ t₂)))) (λ o. o) in
      rw (
        z₁,
        z₂,
        other,
        q.found,
        q.kind,
        beq_same Q,
        same_place c a q.q.body k₁ q.body (t₁ ∙ sym q.body_is),
        u.found,
      ) (split-back d u.left as' bs u.sorts k₂ l₂ u.vars e₁ f₁)

  module _ (x : ℕ) (t : is_term tags n x ≡ true) where
    miniscope-split-there : miniscope_split tags values n x ≡ pass tt → MiniscopeSplit (tree tags values x)
    unfolding miniscope_split split_sides
    miniscope-split-there e =
        need-passes tt _ _ _ _ _ e λ s e₁ h₁.
        guard-passes tt _ _ _ _ _ h₁ λ e₂ h₂.
        then-passes tt _ _ h₂ λ e₃ h₃.
        let a = either-sides c x t not s e₁ in
        let unfree : NotFree (vars_at tags values s.list) (tree tags values s.right) =
        list-unfree c s.right a.right s.list a.sorts (unless-last _ _ _ _ h₃) in
        rw a.tree_is
        (splits a.sort a.from-sort a.to-sort s.kind (vars_at tags values s.list) (terms_of (tree tags values) s.from) (terms_of (tree tags values) s.to)
        (split-there s.kind s.list s.from s.to (eqb-true _ _ e₂) a.to-terms a.sorts e₃) (rw a.right_is at unfree))

    miniscope-split-back : {T : Term} → MiniscopeSplit T → tree tags values x ≡ T → miniscope_split tags values n x ≡ pass tt
    unfolding miniscope_split split_sides ◌>>=◌ ◌>>◌ need guard unless
    miniscope-split-back (splits s s' s'' Q xs ts us d nf) e =
        let b = sides-back c x t not s s' s'' Q xs ts us e in
        let m : length b.s.from ≡ length b.s.to =
        sym (terms-count (tree tags values) b.s.from)
        ∙ (ap term_count b.from_is ∙ (split-count d ∙ (ap term_count (sym b.to_is) ∙ terms-count (tree tags values) b.s.to))) in
        let u : NotFree (vars_at tags values b.s.list) (tree tags values b.s.right) = rw (b.list, b.right_is) nf in
        rw (
          b.found,
          eq-eqb (length b.s.from) (length b.s.to) m,
          b.kind,
          split-back d b.s.list b.s.from b.s.to b.sorts b.from b.to b.list b.from_is b.to_is,
          list-unfree-back c b.s.right b.right b.s.list b.sorts u,
        )

    -- the rule passes exactly if the schema holds
    pub miniscope-split-is : miniscope_split tags values n x ≡ pass tt ↔ MiniscopeSplit (tree tags values x)
    miniscope-split-is = (miniscope-split-there, λ m. miniscope-split-back m refl)
