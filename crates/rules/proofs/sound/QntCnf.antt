-- Rule 3, `qnt_cnf`, is sound.
-- Assumes that no variable taken out is free in the left quantified formula.
use Prim.Native.Nat.{ℕ}
use mathlib.Core.Path.{◌≡◌, refl, sym, ap, ap₂, subst, ◌∙◌}
use mathlib.Core.Bool.{Bool, true, false, not, ◌&&◌, ◌||◌}
use mathlib.Core.List.{List, [], ◌∷◌, ◌++◌, map, Memᴰ}
use Rattle.std.specs.Prelude.{Some, None}
use lib.ListN.{length, get_or}
use lib.Dec.{eqb}
use native.Mathlib.Omega.{arith}
use borrow.Author.Tests.{eqb-true, ne_eqb, not-false}
use Rattle.cells.specs.Cell.{operands_of, same_cells}
use Rattle.cells.proofs.Cells.{same-eq}
use Rattle.headers.specs.WellFormed.{is_term}
use Rattle.meaning.specs.Sort.{Sort, bool}
use Rattle.meaning.specs.Term.{Var, Vars, Term, quant, op, tnil, tcons}
use Rattle.meaning.specs.Tree.{sort_tree, vars_of, terms_of, tree}
use Rattle.meaning.specs.FreeTree.{has as has_var, free}
use Rattle.meaning.proofs.trees.Header.{both}
use Rattle.meaning.proofs.trees.Passed.{Passed}
use Rattle.formulas.specs.Formula.{many}
use Rattle.formulas.specs.Normal.{Normal, Normals, lit, nmany, nall, nnil, ncons, nnf, prenex, taken, takens}
use Rattle.formulas.specs.Clauses.{Clause, cnf}
use Rattle.formulas.specs.Built.{Pool, normal_at}
use Rattle.meaning.specs.Skeleton.{skeleton, skeletons, not_of, form_of, build, builds, normals, clause_term}
use Rattle.meaning.specs.Truth.{Assignment, Reading, Local, True}
use Rattle.meaning.proofs.truth.Over.{or_left, or_right, or_cases, Subset, has-append}
use Rattle.meaning.proofs.truth.ClauseTruth.{taken_vars, clause-sound}
use Rattle.building.specs.Arrays.{normal_in, clausal_in}
use Rattle.normal_form.proofs.InternTree.{term_in}
use Rattle.normal_form.proofs.NormalFormTruth.{normal-form-is}
use Rattle.normal_form.proofs.ClauseListTruth.{old-term, old-sort, taken-are, clausal-form-is, clause-places-are}
use Rattle.answers.specs.Outcome.{pass}
use Rattle.bindings.specs.Binding.{Binding, bindings_of, has, first_of}
use Rattle.formulas.specs.Pattern.{Quantifier, operator, one_of, two_of, and_then}
use Rattle.meaning.proofs.patterns.Passes.{need-passes, guard-passes, unless-passes, then_some}
use Rattle.meaning.proofs.patterns.Bindings.{first-none, pairs-append, var_of, vars_at, vars-are, vars-append, has-at, has-pair}
use Rattle.meaning.proofs.patterns.Trees.{term-below, AllTerms, Sorted, sorted-has, one-are, two-are, quantifier-tree, operator-tree}
use Rattle.clausification.specs.NoCapture.{NoCapture}
use Rattle.clausification.specs.QntCnf.{implication, is_clause, any_clause, taken_from, clauses_from, left_and_taken, clause_follows, clausified, qnt_cnf}

-- ---- `(or (not l) r)`
implies_true : (x y : Bool) → (x ≡ true → y ≡ true) → (not x || (y || false)) ≡ true
implies_true true y h = or_left y false (h refl)
implies_true false y h = refl

pub implication-true : (R : Reading) (s s' : Sort) (l r : Term) (ρ : Assignment R.Value) → (True R l ρ ≡ true → True R r ρ ≡ true)
    → True R (op 37 s (tcons (op 34 s' (tcons l tnil)) (tcons r tnil))) ρ ≡ true
unfolding True skeleton form_of not_of
implication-true R s s' l r ρ h = implies_true (True R l ρ) (True R r ρ) h

-- ---- a clause of a list of places, and the clause of terms that stands there
module _ (at : ℕ → Term) (test : List ℕ → Bool) where
  pub passing : {C : Type 0} (cs : List (List ℕ)) (ds : List (Clause Vars Term)) → map (map at) cs ≡ map (map build) ds → any_clause test cs ≡ true
      → ((c : List ℕ) (d : Clause Vars Term) → map at c ≡ map build d → test c ≡ true → Memᴰ d ds → C) → C
  unfolding any_clause
  passing [] ds e a k = let z : ◌≡◌ {A = ℕ} 0 1 = cc in absurd (omega arith)
  passing (c ∷ cs) [] e a k = let z : ◌≡◌ {A = ℕ} 0 1 = cc in absurd (omega arith)
  passing (c ∷ cs) (d ∷ ds) e a k =
      or_cases (test c) (any_clause test cs) a
      (λ y. k c d (cc) y (Memᴰ.head refl))
      (λ y. passing cs ds (cc) y (λ c' d' f b m. k c' d' f b (Memᴰ.tail m)))

-- ---- the variables of what is taken out
module _ (tags values : List ℕ) where
  mutual
    unfolding vars_at

    pub vars-taken : (f : Normal (List ℕ) ℕ) → vars_at tags values (taken bindings_of f) ≡ taken (vars_of (sort_tree tags values)) f
    vars-taken (lit b x) = refl
    vars-taken (nmany b ns) = all-vars-taken ns
    vars-taken (nall true vs f) = vars-append tags values (bindings_of vs) (taken bindings_of f) ∙ ap₂ ◌++◌ (sym (vars-are tags values vs)) (vars-taken f)
    vars-taken (nall false vs f) = refl

    pub all-vars-taken : (fs : Normals (List ℕ) ℕ) → vars_at tags values (takens bindings_of fs) ≡ takens (vars_of (sort_tree tags values)) fs
    all-vars-taken nnil = refl
    all-vars-taken (ncons f fs) = vars-append tags values (taken bindings_of f) (takens bindings_of fs) ∙ ap₂ ◌++◌ (vars-taken f) (all-vars-taken fs)

-- ---- at places
module _ {tags values rules : List ℕ} {n : ℕ} (c : Passed tags values rules n) where
  pub record IsImplication (x : ℕ) (p : ℕ × ℕ) : Type 0 where
    pub sort : Sort
    pub not-sort : Sort
    pub tree_is : tree tags values x ≡ op 37 sort (tcons (op 34 not-sort (tcons (tree tags values p.0) tnil)) (tcons (tree tags values p.1) tnil))
    pub left : is_term tags n p.0 ≡ true
    pub right : is_term tags n p.1 ≡ true

  pub implication-tree : (x : ℕ) → is_term tags n x ≡ true → (p : ℕ × ℕ) → implication tags values x ≡ Some p → IsImplication x p
  unfolding implication terms_of
  implication-tree x t p e =
      then_some (and_then (operator tags values 37 x) two_of) _ _ e λ sides e₁ h₁.
      then_some (operator tags values 37 x) _ _ e₁ λ os e₂ h₂.
      then_some (and_then (operator tags values 34 sides.0) one_of) _ _ h₁ λ l e₃ h₃.
      then_some (operator tags values 34 sides.0) _ _ e₃ λ ns e₄ h₄.
      let o = operator-tree c 37 x (omega arith) (omega arith) t os e₂ in
      let two = two-are os sides h₂ in
      let terms : AllTerms tags n (sides.0 ∷ sides.1 ∷ []) = rw two at o.operands in
      let m = operator-tree c 34 sides.0 (omega arith) (omega arith) terms.0 ns e₄ in
      let one = one-are ns l h₄ in
      let operand : AllTerms tags n (l ∷ []) = rw one at m.operands in
      let z : (l, sides.1) ≡ p = cc in
      let is = o.tree_is ∙ ap (λ (us : List ℕ). op 37 o.sort (terms_of (tree tags values) us)) two in
      let not_is = m.tree_is ∙ ap (λ (us : List ℕ). op 34 m.sort (terms_of (tree tags values) us)) one in
      subst (IsImplication x) z (record {
        sort = o.sort;
        not-sort = m.sort;
        tree_is = is ∙ ap (λ (y : Term). op 37 o.sort (tcons y (tcons (tree tags values sides.1) tnil))) not_is;
        left = operand.0;
        right = terms.1.0;
      })

  -- ---- the right body is a clause of the left body's
  module _ (at : ℕ → Term) (old : (u : ℕ) → is_term tags n u ≡ true → at u ≡ tree tags values u) where
    operands-are : (us : List ℕ) (d : Clause Vars Term) → AllTerms tags n us → map at us ≡ map build d → terms_of (tree tags values) us ≡ builds (normals d)
    unfolding terms_of
    operands-are [] [] a e = refl
    operands-are [] (m ∷ d) a e = cc
    operands-are (u ∷ us) [] a e = cc
    operands-are (u ∷ us) (m ∷ d) a e = ap₂ tcons (sym (old u a.0) ∙ (cc)) (operands-are us d a.1 (cc))

    pub or-tree : (x : ℕ) → is_term tags n x ≡ true → (us : List ℕ) (d : Clause Vars Term) → map at us ≡ map build d
        → (eqb (get_or tags x 0) 37 && same_cells (operands_of tags values x) us) ≡ true → (s : Sort) × (tree tags values x ≡ op 37 s (builds (normals d)))
    unfolding operator
    or-tree x t us d e b =
        let (k, s) = both (eqb (get_or tags x 0) 37) _ b in
        let o = operator-tree c 37 x (omega arith) (omega arith) t us (rw (k, same-eq (operands_of tags values x) us s)) in
        (o.sort, o.tree_is ∙ ap (op 37 o.sort) (operands-are us d o.operands e))

    or-clause : (x : ℕ) → is_term tags n x ≡ true → (us : List ℕ) (d : Clause Vars Term) → map at us ≡ map build d
        → (eqb (get_or tags x 0) 37 && same_cells (operands_of tags values x) us) ≡ true → skeleton (tree tags values x) ≡ many false (skeletons (builds (normals d)))
    unfolding skeleton form_of
    or-clause x t us d e b = let (s, is) = or-tree x t us d e b in ap skeleton is

    is-clause : (x : ℕ) → is_term tags n x ≡ true → (us : List ℕ) (d : Clause Vars Term) → map at us ≡ map build d → is_clause tags values x us ≡ true
        → skeleton (tree tags values x) ≡ skeleton (clause_term d)
    unfolding is_clause skeleton form_of
    is-clause x t [] [] e b = or-clause x t [] [] e b
    is-clause x t [] (m ∷ d) e b = cc
    is-clause x t (u ∷ us) [] e b = cc
    is-clause x t (u ∷ []) (m ∷ []) e b =
        let z : u ≡ x = eqb-true u x b in
        let y : at x ≡ build m = cc in
        ap skeleton (sym (old x t) ∙ y)
    is-clause x t (u ∷ []) (m ∷ (m' ∷ d)) e b = cc
    is-clause x t (u ∷ (u' ∷ us)) (m ∷ []) e b = cc
    is-clause x t (u ∷ (u' ∷ us)) (m ∷ (m' ∷ d)) e b =
        or-clause x t (u ∷ (u' ∷ us)) (m ∷ (m' ∷ d)) e (rw (ne_eqb (length (u ∷ (u' ∷ us))) 1 (λ z. omega arith)) at b)

  -- ---- the right list is of the left list and what is taken out
  module _ (t : ℕ) (term : is_term tags n t ≡ true) (ls rs : List Binding) (sorts : Sorted tags n rs) where
    pub list-fewer : first_of (λ a. not (has (ls ++ taken_from tags values n t) a)) rs ≡ None
        → Subset (vars_at tags values rs) (vars_at tags values ls ++ taken_vars (nnf (skeleton (tree tags values t)) true))
    unfolding taken_from var_of
    list-fewer e v h =
        has-pair tags values rs v h λ a m p.
        or_cases (has ls a) (has (taken_from tags values n t) a)
        (sym (pairs-append ls (taken_from tags values n t) a) ∙ not-false _ (first-none (λ a. not (has (ls ++ taken_from tags values n t) a)) rs e a m))
        (λ l. has-append (vars_at tags values ls) _ v ∙ or_left _ _ (rw p at (has-at tags values ls a l)))
        (λ r. has-append (vars_at tags values ls) _ v ∙ or_right (has_var (vars_at tags values ls) v) _ (in_taken a m r p))
      where
        q : Pool
        q = (normal_in tags values n t true).pool

        f : Normal (List ℕ) ℕ
        f = normal_at q (normal_in tags values n t true).place

        in_taken : (a : Binding) → has rs a ≡ true → has (taken bindings_of f) a ≡ true → var_of tags values a ≡ v
            → has_var (taken_vars (nnf (skeleton (tree tags values t)) true)) v ≡ true
        in_taken a m r p =
            let (below, tagged) = term-below c t term in
            let (l, k) = sorted-has tags n rs sorts a m in
            let i = normal-form-is c t below tagged true in
            let same-var : var_of q.tags q.values a ≡ v =
            ap (λ (s : Sort). record { name = a.name; sort = s }) (old-sort c q i.sound.good i.grows a.sort l k) ∙ p in
            rw (vars-taken q.tags q.values f, taken-are c t below tagged, same-var) at (has-at q.tags q.values (taken bindings_of f) a r)

  -- ---- the rule
  module _ (R : Reading) (local : Local R) (ρ : Assignment R.Value) (left right : Quantifier) (body : is_term tags n left.body ≡ true)
      (clause : is_term tags n right.body ≡ true) (sorts : Sorted tags n right.list) where
    follows : first_of (λ a. not (has (left_and_taken tags values n left) a)) right.list ≡ None
        → any_clause (is_clause tags values right.body) (clauses_from tags values n left.body) ≡ true
        → ((v : Var) → has_var (taken_vars (nnf (skeleton (tree tags values left.body)) true)) v ≡ true
        → free (quant true bool (vars_at tags values left.list) (tree tags values left.body)) v ≡ false)
        → True R (quant true bool (vars_at tags values left.list) (tree tags values left.body)) ρ ≡ true
        → True R (quant true bool (vars_at tags values right.list) (tree tags values right.body)) ρ ≡ true
    unfolding left_and_taken clauses_from True skeleton
    follows fewer found none_free e =
        let (below, tagged) = term-below c left.body body in
        let o = clausal_in tags values n left.body in
        let i = clausal-form-is c left.body below tagged in
        passing (term_in o.pool) (is_clause tags values right.body) (clauses_from tags values n left.body)
        (cnf (prenex (nnf (skeleton (tree tags values left.body)) true))) (clause-places-are c left.body below tagged) found
        λ us d f b m.
        let is : skeleton (tree tags values right.body) ≡ skeleton (clause_term d) =
        is-clause (term_in o.pool) (λ u t. let (l, k) = term-below c u t in old-term c o.pool i.sound.good i.grows u l k)
        right.body clause us d f b in
        rw is
        (clause-sound R local (tree tags values left.body) (vars_at tags values left.list) (vars_at tags values right.list) d bool bool m
        (list-fewer left.body body left.list right.list sorts fewer) none_free ρ e)

  pub qnt-cnf-sound : (x : ℕ) → is_term tags n x ≡ true → qnt_cnf tags values n x ≡ pass tt → NoCapture (tree tags values x)
      → (R : Reading) → Local R → (ρ : Assignment R.Value) → True R (tree tags values x) ρ ≡ true
  unfolding qnt_cnf clausified clause_follows
  qnt-cnf-sound x t e none_free R local ρ =
      need-passes tt _ _ _ _ _ e λ sides e₁ h₁.
      need-passes tt _ _ _ _ _ h₁ λ left e₂ h₂.
      need-passes tt _ _ _ _ _ h₂ λ right e₃ h₃.
      guard-passes tt _ _ _ _ _ h₃ λ e₄ h₄.
      guard-passes tt _ _ _ _ _ h₄ λ e₅ h₅.
      guard-passes tt _ _ _ _ _ h₅ λ e₆ h₆.
      guard-passes tt _ _ _ _ _ h₆ λ e₇ h₇.
      guard-passes tt _ _ _ _ _ h₇ λ e₈ h₈.
      unless-passes tt _ _ _ _ _ h₈ λ fewer h₉.
      guard-passes tt _ _ _ _ _ h₉ λ found h₁₀.
      let s = implication-tree x t sides e₁ in
      let l = quantifier-tree c sides.0 s.left left e₂ in
      let r = quantifier-tree c sides.1 s.right right e₃ in
      let shape : tree tags values x
      ≡ op 37 s.sort (tcons (op 34 s.not-sort (tcons (quant true bool (vars_at tags values left.list) (tree tags values left.body)) tnil))
      (tcons (quant true bool (vars_at tags values right.list) (tree tags values right.body)) tnil)) =
      cc (s.tree_is, l.tree_is, r.tree_is, e₄, e₅) in
      rw shape
      (implication-true R s.sort s.not-sort _ _ ρ
      (follows R local ρ left right l.body r.body r.sorts fewer found (none_free s.sort s.not-sort bool _ _ _ shape)))
