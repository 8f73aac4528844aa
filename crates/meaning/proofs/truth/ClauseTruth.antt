-- Clauses say as much as the form that they are of, and follow from the formula whose foralls are taken out.
--     cnf-truth          a form's clauses, all of them, have the form's value
--     clauses-truth      so a term's clauses have the term's value, if no forall is reached: any number of them, and the empty one too
--     clause-follows     each clause follows from the formula, whatever values the quantified and the taken-out variables take
--     clause-sound       the same of terms: what rule 3 says
-- Assumes that no variable taken out is free in the quantified formula.
use mathlib.Core.Path.{◌≡◌, refl, sym, ap, ap₂, ◌∙◌}
use mathlib.Core.Bool.{Bool, true, false, not, ◌&&◌, ◌||◌, or-true, or-false, and-true, and_assoc, or_assoc, or-and_distrib_left, or-and_distrib_right}
use mathlib.Core.List.{List, [], ◌∷◌, ◌++◌, map, Memᴰ}
use Rattle.meaning.specs.Sort.{Sort}
use Rattle.meaning.specs.Term.{Var, Vars, Term, quant}
use Rattle.meaning.specs.FreeTree.{has, free}
use Rattle.formulas.specs.Formula.{Form, all}
use Rattle.formulas.specs.Normal.{Normal, Normals, lit, nmany, nall, nnil, ncons, nnf, prenex, prenexes, taken}
use Rattle.formulas.specs.Clauses.{Clause, product, cnf, cnf_and, cnf_or}
use Rattle.meaning.specs.Reached.{reach_forall, reaches_forall}
use Rattle.meaning.specs.Skeleton.{skeleton, IsOpaque, build, normals, clause_form, clause_term, clause_terms_of, NoForallReached}
use Rattle.meaning.specs.Truth.{Assignment, Reading, Local, over, truth, True, truth_n, truth_ns, clause_truth, clauses_truth, some_true, each_some_true, Says}
use Rattle.meaning.proofs.truth.Over.{bool_cases, not-both, and_or-intro, and_or-left, and_or-right, or_left, or_right, or_cases, Subset, outside, has-append, Within, mix, mix-in, mix-out, over-elim, over-intro}
use Rattle.meaning.proofs.truth.Leaves.{Each, EachN, EachC, EachCs, nnf-each, prenex-each, cnf-each, clause-each, skeleton-leaves}
use Rattle.meaning.proofs.truth.NormalTruth.{nnf-truth, build-truth}
use Rattle.meaning.proofs.truth.Coincide.{free_f, Rests, coincide, free-skeleton}

-- ---- where no forall is reached, taking out changes nothing
module _ {B L : Type 0} where
  mutual
    pub prenex-same : (n : Normal B L) → reaches_forall n ≡ false → prenex n ≡ n
    prenex-same (lit b t) e = refl
    prenex-same (nmany b ns) e = ap (nmany b) (prenexes-same ns e)
    prenex-same (nall true vs n) e = absurd (not-both refl e)
    prenex-same (nall false vs n) e = refl

    prenexes-same : (ns : Normals B L) → reach_forall ns ≡ false → prenexes ns ≡ ns
    prenexes-same nnil e = refl
    prenexes-same (ncons n ns) e =
        ap₂ ncons (prenex-same n (and_or-left false (reaches_forall n) (reach_forall ns) e))
        (prenexes-same ns (and_or-right false (reaches_forall n) (reach_forall ns) e))

-- ---- the clauses of a form
module _ (R : Reading) where
  abbrev A : Type 0
  A = Assignment R.Value

  join-truth : (c d : Clause Vars Term) (ρ : A) → clause_truth R (c ++ d) ρ ≡ (clause_truth R c ρ || clause_truth R d ρ)
  join-truth [] d ρ = refl
  join-truth (l ∷ c) d ρ = rw (join-truth c d ρ, or_assoc (truth_n R l ρ) (clause_truth R c ρ) (clause_truth R d ρ))

  append-truth : (cs ds : List (Clause Vars Term)) (ρ : A) → clauses_truth R (cs ++ ds) ρ ≡ (clauses_truth R cs ρ && clauses_truth R ds ρ)
  append-truth [] ds ρ = refl
  append-truth (c ∷ cs) ds ρ = rw (append-truth cs ds ρ, and_assoc (clause_truth R c ρ) (clauses_truth R cs ρ) (clauses_truth R ds ρ))

  map-truth : (c : Clause Vars Term) (ds : List (Clause Vars Term)) (ρ : A)
      → clauses_truth R (map (◌++◌ c) ds) ρ ≡ (clause_truth R c ρ || clauses_truth R ds ρ)
  map-truth c [] ρ = sym (or-true (clause_truth R c ρ))
  map-truth c (d ∷ ds) ρ =
      ap₂ ◌&&◌ (join-truth c d ρ) (map-truth c ds ρ) ∙ sym (or-and_distrib_left (clause_truth R c ρ) (clause_truth R d ρ) (clauses_truth R ds ρ))

  product-truth : (cs ds : List (Clause Vars Term)) (ρ : A) → clauses_truth R (product cs ds) ρ ≡ (clauses_truth R cs ρ || clauses_truth R ds ρ)
  product-truth [] ds ρ = refl
  product-truth (c ∷ cs) ds ρ =
      append-truth (map (◌++◌ c) ds) (product cs ds) ρ
      ∙ (ap₂ ◌&&◌ (map-truth c ds ρ) (product-truth cs ds ρ)
      ∙ sym (or-and_distrib_right (clause_truth R c ρ) (clauses_truth R cs ρ) (clauses_truth R ds ρ)))

  mutual
    pub cnf-truth : (n : Normal Vars Term) (ρ : A) → clauses_truth R (cnf n) ρ ≡ truth_n R n ρ
    cnf-truth (lit b t) ρ = simp (or-false, and-true)
    cnf-truth (nmany true ns) ρ = cnf_and-truth ns ρ
    cnf-truth (nmany false ns) ρ = cnf_or-truth ns ρ
    cnf-truth (nall b vs n) ρ = simp (or-false, and-true)

    cnf_and-truth : (ns : Normals Vars Term) (ρ : A) → clauses_truth R (cnf_and ns) ρ ≡ truth_ns R true ns ρ
    cnf_and-truth nnil ρ = refl
    cnf_and-truth (ncons n ns) ρ = append-truth (cnf n) (cnf_and ns) ρ ∙ ap₂ ◌&&◌ (cnf-truth n ρ) (cnf_and-truth ns ρ)

    cnf_or-truth : (ns : Normals Vars Term) (ρ : A) → clauses_truth R (cnf_or ns) ρ ≡ truth_ns R false ns ρ
    cnf_or-truth nnil ρ = refl
    cnf_or-truth (ncons n ns) ρ = product-truth (cnf n) (cnf_or ns) ρ ∙ ap₂ ◌||◌ (cnf-truth n ρ) (cnf_or-truth ns ρ)

  -- clauses as terms
  terms-truth : (c : Clause Vars Term) → EachC IsOpaque c → (ρ : A) → some_true R (map build c) ρ ≡ clause_truth R c ρ
  terms-truth [] o ρ = refl
  terms-truth (l ∷ c) o ρ = ap₂ ◌||◌ (build-truth R l o.0 ρ) (terms-truth c o.1 ρ)

  lists-truth : (cs : List (Clause Vars Term)) → EachCs IsOpaque cs → (ρ : A) → each_some_true R (map (map build) cs) ρ ≡ clauses_truth R cs ρ
  lists-truth [] o ρ = refl
  lists-truth (c ∷ cs) o ρ = ap₂ ◌&&◌ (terms-truth c o.0 ρ) (lists-truth cs o.1 ρ)

  -- a term's clauses
  pub clauses-truth : (t : Term) → NoForallReached t → Says R (clause_terms_of t) t
  unfolding True
  clauses-truth t e ρ =
      let n = nnf (skeleton t) true in
      lists-truth (cnf (prenex n)) (cnf-each IsOpaque (prenex n) (prenex-each IsOpaque n (nnf-each IsOpaque (skeleton t) true (skeleton-leaves t)))) ρ
      ∙ rw (prenex-same n e) (cnf-truth n ρ ∙ nnf-truth R (skeleton t) true ρ)

  -- a clause of the list, and its form
  clause-true : (c : Clause Vars Term) (cs : List (Clause Vars Term)) (ρ : A) → Memᴰ c cs
      → clauses_truth R cs ρ ≡ true → clause_truth R c ρ ≡ true
  clause-true c (d ∷ cs) ρ (Memᴰ.head q) e =
      ap (λ (x : Clause Vars Term). clause_truth R x ρ) q ∙ and_or-left true (clause_truth R d ρ) (clauses_truth R cs ρ) e
  clause-true c (d ∷ cs) ρ (Memᴰ.tail m) e = clause-true c cs ρ m (and_or-right true (clause_truth R d ρ) (clauses_truth R cs ρ) e)
  clause-true c [] ρ x'' e = elim x'' [ ]

  normals-truth : (c : Clause Vars Term) (ρ : A) → truth_ns R false (normals c) ρ ≡ clause_truth R c ρ
  normals-truth [] ρ = refl
  normals-truth (l ∷ c) ρ = ap (λ (x : Bool). truth_n R l ρ || x) (normals-truth c ρ)

  pub clause_form-truth : (c : Clause Vars Term) (ρ : A) → truth_n R (clause_form c) ρ ≡ clause_truth R c ρ
  clause_form-truth [] ρ = refl
  clause_form-truth (l ∷ []) ρ = sym (or-false (truth_n R l ρ))
  clause_form-truth (l ∷ (m ∷ c)) ρ = normals-truth (l ∷ (m ∷ c)) ρ

  -- ---- foralls taken out: a form that is true is true without them, at the same values
  mutual
    pub prenex-true : (n : Normal Vars Term) (ρ : A) → truth_n R n ρ ≡ true → truth_n R (prenex n) ρ ≡ true
    prenex-true (lit b t) ρ e = e
    prenex-true (nmany true ns) ρ e = prenex_and-true ns ρ e
    prenex-true (nmany false ns) ρ e = prenex_or-true ns ρ e
    prenex-true (nall true vs n) ρ e = prenex-true n ρ (over-elim R true vs (truth_n R n) ρ ρ (λ v q. refl) e)
    prenex-true (nall false vs n) ρ e = e

    prenex_and-true : (ns : Normals Vars Term) (ρ : A) → truth_ns R true ns ρ ≡ true → truth_ns R true (prenexes ns) ρ ≡ true
    prenex_and-true nnil ρ e = e
    prenex_and-true (ncons n ns) ρ e =
        and_or-intro true (truth_n R (prenex n) ρ) (truth_ns R true (prenexes ns) ρ)
        (prenex-true n ρ (and_or-left true (truth_n R n ρ) (truth_ns R true ns ρ) e))
        (prenex_and-true ns ρ (and_or-right true (truth_n R n ρ) (truth_ns R true ns ρ) e))

    prenex_or-true : (ns : Normals Vars Term) (ρ : A) → truth_ns R false ns ρ ≡ true → truth_ns R false (prenexes ns) ρ ≡ true
    prenex_or-true nnil ρ e = e
    prenex_or-true (ncons n ns) ρ e =
        or_cases (truth_n R n ρ) (truth_ns R false ns ρ) e
        (λ q. or_left (truth_n R (prenex n) ρ) _ (prenex-true n ρ q))
        (λ q. or_right (truth_n R (prenex n) ρ) _ (prenex_or-true ns ρ q))

  -- a clause is true wherever the formula is
  pub clause-of-formula : (f : Form Vars Term) (c : Clause Vars Term) → Memᴰ c (cnf (prenex (nnf f true)))
      → (ρ : A) → truth R f ρ ≡ true → clause_truth R c ρ ≡ true
  clause-of-formula f c m ρ e =
      clause-true c (cnf (prenex (nnf f true))) ρ m (cnf-truth (prenex (nnf f true)) ρ ∙ prenex-true (nnf f true) ρ (nnf-truth R f true ρ ∙ e))

-- ---- closed over the quantified and the taken-out variables
-- the variables that are taken out of a form
abbrev pub taken_vars : Normal Vars Term → Vars
taken_vars n = taken (λ (vs : Vars). vs) n

module _ (R : Reading) (F : Var → Bool) (p : Assignment R.Value → Bool) (rests : Rests R F p) where
  -- p holds for all values of ls: so also for all values of more variables ts, if those of ts that p rests on are in ls
  widen : (ls ts : Vars) → ((v : Var) → has ts v ≡ true → (not (has ls v) && F v) ≡ false)
      → (ρ : Assignment R.Value) → over R true ls p ρ ≡ true → (σ : Assignment R.Value) → Within R.Value (ls ++ ts) ρ σ → p σ ≡ true
  widen ls ts none_free ρ e σ w =
      rests σ (mix R.Value ls σ ρ) at ∙ over-elim R true ls p ρ (mix R.Value ls σ ρ) (mix-out R.Value ls σ ρ) e
    where
      at : (v : Var) → F v ≡ true → σ v ≡ mix R.Value ls σ ρ v
      at v f =
          bool_cases (has ls v) (λ q. sym (mix-in R.Value ls σ ρ v q))
          (λ q. bool_cases (has ts v)
          (λ k. absurd (not-both (and_or-intro true (not (has ls v)) (F v) (ap not q) f) (none_free v k)))
          (λ k. w v (has-append ls ts v ∙ ap₂ ◌||◌ q k) ∙ sym (mix-out R.Value ls σ ρ v q)))

module _ (R : Reading) (local : Local R) where
  -- ls the formula's own variables, rs those of the clause
  pub clause-follows : (f : Form Vars Term) → Each IsOpaque f → (ls rs : Vars) (c : Clause Vars Term)
      → Memᴰ c (cnf (prenex (nnf f true)))
      → Subset rs (ls ++ taken_vars (nnf f true))
      → ((v : Var) → has (taken_vars (nnf f true)) v ≡ true → free_f (all true ls f) v ≡ false)
      → (ρ : Assignment R.Value) → truth R (all true ls f) ρ ≡ true → over R true rs (clause_truth R c) ρ ≡ true
  clause-follows f o ls rs c m sub none_free ρ e =
      over-intro R true rs (clause_truth R c) ρ
      (λ σ w. clause-of-formula R f c m σ
      (widen R (free_f f) (truth R f) (coincide R local f o) ls (taken_vars (nnf f true)) none_free ρ e σ
      (λ v q. w v (outside rs (ls ++ taken_vars (nnf f true)) sub v q))))

  pub clause-sound : (t : Term) (ls rs : Vars) (c : Clause Vars Term) (s s' : Sort)
      → Memᴰ c (cnf (prenex (nnf (skeleton t) true)))
      → Subset rs (ls ++ taken_vars (nnf (skeleton t) true))
      → ((v : Var) → has (taken_vars (nnf (skeleton t) true)) v ≡ true → free (quant true s ls t) v ≡ false)
      → (ρ : Assignment R.Value) → True R (quant true s ls t) ρ ≡ true → True R (quant true s' rs (clause_term c)) ρ ≡ true
  unfolding True skeleton
  clause-sound t ls rs c s s' m sub none_free ρ e =
      over-intro R true rs (True R (clause_term c)) ρ
      (λ σ w. build-truth R (clause_form c) leaves σ ∙ (clause_form-truth R c σ ∙ over-elim R true rs (clause_truth R c) ρ σ w follows))
    where
      leaves : EachN IsOpaque (clause_form c)
      leaves = clause-each IsOpaque (nnf (skeleton t) true) c (nnf-each IsOpaque (skeleton t) true (skeleton-leaves t)) m

      follows : over R true rs (clause_truth R c) ρ ≡ true
      follows =
          clause-follows (skeleton t) (skeleton-leaves t) ls rs c m sub (λ v q. free-skeleton (quant true s ls t) v ∙ none_free v q) ρ e
