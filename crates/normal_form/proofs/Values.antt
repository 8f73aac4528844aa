-- The values of what the two calls leave, in every reading.
--     normal-form-value     for every outcome of the normal form's call that is accepted
--     clause-list-value     for every outcome of the clause list's that is, if no forall is reached
--     clauses-read-are      what is read back from the arrays is the definition's clause list, literal by literal
-- Nothing is asked of locality, lets, capture or closedness.
-- Assumes nothing.
use Prim.Native.Nat.{ℕ, ◌-◌}
use mathlib.Core.Path.{◌≡◌, refl, ap, ap₂, ◌∙◌}
use mathlib.Core.Bool.{Bool, true}
use mathlib.Core.List.{List, [], ◌∷◌, map}
use lib.ListN.{length, replicate}
use Rattle.answers.specs.declared.Answer.{Answer}
use Rattle.meaning.specs.Term.{Vars, Term}
use Rattle.meaning.specs.Tree.{tree}
use Rattle.formulas.specs.Normal.{Normal, Normals, lit, nmany, nall, nnil, ncons, nnf, prenex}
use Rattle.formulas.specs.Clauses.{Clause, cnf}
use Rattle.formulas.specs.Built.{Pool, count}
use Rattle.meaning.specs.Skeleton.{skeleton, clause_terms_of, NoForallReached}
use Rattle.meaning.specs.Truth.{Reading, True, each_some_true, HasValue, Says}
use Rattle.meaning.proofs.truth.Leaves.{EachN, EachNs, EachC, EachCs, cnf-each}
use Rattle.meaning.proofs.places.Operands.{IsTerm}
use Rattle.meaning.proofs.places.FormFits.{FitsN, FitsNs}
use Rattle.formulas.specs.ClauseLists.{padded, clause_places, literal_places, clause_ends, clauses_in}
use Rattle.formulas.proofs.ClauseLists.{read_back}
use Rattle.normal_form.specs.Calls.{normal_place, NormalForm, clausal, clausal_form, ClauseList}
use Rattle.normal_form.specs.Promise.{clauses_read}
use Rattle.normal_form.proofs.InternTree.{term_in, on_pool}
use Rattle.normal_form.proofs.NormalFormTruth.{normal-form-is, normal-form-truth}
use Rattle.normal_form.proofs.ReadBack.{leaf_of}
use Rattle.normal_form.proofs.ClauseListTruth.{clausal-form-is, clausal-form-read, clauses-are, clause-places-are, clause-list-truth}
use Rattle.normal_form.proofs.Accepted.{left-tree, normal-accepted, list-accepted}

-- ---- the normal form
pub normal-form-value : {tags values rules : List ℕ} {n t : ℕ} {polarity : Bool} {r : Answer} {tags' values' : List ℕ}
    → NormalForm tags values rules n t polarity r tags' values' → r.code ≡ 0
    → (R : Reading) → HasValue R polarity (tree tags' values' r.first) (tree tags values t)
normal-form-value {tags} {values} {rules} {n} {t} {polarity} {r} {tags'} {values'} f ok R ρ =
    let a = normal-accepted f ok in
    let c = a.checked in
    let o = normal_place tags values rules n t polarity in
    let i = normal-form-is c.passed t c.below c.term polarity in
    ap (λ (x : Term). True R x ρ) (ap (tree tags' values') a.place ∙ left-tree i.sound a.holds o.place i.term)
    ∙ normal-form-truth c.passed t c.below c.term R polarity ρ

-- ---- literals are terms of the pool
module _ (tags : List ℕ) (n : ℕ) where
  mutual
    leaves-fit : (f : Normal (List ℕ) ℕ) → FitsN tags n f → EachN (IsTerm tags n) f
    leaves-fit (lit b x) o = o
    leaves-fit (nmany b ns) o = all-leaves-fit ns o
    leaves-fit (nall b vs f) o = leaves-fit f o.1

    all-leaves-fit : (fs : Normals (List ℕ) ℕ) → FitsNs tags n fs → EachNs (IsTerm tags n) fs
    all-leaves-fit nnil o = tt
    all-leaves-fit (ncons f fs) o = (leaves-fit f o.0, all-leaves-fit fs o.1)

-- the trees at the places of clauses whose literals are places of terms
module _ (q : Pool) (at : ℕ → Term) (same : (x : ℕ) → IsTerm q.tags (count q) x → at x ≡ term_in q x) where
  clause-kept : (c : Clause (List ℕ) ℕ) (d : Clause Vars Term) → EachC (IsTerm q.tags (count q)) c → map (on_pool q) c ≡ map leaf_of d
      → map at (clause_places c) ≡ map (term_in q) (clause_places c)
  clause-kept [] d o e = refl
  clause-kept (l ∷ c) [] o e = cc
  clause-kept (lit b x ∷ c) (m ∷ d) o e = ap₂ ◌∷◌ (same x o.0) (clause-kept c d o.1 (cc))
  clause-kept (nmany b ns ∷ c) (m ∷ d) o e = cc
  clause-kept (nall b vs n ∷ c) (m ∷ d) o e = cc

  clauses-kept : (cs : List (Clause (List ℕ) ℕ)) (ds : List (Clause Vars Term)) → EachCs (IsTerm q.tags (count q)) cs
      → map (map (on_pool q)) cs ≡ map (map leaf_of) ds → map (map at) (map clause_places cs) ≡ map (map (term_in q)) (map clause_places cs)
  clauses-kept [] ds o e = refl
  clauses-kept (c ∷ cs) [] o e = cc
  clauses-kept (c ∷ cs) (d ∷ ds) o e = ap₂ ◌∷◌ (clause-kept c d o.0 (cc)) (clauses-kept cs ds o.1 (cc))

-- ---- the clause list
module _ {tags values rules : List ℕ} {n t : ℕ} {literals ends : List ℕ} {r : Answer} {m : ℕ} {tags' values' literals' ends' : List ℕ}
    (f : ClauseList tags values rules n t literals ends r m tags' values' literals' ends') (ok : r.code ≡ 0) where
  -- what is read back are the places of the clauses
  places-read : clauses_in literals' ends' r.first ≡ map clause_places (cnf (clausal_form tags values rules n t))
  unfolding padded
  places-read =
      let a = list-accepted f ok in
      let cs = cnf (clausal_form tags values rules n t) in
      rw (a.literals-are, a.ends-are, a.clauses)
      (read_back cs (replicate (length literals - length (literal_places cs)) 0) (replicate (length ends - length (clause_ends 0 cs)) 0))

  -- and the terms at them are those of the pool that was built
  terms-read : clauses_read tags' values' literals' ends' r.first
      ≡ map (map (term_in (clausal tags values rules n t).pool)) (map clause_places (cnf (clausal_form tags values rules n t)))
  terms-read =
      let a = list-accepted f ok in
      let c = a.checked in
      let q = (clausal tags values rules n t).pool in
      let g = clausal_form tags values rules n t in
      let i = clausal-form-is c.passed t c.below c.term in
      let d = clausal-form-read c.passed t c.below c.term in
      ap (map (map (tree tags' values'))) places-read
      ∙ clauses-kept q (tree tags' values') (left-tree i.sound a.holds) (cnf g) (cnf (prenex (nnf (skeleton (tree tags values t)) true)))
      (cnf-each (IsTerm q.tags (count q)) g (leaves-fit q.tags (count q) g d.fits))
      (clauses-are c.passed t c.below c.term)

  -- these are the terms of the clauses of the definition: nothing is asked of foralls
  pub clauses-read-are : clauses_read tags' values' literals' ends' r.first ≡ clause_terms_of (tree tags values t)
  clauses-read-are = let c = (list-accepted f ok).checked in terms-read ∙ clause-places-are c.passed t c.below c.term

  pub clause-list-value : NoForallReached (tree tags values t) → (R : Reading) → Says R (clauses_read tags' values' literals' ends' r.first) (tree tags values t)
  clause-list-value e R ρ =
      let c = (list-accepted f ok).checked in
      ap (λ (cs : List (List Term)). each_some_true R cs ρ) terms-read
      ∙ clause-list-truth c.passed t c.below c.term e R ρ
