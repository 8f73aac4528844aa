-- The public clause list of a term: what is read back from the pool are the clauses of the term's tree.
--     old-term, old-sort      a term or sort of the pool keeps its tree where forms are put after it
--     normal-form-read        the normal form at true polarity, read back
--     taken-are               the variables taken out
--     clausal-form-is         the taken-out form stands as the term that it builds
--     clausal-form-read       the taken-out form, read back
--     clauses-are             the clauses, literal by literal
--     clause-places-are       the terms at the literal places
--     clause-list-truth       in every reading the list has the term's value, if no forall is reached; whatever the number of clauses
-- Assumes nothing.
use Prim.Native.Nat.{ℕ, ◌<◌}
use mathlib.Core.Path.{◌≡◌, refl, sym, ap, ap₂, ◌∙◌}
use mathlib.Core.Bool.{true}
use mathlib.Core.List.{List, [], ◌∷◌, map}
use lib.ListN.{get_or}
use lib.Seq.{get_or-take}
use native.Mathlib.Omega.{arith}
use Rattle.headers.specs.WellFormed.{is_sort_tag, is_term_tag}
use Rattle.meaning.specs.Term.{Vars, Term}
use Rattle.meaning.specs.Tree.{sort_tree, tree}
use Rattle.meaning.proofs.trees.Passed.{Passed}
use Rattle.formulas.specs.Normal.{lit, nmany, nall, nnf, prenex, taken}
use Rattle.formulas.specs.Clauses.{Clause, cnf}
use Rattle.formulas.specs.Built.{Pool, count, taken_out_form, normal_at}
use Rattle.meaning.specs.Skeleton.{skeleton, build, clause_terms_of, NoForallReached}
use Rattle.meaning.specs.Truth.{Reading, each_some_true, Says}
use Rattle.meaning.proofs.places.Mapped.{prenex-map, taken-map, cnf-map}
use Rattle.meaning.proofs.truth.ClauseTruth.{clauses-truth}
use Rattle.meaning.proofs.places.FormTree.{vars_at}
use Rattle.meaning.proofs.places.SameTree.{sort-kept}
use Rattle.formulas.specs.ClauseLists.{clause_places}
use Rattle.building.specs.Arrays.{pool_of, normal_in, clausal_in, clausal_form_in}
use Rattle.building.proofs.Interning.{Good, Grows, grows-trans}
use Rattle.normal_form.proofs.TreeGrows.{sort-grows, tree-grows}
use Rattle.normal_form.proofs.InternTree.{term_in, on_pool, Interned, intern-tree}
use Rattle.normal_form.proofs.NormalFormTruth.{used-same, used-count, used_sound, used-tree, normal-form-is}
use Rattle.normal_form.proofs.ReadBack.{leaf_of, leafed, normal-leaves, read-build, read-taken-out, taken-leafed, clauses-leafed}
use Rattle.normal_form.proofs.ReadPlace.{ReadAs, read_at, prenex-fits}

-- ---- literals that are terms
module _ (q : Pool) where
  places-are : (c : Clause (List ℕ) ℕ) (d : Clause Vars Term) → map (on_pool q) c ≡ map leaf_of d → map (term_in q) (clause_places c) ≡ map build d
  places-are [] [] e = refl
  places-are [] (m ∷ d) e = cc
  places-are (l ∷ c) [] e = cc
  places-are (lit b x ∷ c) (m ∷ d) e = ap₂ ◌∷◌ (cc) (places-are c d (cc))
  places-are (nmany b ns ∷ c) (m ∷ d) e = cc
  places-are (nall b vs n ∷ c) (m ∷ d) e = cc

  all-places-are : (cs : List (Clause (List ℕ) ℕ)) (ds : List (Clause Vars Term)) → map (map (on_pool q)) cs ≡ map (map leaf_of) ds
      → map (map (term_in q)) (map clause_places cs) ≡ map (map build) ds
  all-places-are [] [] e = refl
  all-places-are [] (d ∷ ds) e = cc
  all-places-are (c ∷ cs) [] e = cc
  all-places-are (c ∷ cs) (d ∷ ds) e = ap₂ ◌∷◌ (places-are c d (cc)) (all-places-are cs ds (cc))

-- ---- a pool that goes on from the used cells
module _ {tags values rules : List ℕ} {n : ℕ} (c : Passed tags values rules n) (q : Pool) (good : Good q) (g : Grows (pool_of tags values n) q) where
  pub old-term : (t : ℕ) → t < n → is_term_tag (get_or tags t 0) ≡ true → term_in q t ≡ tree tags values t
  old-term t h k =
      tree-grows (pool_of tags values n) q (used_sound c) good g t (omega (arith, used-count c)) (rw (get_or-take n tags t 0 h) k)
      ∙ used-tree c t h k

  pub old-sort : (s : ℕ) → s < n → is_sort_tag (get_or tags s 0) ≡ true → sort_tree q.tags q.values s ≡ sort_tree tags values s
  old-sort s h k =
      sort-grows (pool_of tags values n) q (used_sound c) good g s (omega (arith, used-count c)) (rw (get_or-take n tags s 0 h) k)
      ∙ sort-kept n tags values (pool_of tags values n).tags (pool_of tags values n).values (used-same c) c.formed s h k

-- ---- the term at t
module _ {tags values rules : List ℕ} {n : ℕ} (c : Passed tags values rules n) (t : ℕ) (h : t < n) (k : is_term_tag (get_or tags t 0) ≡ true) where
  pub normal-form-read : ReadAs (normal_in tags values n t true).pool (normal_at (normal_in tags values n t true).pool (normal_in tags values n t true).place)
      (leafed (nnf (skeleton (tree tags values t)) true))
  normal-form-read =
      let i = normal-form-is c t h k true in
      rw (i.is, read-build (nnf (skeleton (tree tags values t)) true) (normal-leaves (tree tags values t) true)) at
      (read_at (normal_in tags values n t true).pool i.sound (normal_in tags values n t true).place i.term)

  -- the variables taken out
  pub taken-are : taken (vars_at (normal_in tags values n t true).pool.tags (normal_in tags values n t true).pool.values)
      (normal_at (normal_in tags values n t true).pool (normal_in tags values n t true).place)
      ≡ taken (λ (vs : Vars). vs) (nnf (skeleton (tree tags values t)) true)
  taken-are =
      let o = normal_in tags values n t true in
      sym (taken-map (vars_at o.pool.tags o.pool.values) (term_in o.pool) (λ (vs : Vars). vs) (normal_at o.pool o.place))
      ∙ (ap (taken (λ (vs : Vars). vs)) normal-form-read.is ∙ taken-leafed (λ (vs : Vars). vs) (nnf (skeleton (tree tags values t)) true))

  pub clausal-form-is : Interned (pool_of tags values n) (clausal_in tags values n t) (build (prenex (leafed (nnf (skeleton (tree tags values t)) true))))
  unfolding taken_out_form
  clausal-form-is =
      let o = normal_in tags values n t true in
      let i = normal-form-is c t h k true in
      let r = normal-form-read in
      let f = normal_at o.pool o.place in
      let j = intern-tree (prenex f) o.pool i.sound (prenex-fits o.pool.tags (count o.pool) f r.fits) in
      record {
        sound = j.sound;
        grows = grows-trans (pool_of tags values n) o.pool (clausal_in tags values n t).pool i.grows j.grows;
        term = j.term;
        is = j.is ∙ ap build (prenex-map (vars_at o.pool.tags o.pool.values) (term_in o.pool) f ∙ ap prenex r.is);
      }

  pub clausal-form-read : ReadAs (clausal_in tags values n t).pool (clausal_form_in tags values n t) (prenex (leafed (nnf (skeleton (tree tags values t)) true)))
  clausal-form-read =
      let i = clausal-form-is in
      rw (i.is, read-taken-out (nnf (skeleton (tree tags values t)) true) (normal-leaves (tree tags values t) true)) at
      (read_at (clausal_in tags values n t).pool i.sound (clausal_in tags values n t).place i.term)

  pub clauses-are : map (map (on_pool (clausal_in tags values n t).pool)) (cnf (clausal_form_in tags values n t))
      ≡ map (map leaf_of) (cnf (prenex (nnf (skeleton (tree tags values t)) true)))
  clauses-are =
      let q = (clausal_in tags values n t).pool in
      cnf-map (vars_at q.tags q.values) (term_in q) (clausal_form_in tags values n t)
      ∙ (ap cnf clausal-form-read.is ∙ clauses-leafed (nnf (skeleton (tree tags values t)) true))

  pub clause-places-are : map (map (term_in (clausal_in tags values n t).pool)) (map clause_places (cnf (clausal_form_in tags values n t)))
      ≡ clause_terms_of (tree tags values t)
  clause-places-are =
      all-places-are (clausal_in tags values n t).pool (cnf (clausal_form_in tags values n t)) (cnf (prenex (nnf (skeleton (tree tags values t)) true))) clauses-are

  pub clause-list-truth : NoForallReached (tree tags values t) → (R : Reading)
      → Says R (map (map (term_in (clausal_in tags values n t).pool)) (map clause_places (cnf (clausal_form_in tags values n t)))) (tree tags values t)
  clause-list-truth e R ρ =
      ap (λ (cs : List (List Term)). each_some_true R cs ρ) clause-places-are ∙ clauses-truth R (tree tags values t) e ρ
