-- Rule 3's clause: the term at a place is one of the clauses of a term, at places and on trees.
--     clause-there, clause-back     refusal 10
-- Assumes nothing.
use Prim.Native.Nat.{ℕ}
use mathlib.Core.Path.{◌≡◌, refl, sym, ap₂, ◌∙◌}
use mathlib.Core.Bool.{Bool, true, ◌&&◌}
use mathlib.Core.List.{List, [], ◌∷◌, map, Memᴰ}
use lib.ListN.{length, get_or}
use lib.Seq.{get_or-take}
use lib.Dec.{eqb}
use native.Mathlib.Omega.{arith}
use borrow.Author.Tests.{eqb-true, eq-eqb, ne_eqb}
use Rattle.cells.specs.Cell.{operands_of, same_cells}
use Rattle.cells.proofs.Cells.{same_refl}
use Rattle.headers.specs.WellFormed.{is_term}
use Rattle.meaning.specs.Sort.{Sort}
use Rattle.meaning.specs.Term.{Vars, Term, op}
use Rattle.meaning.specs.Tree.{terms_of, tree}
use Rattle.meaning.proofs.trees.Terms.{term-one}
use Rattle.meaning.proofs.trees.Passed.{Passed}
use Rattle.formulas.specs.Normal.{Normal, Normals, lit, nmany, nall, nnil, ncons}
use Rattle.formulas.specs.Clauses.{Clause, cnf}
use Rattle.formulas.specs.Built.{Pool, count}
use Rattle.meaning.specs.Skeleton.{build, builds, normals}
use Rattle.meaning.proofs.places.Operands.{IsTerm, AllTerms}
use Rattle.meaning.proofs.places.FormFits.{FitsN, FitsNs}
use Rattle.meaning.proofs.truth.Leaves.{EachN, EachNs, EachC, EachCs, cnf-each}
use Rattle.meaning.proofs.truth.Over.{or_left, or_right}
use Rattle.formulas.specs.ClauseLists.{clause_places}
use Rattle.building.specs.Arrays.{clausal_in, clausal_form_in}
use Rattle.normal_form.proofs.InternTree.{term_in, on_pool}
use Rattle.normal_form.proofs.ReadBack.{leaf_of}
use Rattle.normal_form.proofs.NormalFormTruth.{used-count}
use Rattle.normal_form.proofs.ClauseListTruth.{old-term, clausal-form-is, clausal-form-read, clauses-are, clause-places-are}
use Rattle.formulas.specs.Pattern.{operator}
use Rattle.meaning.proofs.patterns.Passes.{cond-some}
use Rattle.meaning.proofs.patterns.Trees.{term-below, AllTerms as Operands}
use Rattle.clausification.specs.QntCnf.{is_clause, any_clause, clauses_from}
use Rattle.rules.proofs.sound.QntCnf.{passing, or-tree}
use Rattle.schemas.specs.Schemas.{IsClause, clauses_of}
use Rattle.meaning.proofs.patterns.Back.{operator-back}
use Rattle.normal_form.proofs.Single.{clausal-single}

-- ---- every literal is a term of the pool
module _ (tags : List ℕ) (n : ℕ) where
  mutual
    fits_each : (f : Normal (List ℕ) ℕ) → FitsN tags n f → EachN (IsTerm tags n) f
    fits_each (lit b x) o = o
    fits_each (nmany b ns) o = fits-all-each ns o
    fits_each (nall b vs f) o = fits_each f o.1

    fits-all-each : (fs : Normals (List ℕ) ℕ) → FitsNs tags n fs → EachNs (IsTerm tags n) fs
    fits-all-each nnil o = tt
    fits-all-each (ncons f fs) o = (fits_each f o.0, fits-all-each fs o.1)

  abbrev AllIn : List (List ℕ) → Type 0
  AllIn [] = Unit {0}
  AllIn (us ∷ cs) = AllTerms tags n us × AllIn cs

module _ (q : Pool) where
  places-terms : (c : Clause (List ℕ) ℕ) (d : Clause Vars Term) → map (on_pool q) c ≡ map leaf_of d → EachC (IsTerm q.tags (count q)) c
      → AllTerms q.tags (count q) (clause_places c)
  places-terms [] d e o = tt
  places-terms (l ∷ c) [] e o = let z : ◌≡◌ {A = ℕ} 0 1 = cc in absurd (omega arith)
  places-terms (lit b x ∷ c) (m ∷ d) e o = (o.0, places-terms c d (cc) o.1)
  places-terms (nmany b ns ∷ c) (m ∷ d) e o = let z : ◌≡◌ {A = ℕ} 0 1 = cc in absurd (omega arith)
  places-terms (nall b vs f ∷ c) (m ∷ d) e o = let z : ◌≡◌ {A = ℕ} 0 1 = cc in absurd (omega arith)

  all-places-terms : (cs : List (Clause (List ℕ) ℕ)) (ds : List (Clause Vars Term)) → map (map (on_pool q)) cs ≡ map (map leaf_of) ds
      → EachCs (IsTerm q.tags (count q)) cs → AllIn q.tags (count q) (map clause_places cs)
  all-places-terms [] ds e o = tt
  all-places-terms (c ∷ cs) [] e o = let z : ◌≡◌ {A = ℕ} 0 1 = cc in absurd (omega arith)
  all-places-terms (c ∷ cs) (d ∷ ds) e o = (places-terms c d (cc) o.0, all-places-terms cs ds (cc) o.1)

-- ---- a clause of places among many, and the clause of terms that stands there
module _ (at : ℕ → Term) (test : List ℕ → Bool) where
  module _ (tags : List ℕ) (n : ℕ) (d : Clause Vars Term) (go : (us : List ℕ) → AllTerms tags n us → map at us ≡ map build d → test us ≡ true) where
    present : (cs : List (List ℕ)) (ds : List (Clause Vars Term)) → map (map at) cs ≡ map (map build) ds → AllIn tags n cs → Memᴰ d ds → any_clause test cs ≡ true
    unfolding any_clause
    present [] (e ∷ ds) z a m = let y : ◌≡◌ {A = ℕ} 0 1 = cc in absurd (omega arith)
    present (c ∷ cs) (e ∷ ds) z a (Memᴰ.head p) = or_left (test c) _ (go c a.0 (cc))
    present (c ∷ cs) (e ∷ ds) z a (Memᴰ.tail m) = or_right (test c) _ (present cs ds (cc) a.1 m)
    present [] [] z a m = elim m [ ]
    present (c ∷ cs) [] z a m = elim m [ ]

module _ {tags values rules : List ℕ} {n : ℕ} (c : Passed tags values rules n) (t : ℕ) (term : is_term tags n t ≡ true) where
  q : Pool
  q = (clausal_in tags values n t).pool

  at : ℕ → Term
  unfolding q
  at = term_in q

  -- a term of the pool is one of the pool that is built
  old-in : (u : ℕ) → is_term tags n u ≡ true → IsTerm q.tags (count q) u
  unfolding q
  old-in u k =
      let (h, m) = term-below c t term in
      let i = clausal-form-is c t h m in
      let (l, o) = term-below c u k in
      (omega (arith, i.grows.longer, used-count c), rw (i.grows.tags-same u (omega (arith, used-count c)), get_or-take n tags u 0 l) o)

  old : (u : ℕ) → is_term tags n u ≡ true → at u ≡ tree tags values u
  unfolding q at
  old u k =
      let (h, m) = term-below c t term in
      let i = clausal-form-is c t h m in
      let (l, o) = term-below c u k in
      old-term c q i.sound.good i.grows u l o

  one-in : (u v : ℕ) → IsTerm q.tags (count q) u → IsTerm q.tags (count q) v → at u ≡ at v → u ≡ v
  unfolding q at
  one-in u v (h, k) (l, m) e =
      let (a, b) = term-below c t term in
      let i = clausal-form-is c t a b in
      term-one q.tags q.values (count q) (omega (arith, i.sound.good.size)) i.sound.formed (clausal-single c t) u v h l k m e

  places-are : map (map at) (clauses_from tags values n t) ≡ map (map build) (clauses_of (tree tags values t))
  unfolding q at clauses_from
  places-are = let (h, k) = term-below c t term in clause-places-are c t h k

  places-in : AllIn q.tags (count q) (clauses_from tags values n t)
  unfolding q clauses_from
  places-in =
      let (h, k) = term-below c t term in
      all-places-terms q (cnf (clausal_form_in tags values n t)) (clauses_of (tree tags values t)) (clauses-are c t h k)
      (cnf-each (IsTerm q.tags (count q)) (clausal_form_in tags values n t) (fits_each q.tags (count q) (clausal_form_in tags values n t) (clausal-form-read c t h k).fits))

  -- ---- the term at x
  module _ (x : ℕ) (k : is_term tags n x ≡ true) where
    is-there : (us : List ℕ) (d : Clause Vars Term) → map at us ≡ map build d → is_clause tags values x us ≡ true → IsClause (tree tags values x) d
    unfolding is_clause
    is-there [] [] e b = or-tree c at old x k [] [] e b
    is-there [] (m ∷ d) e b = let z : ◌≡◌ {A = ℕ} 0 1 = cc in absurd (omega arith)
    is-there (u ∷ us) [] e b = let z : ◌≡◌ {A = ℕ} 0 1 = cc in absurd (omega arith)
    is-there (u ∷ []) (m ∷ []) e b =
        let z : u ≡ x = eqb-true u x b in
        let y : at x ≡ build m = cc in
        sym (old x k) ∙ y
    is-there (u ∷ []) (m ∷ (m' ∷ d)) e b = let z : ◌≡◌ {A = ℕ} 0 1 = cc in absurd (omega arith)
    is-there (u ∷ (u' ∷ us)) (m ∷ []) e b = let z : ◌≡◌ {A = ℕ} 0 1 = cc in absurd (omega arith)
    is-there (u ∷ (u' ∷ us)) (m ∷ (m' ∷ d)) e b =
        or-tree c at old x k (u ∷ (u' ∷ us)) (m ∷ (m' ∷ d)) e (rw (ne_eqb (length (u ∷ (u' ∷ us))) 1 (λ z. omega arith)) at b)

    same_operands : (os us : List ℕ) (d : Clause Vars Term) → Operands tags n os → AllTerms q.tags (count q) us
        → terms_of (tree tags values) os ≡ builds (normals d) → map at us ≡ map build d → os ≡ us
    unfolding terms_of
    same_operands [] [] d a b e f = refl
    same_operands [] (u ∷ us) [] a b e f = cc
    same_operands [] (u ∷ us) (m ∷ d) a b e f = cc
    same_operands (o ∷ os) [] [] a b e f = cc
    same_operands (o ∷ os) [] (m ∷ d) a b e f = cc
    same_operands (o ∷ os) (u ∷ us) [] a b e f = cc
    same_operands (o ∷ os) (u ∷ us) (m ∷ d) a b e f =
        let y : tree tags values o ≡ build m = cc in
        let z : at u ≡ build m = cc in
        ap₂ ◌∷◌ (one-in o u (old-in o a.0) b.0 (old o a.0 ∙ (y ∙ sym z))) (same_operands os us d a.1 b.1 (cc) (cc))

    or-back : (us : List ℕ) (d : Clause Vars Term) → AllTerms q.tags (count q) us → map at us ≡ map build d → (s : Sort) → tree tags values x ≡ op 37 s (builds (normals d))
        → (eqb (get_or tags x 0) 37 && same_cells (operands_of tags values x) us) ≡ true
    unfolding operator
    or-back us d a e s is =
        let o = operator-back c 37 x (omega arith) (omega arith) k s (builds (normals d)) is in
        let (l, z) = cond-some (eqb (get_or tags x 0) 37) (operands_of tags values x) o.os o.found in
        rw (l, z, same_operands o.os us d o.operands a o.terms e) (same_refl us)

    is-back : (us : List ℕ) (d : Clause Vars Term) → AllTerms q.tags (count q) us → map at us ≡ map build d → IsClause (tree tags values x) d → is_clause tags values x us ≡ true
    unfolding is_clause
    is-back [] [] a e b = or-back [] [] a e b.0 b.1
    is-back [] (m ∷ d) a e b = let z : ◌≡◌ {A = ℕ} 0 1 = cc in absurd (omega arith)
    is-back (u ∷ us) [] a e b = let z : ◌≡◌ {A = ℕ} 0 1 = cc in absurd (omega arith)
    is-back (u ∷ []) (m ∷ []) a e b = let y : at u ≡ build m = cc in eq-eqb u x (one-in u x a.0 (old-in x k) (y ∙ (sym b ∙ sym (old x k))))
    is-back (u ∷ []) (m ∷ (m' ∷ d)) a e b = let z : ◌≡◌ {A = ℕ} 0 1 = cc in absurd (omega arith)
    is-back (u ∷ (u' ∷ us)) (m ∷ []) a e b = let z : ◌≡◌ {A = ℕ} 0 1 = cc in absurd (omega arith)
    is-back (u ∷ (u' ∷ us)) (m ∷ (m' ∷ d)) a e b =
        rw (ne_eqb (length (u ∷ (u' ∷ us))) 1 (λ z. omega arith)) (or-back (u ∷ (u' ∷ us)) (m ∷ (m' ∷ d)) a e b.0 b.1)

    pub clause-there : {C : Type 0} → any_clause (is_clause tags values x) (clauses_from tags values n t) ≡ true
        → ((d : Clause Vars Term) → Memᴰ d (clauses_of (tree tags values t)) → IsClause (tree tags values x) d → C) → C
    clause-there e go =
        passing at (is_clause tags values x) (clauses_from tags values n t) (clauses_of (tree tags values t)) places-are e (λ us d f b m. go d m (is-there us d f b))

    pub clause-back : (d : Clause Vars Term) → Memᴰ d (clauses_of (tree tags values t)) → IsClause (tree tags values x) d
        → any_clause (is_clause tags values x) (clauses_from tags values n t) ≡ true
    clause-back d m is =
        present at (is_clause tags values x) q.tags (count q) d (λ us a e. is-back us d a e is) (clauses_from tags values n t) (clauses_of (tree tags values t)) places-are places-in m
