-- Rule 3's limits 13 and 32: what is tested of the form that is read back holds of the tree's clauses.
-- Assumes nothing.
use Prim.Native.Nat.{ℕ, ◌+◌}
use mathlib.Core.Path.{◌≡◌, refl, sym, ap, ap₂, ◌∙◌}
use mathlib.Core.Bool.{Bool, true, false, not, ◌||◌}
use mathlib.Core.List.{List, [], ◌∷◌, map}
use lib.ListN.{length, length-map}
use lib.Dec.{leb}
use borrow.Author.Tests.{leb-true, le-leb, not-true}
use Rattle.headers.specs.WellFormed.{is_term}
use Rattle.meaning.specs.Term.{Vars, Term}
use Rattle.meaning.specs.Tree.{tree}
use Rattle.meaning.proofs.trees.Header.{both}
use Rattle.meaning.proofs.trees.Passed.{Passed}
use Rattle.formulas.specs.Normal.{Normal, Normals, lit, nmany, nall, nnil, ncons, nnf, prenex, prenexes}
use Rattle.formulas.specs.Clauses.{cnf, is_empty_or, empty_or, empty_ors, literal_total}
use Rattle.meaning.specs.Skeleton.{skeleton}
use Rattle.meaning.proofs.places.FormTree.{vars_at}
use Rattle.meaning.proofs.places.Mapped.{empty_or-map}
use Rattle.building.specs.Arrays.{clausal_in, clausal_form_in}
use Rattle.normal_form.proofs.InternTree.{term_in, on_pool}
use Rattle.normal_form.proofs.ReadBack.{leaf_of, leafed, leafeds}
use Rattle.normal_form.proofs.ClauseListTruth.{clausal-form-read, clauses-are}
use Rattle.clausification.specs.QntCnf.{within_limits}
use Rattle.schemas.specs.Schemas.{clauses_of, Bounded}
use Rattle.meaning.proofs.patterns.Trees.{term-below}

-- literals that are terms change no `or`
empty-leafed : (b : Bool) (ns : Normals Vars Term) → is_empty_or b (prenexes (leafeds ns)) ≡ is_empty_or b (prenexes ns)
empty-leafed true ns = refl
empty-leafed false nnil = refl
empty-leafed false (ncons n ns) = refl

mutual
  empty_or-leafed : (m : Normal Vars Term) → empty_or (prenex (leafed m)) ≡ empty_or (prenex m)
  empty_or-leafed (lit b t) = refl
  empty_or-leafed (nmany b ns) = ap₂ ◌||◌ (empty-leafed b ns) (empty_ors-leafed ns)
  empty_or-leafed (nall true vs n) = empty_or-leafed n
  empty_or-leafed (nall false vs n) = refl

  empty_ors-leafed : (ms : Normals Vars Term) → empty_ors (prenexes (leafeds ms)) ≡ empty_ors (prenexes ms)
  empty_ors-leafed nnil = refl
  empty_ors-leafed (ncons m ms) = ap₂ ◌||◌ (empty_or-leafed m) (empty_ors-leafed ms)

literals-map : {A B : Type 0} (f : A → B) (cs : List (List A)) → literal_total (map (map f) cs) ≡ literal_total cs
literals-map f [] = refl
literals-map f (c ∷ cs) = ap₂ ◌+◌ (length-map c f) (literals-map f cs)

module _ {tags values rules : List ℕ} {n : ℕ} (c : Passed tags values rules n) (t : ℕ) (term : is_term tags n t ≡ true) where
  pub empty-is : empty_or (clausal_form_in tags values n t) ≡ empty_or (prenex (nnf (skeleton (tree tags values t)) true))
  empty-is =
      let (h, k) = term-below c t term in
      let q = (clausal_in tags values n t).pool in
      sym (empty_or-map (vars_at q.tags q.values) (term_in q) (clausal_form_in tags values n t))
      ∙ (ap empty_or (clausal-form-read c t h k).is ∙ empty_or-leafed (nnf (skeleton (tree tags values t)) true))

  clauses-is : length (cnf (clausal_form_in tags values n t)) ≡ length (clauses_of (tree tags values t))
  clauses-is =
      let (h, k) = term-below c t term in
      sym (length-map (cnf (clausal_form_in tags values n t)) (map (on_pool (clausal_in tags values n t).pool)))
      ∙ (ap length (clauses-are c t h k) ∙ length-map (clauses_of (tree tags values t)) (map leaf_of))

  literals-is : literal_total (cnf (clausal_form_in tags values n t)) ≡ literal_total (clauses_of (tree tags values t))
  literals-is =
      let (h, k) = term-below c t term in
      sym (literals-map (on_pool (clausal_in tags values n t).pool) (cnf (clausal_form_in tags values n t)))
      ∙ (ap literal_total (clauses-are c t h k) ∙ literals-map leaf_of (clauses_of (tree tags values t)))

  pub bounded-there : not (empty_or (clausal_form_in tags values n t)) ≡ true → within_limits (cnf (clausal_form_in tags values n t)) ≡ true → Bounded (tree tags values t)
  unfolding within_limits
  bounded-there e w =
      let (l, m) = both (leb (length (cnf (clausal_form_in tags values n t))) 2048) _ w in
      record {
        no-empty-or = sym empty-is ∙ not-true _ e;
        clauses = rw clauses-is at (leb-true (length (cnf (clausal_form_in tags values n t))) 2048 l);
        literals = rw literals-is at (leb-true (literal_total (cnf (clausal_form_in tags values n t))) 8192 m);
      }

  pub bounded-back : Bounded (tree tags values t) → (not (empty_or (clausal_form_in tags values n t)) ≡ true) × (within_limits (cnf (clausal_form_in tags values n t)) ≡ true)
  unfolding within_limits
  bounded-back b = (
    ap not (empty-is ∙ b.no-empty-or),
    rw (clauses-is, literals-is, le-leb (length (clauses_of (tree tags values t))) 2048 b.clauses, le-leb (literal_total (clauses_of (tree tags values t))) 8192 b.literals),
  )
