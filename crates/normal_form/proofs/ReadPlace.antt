-- The form that is read back at a place is what is read of the place's tree; it names terms and sorts of the pool, and so does its
-- taken-out form.
--     read_at         at the place of a term
--     prenex-fits     the taken-out form
-- Assumes nothing.
use Prim.Native.Nat.{ℕ, zero, suc, ◌≤◌, ◌<◌, ◌%◌}
use mathlib.Core.Path.{◌≡◌, refl, ap, ap₂, ◌∙◌}
use mathlib.Core.Bool.{Bool, true, false, cond}
use mathlib.Core.List.{List, [], ◌∷◌}
use lib.ListN.{length, get_or, drop}
use lib.Dec.{ltb, eqb}
use native.Mathlib.Omega.{arith}
use borrow.Author.Tests.{lt-ltb, le-ltb, ne_eqb, leb-true}
use Rattle.cells.specs.Place.{term_at}
use Rattle.cells.specs.ByPlace.{by_place-is}
use Rattle.cells.specs.Cell.{cells_of, operands_of}
use Rattle.headers.specs.WellFormed.{shape_of, count_fits, kind_at, pair_kind, is_term_tag}
use Rattle.headers.specs.declared.well_formed.Shape.TheVariants.{Binder, Operator}
use Rattle.meaning.specs.Term.{Vars, Term}
use Rattle.meaning.specs.Tree.{sort_tree, terms_of, term_from}
use Rattle.meaning.proofs.trees.Header.{Each, Described, term-cell, term-tagged}
use Rattle.meaning.proofs.trees.Walk.{place-described}
use Rattle.meaning.proofs.trees.Tags.{shape-op, by-term-tag}
use Rattle.meaning.proofs.trees.Parts.{from_one, from-two}
use Rattle.meaning.proofs.trees.Terms.{term_is, term-op, even-rest}
use Rattle.formulas.specs.declared.kinds.ConnectiveKind.{ConnectiveKind}
use Rattle.formulas.specs.declared.kinds.ConnectiveKind.TheVariants.{And, Or}
use Rattle.formulas.specs.declared.view.NormalView.{NormalView}
use Rattle.formulas.specs.declared.view.NormalView.TheVariants.{Literal, Connective, Forall}
use Rattle.formulas.specs.Formula.{is_and, all_before}
use Rattle.formulas.specs.Normal.{Normal, Normals, lit, nmany, nall, nnil, ncons, prenex, prenexes}
use Rattle.formulas.specs.Built.{Pool, count, normal_view, normals_of, normal_by, normal_at}
use Rattle.meaning.proofs.places.Operands.{IsTerm, AllTerms, all-terms, all-before}
use Rattle.meaning.proofs.places.FormTree.{vars_at}
use Rattle.meaning.proofs.places.FormFits.{FitsN, FitsNs, each_more}
use Rattle.normal_form.proofs.TreeGrows.{Sound}
use Rattle.normal_form.proofs.InternTree.{term_in, on_pool, on_pools}
use Rattle.normal_form.proofs.ReadBack.{read_op, read_term, read_terms}

-- m is f by the trees of its places, which are the pool's
pub record ReadAs (q : Pool) (m : Normal (List ℕ) ℕ) (f : Normal Vars Term) : Type 0 where
  pub is : on_pool q m ≡ f
  pub fits : FitsN q.tags (count q) m

record AllReadAs (q : Pool) (ms : Normals (List ℕ) ℕ) (fs : Normals Vars Term) : Type 0 where
  pub are : on_pools q ms ≡ fs
  pub fit : FitsNs q.tags (count q) ms

-- ---- the term at t, where rec is right before t
module _ (q : Pool) (t : ℕ) (here : IsTerm q.tags (count q) t) (rec : ℕ → Normal (List ℕ) ℕ)
    (right : (u : ℕ) → IsTerm q.tags t u → ReadAs q (rec u) (read_term (term_in q u))) where
  operands-read : (os : List ℕ) → AllTerms q.tags t os → AllReadAs q (normals_of rec os) (read_terms (terms_of (term_in q) os))
  unfolding read_term terms_of
  operands-read [] a = record { are = refl; fit = tt }
  operands-read (u ∷ os) a =
      let r = right u a.0 in
      let rs = operands-read os a.1 in
      record { are = ap₂ ncons r.is rs.are; fit = (r.fits, rs.fit) }

  -- read as v, with the operands os, the term is f
  abbrev Reads : List ℕ → NormalView → Normal Vars Term → Type 0
  Reads os v f = ReadAs q (normal_by v t os rec) f

  either : (os : List ℕ) (b : Bool) (v w : NormalView) (f g : Normal Vars Term) → Reads os v f → Reads os w g → Reads os (cond b v w) (cond b f g)
  either os true v w f g y z = y
  either os false v w f g y z = z

  literal-reads : (os : List ℕ) (x : Term) → term_in q t ≡ x → Reads os Literal (lit true x)
  unfolding normal_by
  literal-reads os x is = record { is = ap (lit true) is; fits = here }

  still-literal : (os : List ℕ) (b : Bool) (x : Term) → term_in q t ≡ x → Reads os (cond b Literal Literal) (lit true x)
  still-literal os true x is = literal-reads os x is
  still-literal os false x is = literal-reads os x is

  connective-reads : (b : ConnectiveKind) (os : List ℕ) → AllTerms q.tags t os → Reads os (Connective b) (nmany (is_and b) (read_terms (terms_of (term_in q) os)))
  unfolding normal_by
  connective-reads b os a = let r = operands-read os a in record { is = ap (nmany (is_and b)) r.are; fits = r.fit }

  -- ---- by the tag k and the cells
  abbrev run : ℕ → List ℕ → List ℕ
  run k cells = cond (ltb k 22) [] (drop 1 cells)

  abbrev view : ℕ → List ℕ → NormalView
  view k cells =
      cond (eqb k 23)
      (cond (ltb (get_or (run k cells) 0 0) t) (Forall (term_at (get_or (run k cells) 0 0))) Literal)
      (cond (all_before t (run k cells)) (cond (eqb k 36) (Connective And) (cond (eqb k 37) (Connective Or) Literal)) Literal)

  abbrev made : ℕ → List ℕ → Term
  made k cells = term_from k cells (sort_tree q.tags q.values) (term_in q)

  abbrev Right : ℕ → List ℕ → Type 0
  Right k cells = term_in q t ≡ made k cells → Each q.tags t (shape_of k) 0 cells → Reads (run k cells) (view k cells) (read_term (made k cells))

  op-reads : (cells : List ℕ) (k : ℕ) → 32 ≤ k → k < 167 → count_fits (shape_of k) (length cells) ≡ true → Right k cells
  unfolding count_fits read_term read_op
  op-reads cells k l m c is f =
      from_one (λ cs. term_in q t ≡ made k cs → Each q.tags t Operator 0 cs → Reads (run k cs) (view k cs) (read_term (made k cs)))
      (λ s os is f.
      let a : AllTerms q.tags t os = all-terms q.tags t 1 os (omega arith) f.1 in
      let made-is = term-op (sort_tree q.tags q.values) (term_in q) k (s ∷ os) l m in
      rw (le-ltb k 22 (omega arith), ne_eqb k 23 (λ z. omega arith), all-before q.tags t os a, made-is)
      (either os (eqb k 36) (Connective And) _ _ _ (connective-reads And os a)
      (either os (eqb k 37) (Connective Or) Literal _ _ (connective-reads Or os a) (literal-reads os _ (is ∙ made-is)))))
      cells (leb-true 1 (length cells) (rw (shape-op k l m) at c)) is (rw (shape-op k l m) at f)

  forall-reads : (s body : ℕ) (cs : List ℕ) → length (s ∷ (body ∷ cs)) % 2 ≡ 0 → Right 23 (s ∷ (body ∷ cs))
  unfolding read_term term_from normal_by shape_of kind_at pair_kind
  forall-reads s body cs e is f =
      let a = term-cell q.tags t body f.1.0 in
      let r = right body a in
      let h = here.0 in
      let l = a.0 in
      rw (lt-ltb body t l)
      (record {
        is = ap (nall true (vars_at q.tags q.values cs)) r.is;
        fits = ((omega arith, each_more q.tags t (count q) (omega arith) Binder 2 cs f.1.1), r.fits);
      })

  reads : (cells : List ℕ) (k : ℕ) → is_term_tag k ≡ true → count_fits (shape_of k) (length cells) ≡ true → Right k cells
  unfolding read_term term_from shape_of count_fits kind_at pair_kind
  reads cells k m c =
      by-term-tag (λ k. count_fits (shape_of k) (length cells) ≡ true → Right k cells)
      (λ e is f. still-literal [] (all_before t []) _ is)
      (λ e is f. still-literal [] (all_before t []) _ is)
      (λ e is f. still-literal [] (all_before t []) _ is)
      (λ e is f. still-literal [] (all_before t []) _ is)
      (λ e is f. still-literal [] (all_before t []) _ is)
      (λ e is f. still-literal [] (all_before t []) _ is)
      (λ e is f. still-literal (drop 1 cells) (all_before t (drop 1 cells)) _ is)
      (λ e. from-two (λ cs. length cs % 2 ≡ 0 → Right 23 cs) forall-reads cells (even-rest _ e).0 (even-rest _ e).1)
      (λ e is f. still-literal (drop 1 cells) (all_before t (drop 1 cells)) _ is)
      (λ e is f. still-literal (drop 1 cells) (all_before t (drop 1 cells)) _ is)
      (λ e is f. still-literal (drop 1 cells) (all_before t (drop 1 cells)) _ is)
      (λ e is f. still-literal (drop 1 cells) (all_before t (drop 1 cells)) _ is)
      (λ k l m. op-reads cells k l m)
      k (length cells) m c c

module _ (q : Pool) (s : Sound q) where
  read_below : (d t : ℕ) → t < d → IsTerm q.tags (count q) t → ReadAs q (normal_at q t) (read_term (term_in q t))
  unfolding normal_at normal_view operands_of
  read_below zero t f h = absurd (omega arith)
  read_below (suc d) t f h =
      let whole : count q ≤ length q.values = omega (arith, s.good.size) in
      let l = h.0 in
      let tree_is = term_is q.tags q.values (count q) whole s.formed t l h.1 in
      let at : Described q.tags q.values t = place-described q.tags q.values (count q) s.formed whole t l (term-tagged _ h.1) in
      rw (by_place-is (λ y rec. normal_by (normal_view q.tags q.values y) y (operands_of q.tags q.values y) rec) (lit true 0) t, tree_is)
      (reads q t h (λ u. cond (ltb u t) (normal_at q u) (lit true 0))
      (λ u i. let m = i.0 in rw (lt-ltb u t m) (read_below d u (omega arith) (omega arith, i.1)))
      (cells_of q.values t) (get_or q.tags t 0) h.1 at.count tree_is at.each-cell)

  pub read_at : (t : ℕ) → IsTerm q.tags (count q) t → ReadAs q (normal_at q t) (read_term (term_in q t))
  read_at t = read_below (suc t) t (omega arith)

-- ---- foralls taken out
module _ (tags : List ℕ) (n : ℕ) where
  mutual
    pub prenex-fits : (f : Normal (List ℕ) ℕ) → FitsN tags n f → FitsN tags n (prenex f)
    prenex-fits (lit b x) o = o
    prenex-fits (nmany b ns) o = prenexes-fit ns o
    prenex-fits (nall true vs f) o = prenex-fits f o.1
    prenex-fits (nall false vs f) o = o

    prenexes-fit : (fs : Normals (List ℕ) ℕ) → FitsNs tags n fs → FitsNs tags n (prenexes fs)
    prenexes-fit nnil o = o
    prenexes-fit (ncons f fs) o = (prenex-fits f o.0, prenexes-fit fs o.1)
