-- The formula of a term of a pool that passes check 14 names places of terms, and its binding lists are pairs of a name and a place of a
-- sort; so does its normal form.
-- Assumes nothing.
use Rattle.std.specs.Prelude.{None}
use Prim.Native.Nat.{ℕ, zero, suc, ◌≤◌, ◌<◌, ◌%◌}
use mathlib.Core.Path.{◌≡◌, refl}
use mathlib.Core.Bool.{Bool, true, false, not, cond}
use mathlib.Core.List.{List, [], ◌∷◌}
use lib.ListN.{length, get_or, drop}
use lib.Dec.{ltb, eqb}
use native.Mathlib.Omega.{arith}
use borrow.Author.Tests.{lt-ltb, le-ltb, eqb-true, leb-true}
use Rattle.cells.specs.ByPlace.{by_place-is}
use Rattle.cells.specs.Place.{term_at}
use Rattle.cells.specs.Cell.{cells_of, sort_of, operands_of}
use Rattle.headers.specs.WellFormed.{shape_of, count_fits, kind_at, pair_kind, is_term_tag, value_fits, first_bad}
use Rattle.headers.specs.declared.well_formed.Shape.{Shape}
use Rattle.headers.specs.declared.well_formed.Shape.TheVariants.{Binder, Operator}
use Rattle.headers.specs.declared.well_formed.CellKind.{CellKind}
use Rattle.headers.specs.declared.well_formed.CellKind.TheVariants.{Number, OfSort, OfTerm}
use Rattle.meaning.proofs.trees.Header.{Each, Described, sort-cell, term-cell, term-tagged}
use Rattle.meaning.proofs.trees.Walk.{place-described}
use Rattle.meaning.proofs.trees.Tags.{shape-op, by-term-tag}
use Rattle.meaning.proofs.trees.Parts.{from_one, from-two}
use Rattle.meaning.proofs.trees.Terms.{even-rest}
use Rattle.formulas.specs.declared.kinds.ConnectiveKind.TheVariants.{And, Or}
use Rattle.formulas.specs.declared.kinds.QuantifierKind.TheVariants.{Forall, Exists}
use Rattle.formulas.specs.declared.view.View.{View}
use Rattle.formulas.specs.declared.view.View.TheVariants.{Opaque, Not, AndOr, Implies, Ite, Iff, Quantifier}
use Rattle.formulas.specs.Formula.{Form, Forms, opaque, neg, many, imp, ite, iff, all, fnil, fcons, all_before, equality, connective, quantifier, view_of, forms_of, form_by, form}
use Rattle.formulas.specs.Normal.{Normal, Normals, lit, nmany, nall, nnil, ncons, nnf, nnfs}
use Rattle.meaning.proofs.places.Operands.{IsTerm, AllTerms, all-terms, all-before, term-at}

-- pairs of a name and a place of a sort before p
abbrev pub Pairs : List ℕ → ℕ → List ℕ → Type 0
Pairs tags p vs = (length vs % 2 ≡ 0) × Each tags p Binder 2 vs

module _ (tags : List ℕ) (n : ℕ) where
  abbrev mutual
    pub FitsF : Form (List ℕ) ℕ → Type 0
    FitsF (opaque t) = IsTerm tags n t
    FitsF (neg f) = FitsF f
    FitsF (many b fs) = FitsFs fs
    FitsF (imp f g) = FitsF f × FitsF g
    FitsF (ite f g h) = FitsF f × FitsF g × FitsF h
    FitsF (iff f g) = FitsF f × FitsF g
    FitsF (all b vs f) = Pairs tags n vs × FitsF f

    pub FitsFs : Forms (List ℕ) ℕ → Type 0
    FitsFs fnil = Unit {0}
    FitsFs (fcons f fs) = FitsF f × FitsFs fs

  abbrev mutual
    pub FitsN : Normal (List ℕ) ℕ → Type 0
    FitsN (lit b t) = IsTerm tags n t
    FitsN (nmany b ns) = FitsNs ns
    FitsN (nall b vs f) = Pairs tags n vs × FitsN f

    pub FitsNs : Normals (List ℕ) ℕ → Type 0
    FitsNs nnil = Unit {0}
    FitsNs (ncons f fs) = FitsN f × FitsNs fs

  mutual
    pub nnf-fits : (f : Form (List ℕ) ℕ) (p : Bool) → FitsF f → FitsN (nnf f p)
    nnf-fits (opaque t) p o = o
    nnf-fits (neg f) p o = nnf-fits f (not p) o
    nnf-fits (many b fs) p o = nnfs-fits fs p o
    nnf-fits (imp f g) p o = (nnf-fits f (not p) o.0, (nnf-fits g p o.1, tt))
    nnf-fits (ite f g h) p o =
        ((nnf-fits f (not p) o.0, (nnf-fits g p o.1, tt)), ((nnf-fits f p o.0, (nnf-fits h p o.2, tt)), tt))
    nnf-fits (iff f g) p o =
        ((nnf-fits f (not p) o.0, (nnf-fits g p o.1, tt)), ((nnf-fits g (not p) o.1, (nnf-fits f p o.0, tt)), tt))
    nnf-fits (all b vs f) p o = (o.0, nnf-fits f p o.1)

    nnfs-fits : (fs : Forms (List ℕ) ℕ) (p : Bool) → FitsFs fs → FitsNs (nnfs fs p)
    nnfs-fits fnil p o = tt
    nnfs-fits (fcons f fs) p o = (nnf-fits f p o.0, nnfs-fits fs p o.1)

-- ---- cells that name earlier places than p name earlier ones than q
module _ (tags : List ℕ) (p q : ℕ) (more : p ≤ q) where
  value-more : (kind : CellKind) (v : ℕ) → value_fits tags p kind v ≡ true → value_fits tags q kind v ≡ true
  unfolding value_fits
  value-more Number v e = refl
  value-more OfSort v e = let (l, k) = sort-cell tags p v e in rw (lt-ltb v q (omega arith)) k
  value-more OfTerm v e = let (l, k) = term-cell tags p v e in rw (lt-ltb v q (omega arith)) k

  pub each_more : (shape : Shape) (j : ℕ) (cs : List ℕ) → Each tags p shape j cs → Each tags q shape j cs
  each_more shape j [] f = tt
  each_more shape j (c ∷ cs) f = (value-more (kind_at shape j) c f.0, each_more shape (suc j) cs f.1)

-- ---- the term at t
module _ (tags values : List ℕ) (t : ℕ) where
  -- what is read are terms before t, and pairs
  abbrev Seen : View → List ℕ → Type 0
  Seen Opaque os = Unit {0}
  Seen (Not a) os = IsTerm tags t a.0
  Seen (AndOr b) os = AllTerms tags t os
  Seen (Implies a b) os = IsTerm tags t a.0 × IsTerm tags t b.0
  Seen (Ite a b c) os = IsTerm tags t a.0 × IsTerm tags t b.0 × IsTerm tags t c.0
  Seen (Iff a b) os = IsTerm tags t a.0 × IsTerm tags t b.0
  Seen (Quantifier b body) os = IsTerm tags t body.0 × Pairs tags t (drop 1 os)

  either : (b : Bool) (v w : View) (os : List ℕ) → (b ≡ true → Seen v os) → (b ≡ false → Seen w os) → Seen (cond b v w) os
  either true v w os y z = y refl
  either false v w os y z = z refl

  module _ (os : List ℕ) (a : AllTerms tags t os) where
    at : (i k : ℕ) → eqb (length os) k ≡ true → i < k → IsTerm tags t (get_or os i 0)
    at i k e h = term-at tags t os a i (omega (arith, eqb-true (length os) k e))

    connective-seen : (k : ℕ) → Seen (connective values k os) os
    unfolding connective equality
    connective-seen k =
        either (eqb k 36) (AndOr And) _ os (λ e. a)
        (λ e. either (eqb k 37) (AndOr Or) _ os (λ e. a)
        (λ e. either (eqb k 39) (equality values os) _ os
        (λ e. either (eqb (length os) 2) _ Opaque os
        (λ o. either (eqb (sort_of values (get_or os 0 0)) 0) (Iff (term_at (get_or os 0 0)) (term_at (get_or os 1 0))) Opaque os
        (λ e. (at 0 2 o (omega arith), at 1 2 o (omega arith))) (λ e. tt)) (λ e. tt))
        (λ e. either (eqb k 34) (cond (eqb (length os) 1) (Not (term_at (get_or os 0 0))) Opaque) _ os
        (λ e. either (eqb (length os) 1) (Not (term_at (get_or os 0 0))) Opaque os (λ o. at 0 1 o (omega arith)) (λ e. tt))
        (λ e. either (eqb k 35) (cond (eqb (length os) 2) (Implies (term_at (get_or os 0 0)) (term_at (get_or os 1 0))) Opaque) _ os
        (λ e. either (eqb (length os) 2) (Implies (term_at (get_or os 0 0)) (term_at (get_or os 1 0))) Opaque os (λ o. (at 0 2 o (omega arith), at 1 2 o (omega arith))) (λ e. tt))
        (λ e. either (eqb k 41) (cond (eqb (length os) 3) (Ite (term_at (get_or os 0 0)) (term_at (get_or os 1 0)) (term_at (get_or os 2 0))) Opaque) Opaque os
        (λ e. either (eqb (length os) 3) (Ite (term_at (get_or os 0 0)) (term_at (get_or os 1 0)) (term_at (get_or os 2 0))) Opaque os
        (λ o. (at 0 3 o (omega arith), at 1 3 o (omega arith), at 2 3 o (omega arith))) (λ e. tt))
        (λ e. tt))))))

  -- ---- by the tag k and the cells
  abbrev run : ℕ → List ℕ → List ℕ
  run k cells = cond (ltb k 22) [] (drop 1 cells)

  abbrev view : ℕ → List ℕ → View
  view k cells =
      cond (ltb k 32)
      (cond (ltb (get_or (run k cells) 0 0) t) (quantifier k (get_or (run k cells) 0 0)) Opaque)
      (cond (all_before t (run k cells)) (connective values k (run k cells)) Opaque)

  abbrev Right : ℕ → List ℕ → Type 0
  Right k cells = Each tags t (shape_of k) 0 cells → Seen (view k cells) (run k cells)

  opaque-seen : (b : Bool) (os : List ℕ) → Seen (cond b Opaque Opaque) os
  opaque-seen true os = tt
  opaque-seen false os = tt

  op-seen : (cells : List ℕ) (k : ℕ) → 32 ≤ k → k < 167 → count_fits (shape_of k) (length cells) ≡ true → Right k cells
  unfolding count_fits
  op-seen cells k l m c f =
      from_one (λ cs. Each tags t Operator 0 cs → Seen (view k cs) (run k cs))
      (λ s os f.
      let a : AllTerms tags t os = all-terms tags t 1 os (omega arith) f.1 in
      rw (le-ltb k 22 (omega arith), le-ltb k 32 l, all-before tags t os a) (connective-seen os a k))
      cells (leb-true 1 (length cells) (rw (shape-op k l m) at c)) (rw (shape-op k l m) at f)

  seen : (cells : List ℕ) (k : ℕ) → is_term_tag k ≡ true → count_fits (shape_of k) (length cells) ≡ true → Right k cells
  unfolding quantifier shape_of count_fits kind_at pair_kind
  seen cells k m c =
      by-term-tag (λ k. count_fits (shape_of k) (length cells) ≡ true → Right k cells)
      (λ e f. opaque-seen (ltb 0 t) [])
      (λ e f. opaque-seen (ltb 0 t) [])
      (λ e f. opaque-seen (ltb 0 t) [])
      (λ e f. opaque-seen (ltb 0 t) [])
      (λ e f. opaque-seen (ltb 0 t) [])
      (λ e f. opaque-seen (ltb 0 t) [])
      (λ e f. opaque-seen (ltb (get_or (drop 1 cells) 0 0) t) (drop 1 cells))
      (λ e. from-two (λ cs. length cs % 2 ≡ 0 → Right 23 cs)
      (λ s b cs o f. either (ltb b t) (Quantifier Forall (term_at b)) Opaque (b ∷ cs) (λ z. (term-cell tags t b f.1.0, (omega arith, f.1.1))) (λ z. tt)) cells (even-rest _ e).0 (even-rest _ e).1)
      (λ e. from-two (λ cs. length cs % 2 ≡ 0 → Right 24 cs)
      (λ s b cs o f. either (ltb b t) (Quantifier Exists (term_at b)) Opaque (b ∷ cs) (λ z. (term-cell tags t b f.1.0, (omega arith, f.1.1))) (λ z. tt)) cells (even-rest _ e).0 (even-rest _ e).1)
      (λ e f. opaque-seen (ltb (get_or (drop 1 cells) 0 0) t) (drop 1 cells))
      (λ e f. opaque-seen (ltb (get_or (drop 1 cells) 0 0) t) (drop 1 cells))
      (λ e f. opaque-seen (ltb (get_or (drop 1 cells) 0 0) t) (drop 1 cells))
      (λ k l m. op-seen cells k l m)
      k (length cells) m c c

  -- ---- the formula of what is read, where rec fits before t
  module _ (n : ℕ) (here : IsTerm tags n t) (rec : ℕ → Form (List ℕ) ℕ) (fits : (u : ℕ) → IsTerm tags t u → FitsF tags n (rec u)) where
    forms-fit : (os : List ℕ) → AllTerms tags t os → FitsFs tags n (forms_of rec os)
    forms-fit [] a = tt
    forms-fit (u ∷ os) a = (fits u a.0, forms-fit os a.1)

    by-view : (v : View) (os : List ℕ) → Seen v os → FitsF tags n (form_by v t os rec)
    unfolding form_by
    by-view Opaque os a = here
    by-view (Not u) os a = fits u.0 a
    by-view (AndOr b) os a = forms-fit os a
    by-view (Implies u v) os a = (fits u.0 a.0, fits v.0 a.1)
    by-view (Ite u v w) os a = (fits u.0 a.0, fits v.0 a.1, fits w.0 a.2)
    by-view (Iff u v) os a = (fits u.0 a.0, fits v.0 a.1)
    by-view (Quantifier b body) os a = let h = here.0 in ((a.1.0, each_more tags t n (omega arith) Binder 2 (drop 1 os) a.1.1), fits body.0 a.0)

module _ (tags values : List ℕ) (n : ℕ) (whole : n ≤ length values) (formed : first_bad tags values n ≡ None) where
  view-seen : (t : ℕ) → IsTerm tags n t → Seen tags values t (view_of tags values t) (operands_of tags values t)
  unfolding view_of operands_of
  view-seen t (h, k) =
      let here : Described tags values t = place-described tags values n formed whole t h (term-tagged _ k) in
      seen tags values t (cells_of values t) (get_or tags t 0) k here.count here.each-cell

  fits_below : (d t : ℕ) → t < d → IsTerm tags n t → FitsF tags n (form tags values t)
  unfolding form
  fits_below zero t f i = absurd (omega arith)
  fits_below (suc d) t f i =
      rw (by_place-is (λ u rec. form_by (view_of tags values u) u (operands_of tags values u) rec) (opaque 0) t)
      (by-view tags values t n i (λ u. cond (ltb u t) (form tags values u) (opaque 0))
      (λ u j. let l = j.0 in let h = i.0 in rw (lt-ltb u t l) (fits_below d u (omega arith) (omega arith, j.1)))
      (view_of tags values t) (operands_of tags values t) (view-seen t i))

  pub form-fits : (t : ℕ) → t < n → is_term_tag (get_or tags t 0) ≡ true → FitsF tags n (form tags values t)
  form-fits t h k = fits_below (suc t) t (omega arith) (h, k)
