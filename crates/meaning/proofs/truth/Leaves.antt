-- A fact of every leaf of a formula holds of every leaf of its normal form, of the taken-out form and of the clauses.
--     skeleton-leaves     the leaves of a term's formula are opaque
-- Assumes nothing.
use mathlib.Core.Path.{◌≡◌, refl, sym, subst}
use Prim.Native.Nat.{ℕ}
use mathlib.Core.Bool.{Bool, true, false, not, cond}
use mathlib.Core.List.{List, [], ◌∷◌, ◌++◌, map, Memᴰ}
use lib.Dec.{eqb}
use Rattle.meaning.specs.Term.{Term, Terms, const, bit_vector, var, app, quant, bind, letin, op, no_term, tnil, tcons}
use Rattle.formulas.specs.Formula.{Form, Forms, opaque, neg, many, imp, ite, iff, all, fnil, fcons}
use Rattle.formulas.specs.Normal.{Normal, Normals, lit, nmany, nall, nnil, ncons, nnf, nnfs, prenex, prenexes}
use Rattle.formulas.specs.Clauses.{Clause, product, cnf, cnf_and, cnf_or}
use Rattle.meaning.specs.Skeleton.{not_of, implies_of, ite_of, iff_of, form_of, left_bool, skeleton, skeletons, IsOpaque, normals, clause_form}

module _ {B L : Type 0} (P : L → Type 0) where
  abbrev mutual
    pub Each : Form B L → Type 0
    Each (opaque t) = P t
    Each (neg f) = Each f
    Each (many b fs) = EachOf fs
    Each (imp f g) = Each f × Each g
    Each (ite f g h) = Each f × Each g × Each h
    Each (iff f g) = Each f × Each g
    Each (all b vs f) = Each f

    pub EachOf : Forms B L → Type 0
    EachOf fnil = Unit {0}
    EachOf (fcons f fs) = Each f × EachOf fs

  abbrev mutual
    pub EachN : Normal B L → Type 0
    EachN (lit b t) = P t
    EachN (nmany b ns) = EachNs ns
    EachN (nall b vs n) = EachN n

    pub EachNs : Normals B L → Type 0
    EachNs nnil = Unit {0}
    EachNs (ncons n ns) = EachN n × EachNs ns

  -- ---- an operator's formula: the term itself is a leaf only where that is the formula
  module _ (t : L) where
    -- the formula f of a term t
    abbrev Kept : Form B L → Type 0
    Kept f = (f ≡ opaque t → P t) → Each f

    not-kept : (fs : Forms B L) → EachOf fs → Kept (not_of t fs)
    unfolding not_of
    not-kept fnil o h = h refl
    not-kept (fcons f fnil) o h = o.0
    not-kept (fcons f (fcons g fs)) o h = h refl

    implies-kept : (fs : Forms B L) → EachOf fs → Kept (implies_of t fs)
    unfolding implies_of
    implies-kept fnil o h = h refl
    implies-kept (fcons f fnil) o h = h refl
    implies-kept (fcons f (fcons g fnil)) o h = (o.0, o.1.0)
    implies-kept (fcons f (fcons g (fcons k fs))) o h = h refl

    ite-kept : (fs : Forms B L) → EachOf fs → Kept (ite_of t fs)
    unfolding ite_of
    ite-kept fnil o h = h refl
    ite-kept (fcons f fnil) o h = h refl
    ite-kept (fcons f (fcons g fnil)) o h = h refl
    ite-kept (fcons f (fcons g (fcons k fnil))) o h = (o.0, o.1.0, o.1.1.0)
    ite-kept (fcons f (fcons g (fcons k (fcons l fs)))) o h = h refl

    iff-kept : (fs : Forms B L) → EachOf fs → Kept (iff_of t fs)
    unfolding iff_of
    iff-kept fnil o h = h refl
    iff-kept (fcons f fnil) o h = h refl
    iff-kept (fcons f (fcons g fnil)) o h = (o.0, o.1.0)
    iff-kept (fcons f (fcons g (fcons k fs))) o h = h refl

    cond-kept : (b : Bool) (f g : Form B L) → Kept f → Kept g → Kept (cond b f g)
    cond-kept true f g l r = l
    cond-kept false f g l r = r

    pub form_of-each : (tag : ℕ) (left : Bool) (fs : Forms B L) → EachOf fs → Kept (form_of t tag left fs)
    unfolding form_of
    form_of-each tag left fs o =
        cond-kept (eqb tag 36) _ _ (λ h. o)
        (cond-kept (eqb tag 37) _ _ (λ h. o)
        (cond-kept (eqb tag 39) _ _ (cond-kept left _ _ (iff-kept fs o) (λ h. h refl))
        (cond-kept (eqb tag 34) _ _ (not-kept fs o)
        (cond-kept (eqb tag 35) _ _ (implies-kept fs o)
        (cond-kept (eqb tag 41) _ _ (ite-kept fs o) (λ h. h refl))))))

  -- ---- the normal form and the taken-out form
  mutual
    pub nnf-each : (f : Form B L) (p : Bool) → Each f → EachN (nnf f p)
    nnf-each (opaque t) p o = o
    nnf-each (neg f) p o = nnf-each f (not p) o
    nnf-each (many b fs) p o = nnfs-each fs p o
    nnf-each (imp f g) p o = (nnf-each f (not p) o.0, (nnf-each g p o.1, tt))
    nnf-each (ite f g h) p o =
        ((nnf-each f (not p) o.0, (nnf-each g p o.1, tt)), ((nnf-each f p o.0, (nnf-each h p o.2, tt)), tt))
    nnf-each (iff f g) p o =
        ((nnf-each f (not p) o.0, (nnf-each g p o.1, tt)), ((nnf-each g (not p) o.1, (nnf-each f p o.0, tt)), tt))
    nnf-each (all b vs f) p o = nnf-each f p o

    nnfs-each : (fs : Forms B L) (p : Bool) → EachOf fs → EachNs (nnfs fs p)
    nnfs-each fnil p o = o
    nnfs-each (fcons f fs) p o = (nnf-each f p o.0, nnfs-each fs p o.1)

  mutual
    pub prenex-each : (n : Normal B L) → EachN n → EachN (prenex n)
    prenex-each (lit b t) o = o
    prenex-each (nmany b ns) o = prenexes-each ns o
    prenex-each (nall true vs n) o = prenex-each n o
    prenex-each (nall false vs n) o = o

    prenexes-each : (ns : Normals B L) → EachNs ns → EachNs (prenexes ns)
    prenexes-each nnil o = o
    prenexes-each (ncons n ns) o = (prenex-each n o.0, prenexes-each ns o.1)

  -- ---- clauses
  abbrev pub EachC : Clause B L → Type 0
  EachC [] = Unit {0}
  EachC (l ∷ c) = EachN l × EachC c

  abbrev pub EachCs : List (Clause B L) → Type 0
  EachCs [] = Unit {0}
  EachCs (c ∷ cs) = EachC c × EachCs cs

  join-each : (c d : Clause B L) → EachC c → EachC d → EachC (c ++ d)
  join-each [] d o q = q
  join-each (l ∷ c) d o q = (o.0, join-each c d o.1 q)

  append-each : (cs ds : List (Clause B L)) → EachCs cs → EachCs ds → EachCs (cs ++ ds)
  append-each [] ds o q = q
  append-each (c ∷ cs) ds o q = (o.0, append-each cs ds o.1 q)

  map_each : (c : Clause B L) (ds : List (Clause B L)) → EachC c → EachCs ds → EachCs (map (◌++◌ c) ds)
  map_each c [] o q = tt
  map_each c (d ∷ ds) o q = (join-each c d o q.0, map_each c ds o q.1)

  product_each : (cs ds : List (Clause B L)) → EachCs cs → EachCs ds → EachCs (product cs ds)
  product_each [] ds o q = tt
  product_each (c ∷ cs) ds o q = append-each (map (◌++◌ c) ds) (product cs ds) (map_each c ds o.0 q) (product_each cs ds o.1 q)

  mutual
    pub cnf-each : (n : Normal B L) → EachN n → EachCs (cnf n)
    cnf-each (lit b t) o = ((o, tt), tt)
    cnf-each (nmany true ns) o = cnf_and-each ns o
    cnf-each (nmany false ns) o = cnf_or-each ns o
    cnf-each (nall b vs n) o = ((o, tt), tt)

    cnf_and-each : (ns : Normals B L) → EachNs ns → EachCs (cnf_and ns)
    cnf_and-each nnil o = tt
    cnf_and-each (ncons n ns) o = append-each (cnf n) (cnf_and ns) (cnf-each n o.0) (cnf_and-each ns o.1)

    cnf_or-each : (ns : Normals B L) → EachNs ns → EachCs (cnf_or ns)
    cnf_or-each nnil o = (tt, tt)
    cnf_or-each (ncons n ns) o = product_each (cnf n) (cnf_or ns) (cnf-each n o.0) (cnf_or-each ns o.1)

  mem-each : (c : Clause B L) (cs : List (Clause B L)) → Memᴰ c cs → EachCs cs → EachC c
  mem-each c (d ∷ cs) (Memᴰ.head q) o = subst EachC (sym q) o.0
  mem-each c (d ∷ cs) (Memᴰ.tail m) o = mem-each c cs m o.1
  mem-each c [] x'' o = elim x'' [ ]

  normals-each : (c : Clause B L) → EachC c → EachNs (normals c)
  normals-each [] o = o
  normals-each (l ∷ c) o = (o.0, normals-each c o.1)

  clause_form-each : (c : Clause B L) → EachC c → EachN (clause_form c)
  clause_form-each [] o = o
  clause_form-each (l ∷ []) o = o.0
  clause_form-each (l ∷ (m ∷ c)) o = normals-each (l ∷ (m ∷ c)) o

  -- a clause of the taken-out form
  pub clause-each : (n : Normal B L) (c : Clause B L) → EachN n → Memᴰ c (cnf (prenex n)) → EachN (clause_form c)
  clause-each n c o m = clause_form-each c (mem-each c (cnf (prenex n)) m (cnf-each (prenex n) (prenex-each n o)))

-- ---- the leaves of a term's formula are opaque
mutual
  unfolding skeleton

  pub skeleton-leaves : (t : Term) → Each IsOpaque (skeleton t)
  skeleton-leaves (const k s c) = refl
  skeleton-leaves (bit_vector s w c) = refl
  skeleton-leaves (var v) = refl
  skeleton-leaves (app s f ts) = refl
  skeleton-leaves (quant b s vs t) = skeleton-leaves t
  skeleton-leaves (bind k s vs t) = refl
  skeleton-leaves (letin s ls t) = refl
  skeleton-leaves (op k s ts) = form_of-each IsOpaque (op k s ts) k (left_bool ts) (skeletons ts) (skeletons-leaves ts) (λ e. e)
  skeleton-leaves no_term = refl

  pub skeletons-leaves : (ts : Terms) → EachOf IsOpaque (skeletons ts)
  skeletons-leaves tnil = tt
  skeletons-leaves (tcons t ts) = (skeleton-leaves t, skeletons-leaves ts)
