-- A normal form, read back from the term that it builds: its `and`, `or` and forall, down to other terms.
--     read_term t          t read so
--     leafed n            n, whose literals, and whose exists, are the terms that they build
--     read-build          the term of n is read as leafed n
--     read-taken-out      the term of the taken-out form of leafed n is read as that form
--     taken-leafed        the variables taken out of leafed n are those of n
--     clauses-leafed      the clauses of leafed n are those of n, whose literals are the terms that they build
-- All of this where each leaf of n is read as itself; opaque terms are.
-- Assumes nothing.
use Prim.Native.Nat.{ℕ}
use mathlib.Core.Path.{◌≡◌, refl, sym, ap, ap₂, ◌∙◌}
use mathlib.Core.Bool.{Bool, true, false, cond}
use mathlib.Core.List.{List, ◌++◌, map, map-append}
use lib.Dec.{eqb}
use native.Mathlib.Omega.{arith}
use Rattle.cells.specs.ByPlace.{by-test}
use Rattle.meaning.specs.Term.{Vars, Term, Terms, const, bit_vector, var, app, quant, bind, letin, op, no_term, tnil, tcons}
use Rattle.formulas.specs.Normal.{Normal, Normals, lit, nmany, nall, nnil, ncons, nnf, prenex, prenexes, taken, takens}
use Rattle.formulas.specs.Clauses.{product, cnf, cnf_and, cnf_or}
use Rattle.meaning.specs.Skeleton.{skeleton, IsOpaque, form_of, build, builds}
use Rattle.meaning.proofs.truth.Leaves.{EachN, EachNs, nnf-each, skeleton-leaves}
use Rattle.meaning.proofs.places.Mapped.{product-map}

-- an operator's term t with the tag k, from what is read of its operands
unfoldable pub read_op : Term → ℕ → Normals Vars Term → Normal Vars Term
read_op t k ns = cond (eqb k 36) (nmany true ns) (cond (eqb k 37) (nmany false ns) (lit true t))

unfoldable mutual
  pub read_term : Term → Normal Vars Term
  read_term (const k s c) = lit true (const k s c)
  read_term (bit_vector s w c) = lit true (bit_vector s w c)
  read_term (var v) = lit true (var v)
  read_term (app s f ts) = lit true (app s f ts)
  read_term (quant true s vs t) = nall true vs (read_term t)
  read_term (quant false s vs t) = lit true (quant false s vs t)
  read_term (bind k s vs t) = lit true (bind k s vs t)
  read_term (letin s ls t) = lit true (letin s ls t)
  read_term (op k s ts) = read_op (op k s ts) k (read_terms ts)
  read_term no_term = lit true no_term

  pub read_terms : Terms → Normals Vars Term
  read_terms tnil = nnil
  read_terms (tcons t ts) = ncons (read_term t) (read_terms ts)

-- the term of a literal, or of an exists, as a literal
abbrev pub leaf_of : Normal Vars Term → Normal Vars Term
leaf_of l = lit true (build l)

abbrev mutual
  pub leafed : Normal Vars Term → Normal Vars Term
  leafed (lit b t) = leaf_of (lit b t)
  leafed (nmany b ns) = nmany b (leafeds ns)
  leafed (nall true vs n) = nall true vs (leafed n)
  leafed (nall false vs n) = leaf_of (nall false vs n)

  pub leafeds : Normals Vars Term → Normals Vars Term
  leafeds nnil = nnil
  leafeds (ncons n ns) = ncons (leafed n) (leafeds ns)

-- ---- leaves
abbrev pub IsLeaf : Term → Type 0
IsLeaf t = read_term t ≡ lit true t

-- a term that is no `and` or `or` to its formula is read as itself
op-leaf : (t : Term) (k : ℕ) (ns : Normals Vars Term) → (eqb k 36 ≡ true → ⊥) → (eqb k 37 ≡ true → ⊥) → read_op t k ns ≡ lit true t
unfolding read_op
op-leaf t k ns a o = by-test (eqb k 36) (λ e. absurd (a e)) (λ e. by-test (eqb k 37) (λ f. absurd (o f)) (λ f. rw (e, f)))

pub opaque-leaf : (t : Term) → IsOpaque t → IsLeaf t
unfolding read_term skeleton form_of
opaque-leaf (const k s c) e = refl
opaque-leaf (bit_vector s w c) e = refl
opaque-leaf (var v) e = refl
opaque-leaf (app s f ts) e = refl
opaque-leaf (quant true s vs t) e = let z : ◌≡◌ {A = ℕ} 0 1 = cc in absurd (omega arith)
opaque-leaf (quant false s vs t) e = refl
opaque-leaf (bind k s vs t) e = refl
opaque-leaf (letin s ls t) e = refl
opaque-leaf (op k s ts) e =
    op-leaf (op k s ts) k _
    (λ a. let d = rw a at e in let z : ◌≡◌ {A = ℕ} 0 1 = cc in absurd (omega arith))
    (λ o. by-test (eqb k 36)
    (λ a. let d = rw a at e in let z : ◌≡◌ {A = ℕ} 0 1 = cc in absurd (omega arith))
    (λ a. let d = rw (a, o) at e in let z : ◌≡◌ {A = ℕ} 0 1 = cc in absurd (omega arith)))
opaque-leaf no_term e = refl

mutual
  opaque-leaves : (n : Normal Vars Term) → EachN IsOpaque n → EachN IsLeaf n
  opaque-leaves (lit b t) o = opaque-leaf t o
  opaque-leaves (nmany b ns) o = all-opaque-leaves ns o
  opaque-leaves (nall b vs n) o = opaque-leaves n o

  all-opaque-leaves : (ns : Normals Vars Term) → EachNs IsOpaque ns → EachNs IsLeaf ns
  all-opaque-leaves nnil o = tt
  all-opaque-leaves (ncons n ns) o = (opaque-leaves n o.0, all-opaque-leaves ns o.1)

-- the leaves of a term's normal form
pub normal-leaves : (t : Term) (p : Bool) → EachN IsLeaf (nnf (skeleton t) p)
normal-leaves t p = opaque-leaves (nnf (skeleton t) p) (nnf-each IsOpaque (skeleton t) p (skeleton-leaves t))

-- ---- the term of a normal form
mutual
  unfolding read_term read_op

  pub read-build : (n : Normal Vars Term) → EachN IsLeaf n → read_term (build n) ≡ leafed n
  read-build (lit true t) o = o
  read-build (lit false t) o = refl
  read-build (nmany true ns) o = ap (nmany true) (reads-build ns o)
  read-build (nmany false ns) o = ap (nmany false) (reads-build ns o)
  read-build (nall true vs n) o = ap (nall true vs) (read-build n o)
  read-build (nall false vs n) o = refl

  reads-build : (ns : Normals Vars Term) → EachNs IsLeaf ns → read_terms (builds ns) ≡ leafeds ns
  reads-build nnil o = refl
  reads-build (ncons n ns) o = ap₂ ncons (read-build n o.0) (reads-build ns o.1)

-- ---- the term of its taken-out form: `and` and `or` of terms that are read as themselves
abbrev mutual
  Plain : Normal Vars Term → Type 0
  Plain (lit true t) = IsLeaf t
  Plain (lit false t) = ⊥
  Plain (nmany b ns) = Plains ns
  Plain (nall b vs n) = ⊥

  Plains : Normals Vars Term → Type 0
  Plains nnil = Unit {0}
  Plains (ncons n ns) = Plain n × Plains ns

mutual
  unfolding read_term read_op

  read_plain : (n : Normal Vars Term) → Plain n → read_term (build n) ≡ n
  read_plain (lit true t) o = o
  read_plain (lit false t) o = absurd o
  read_plain (nmany true ns) o = ap (nmany true) (reads_plain ns o)
  read_plain (nmany false ns) o = ap (nmany false) (reads_plain ns o)
  read_plain (nall b vs n) o = absurd o

  reads_plain : (ns : Normals Vars Term) → Plains ns → read_terms (builds ns) ≡ ns
  reads_plain nnil o = refl
  reads_plain (ncons n ns) o = ap₂ ncons (read_plain n o.0) (reads_plain ns o.1)

mutual
  unfolding read_term read_op

  taken-out-plain : (n : Normal Vars Term) → EachN IsLeaf n → Plain (prenex (leafed n))
  taken-out-plain (lit true t) o = o
  taken-out-plain (lit false t) o = refl
  taken-out-plain (nmany b ns) o = all-taken-out-plain ns o
  taken-out-plain (nall true vs n) o = taken-out-plain n o
  taken-out-plain (nall false vs n) o = refl

  all-taken-out-plain : (ns : Normals Vars Term) → EachNs IsLeaf ns → Plains (prenexes (leafeds ns))
  all-taken-out-plain nnil o = tt
  all-taken-out-plain (ncons n ns) o = (taken-out-plain n o.0, all-taken-out-plain ns o.1)

pub read-taken-out : (n : Normal Vars Term) → EachN IsLeaf n → read_term (build (prenex (leafed n))) ≡ prenex (leafed n)
read-taken-out n o = read_plain (prenex (leafed n)) (taken-out-plain n o)

-- ---- what is taken out, and the clauses
module _ {A : Type 0} (list : Vars → List A) where
  mutual
    pub taken-leafed : (n : Normal Vars Term) → taken list (leafed n) ≡ taken list n
    taken-leafed (lit b t) = refl
    taken-leafed (nmany b ns) = takens-leafed ns
    taken-leafed (nall true vs n) = ap (◌++◌ (list vs)) (taken-leafed n)
    taken-leafed (nall false vs n) = refl

    takens-leafed : (ns : Normals Vars Term) → takens list (leafeds ns) ≡ takens list ns
    takens-leafed nnil = refl
    takens-leafed (ncons n ns) = ap₂ ◌++◌ (taken-leafed n) (takens-leafed ns)

mutual
  pub clauses-leafed : (n : Normal Vars Term) → cnf (prenex (leafed n)) ≡ map (map leaf_of) (cnf (prenex n))
  clauses-leafed (lit b t) = refl
  clauses-leafed (nmany true ns) = and-leafed ns
  clauses-leafed (nmany false ns) = or-leafed ns
  clauses-leafed (nall true vs n) = clauses-leafed n
  clauses-leafed (nall false vs n) = refl

  and-leafed : (ns : Normals Vars Term) → cnf_and (prenexes (leafeds ns)) ≡ map (map leaf_of) (cnf_and (prenexes ns))
  and-leafed nnil = refl
  and-leafed (ncons n ns) =
      ap₂ ◌++◌ (clauses-leafed n) (and-leafed ns) ∙ sym (map-append (map leaf_of) (cnf (prenex n)) (cnf_and (prenexes ns)))

  or-leafed : (ns : Normals Vars Term) → cnf_or (prenexes (leafeds ns)) ≡ map (map leaf_of) (cnf_or (prenexes ns))
  or-leafed nnil = refl
  or-leafed (ncons n ns) = ap₂ product (clauses-leafed n) (or-leafed ns) ∙ sym (product-map leaf_of (cnf (prenex n)) (cnf_or (prenexes ns)))
