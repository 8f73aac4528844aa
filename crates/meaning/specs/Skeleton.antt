-- A term's formula, and the term that a normal form is built as.
--     skeleton t     the connectives and quantifiers of t, down to what is opaque
--     IsOpaque t     t is no connective or quantifier
--     build n        the term of the normal form n
--     clause_term c   the term of the clause c
--     clause_terms_of t    the clauses of t, as terms
--     NoForallReached t     no forall is reached after t's normal form
-- 01, "Normal form and clauses": "`not` with 1 operand flips the polarity; `and`, `or` of any length; `=>` with 2; `ite` with 3; `=` with 2
-- whose left has sort Bool; forall and exists. These are the connectives and quantifiers of demand 3. Any other count or term is opaque".
-- Rests on formulas' Formula, Normal and Clauses, and on Reached, Sort and Term.
use Rattle.std.specs.Prelude.{ℕ, ◌≡◌, Bool, true, false, cond, List, [], ◌∷◌, map, eqb}
use Rattle.std.proofs.Math.Bool.{decide}
use Rattle.meaning.specs.Sort.{Sort-discrete, bool}
use Rattle.meaning.specs.Term.{Vars, Term, Terms, const, bit_vector, var, app, quant, bind, letin, op, no_term, tnil, tcons, stated}
use Rattle.formulas.specs.Formula.{Form, Forms, opaque, neg, many, imp, ite, iff, all, fnil, fcons, connective_tag}
use Rattle.formulas.specs.Normal.{Normal, Normals, lit, nmany, nall, nnil, ncons, nnf, prenex}
use Rattle.formulas.specs.Clauses.{Clause, cnf}
use Rattle.meaning.specs.Reached.{reaches_forall}

-- ---- a connective of its operands' formulas; t is the term itself, opaque where the count of operands is another
module _ {B L : Type 0} (t : L) where
  -- `not` with 1
  unfoldable pub not_of : Forms B L → Form B L
  not_of fnil = opaque t
  not_of (fcons f fnil) = neg f
  not_of (fcons f (fcons g fs)) = opaque t

  -- `=>` with 2
  unfoldable pub implies_of : Forms B L → Form B L
  implies_of fnil = opaque t
  implies_of (fcons f fnil) = opaque t
  implies_of (fcons f (fcons g fnil)) = imp f g
  implies_of (fcons f (fcons g (fcons h fs))) = opaque t

  -- `ite` with 3
  unfoldable pub ite_of : Forms B L → Form B L
  ite_of fnil = opaque t
  ite_of (fcons f fnil) = opaque t
  ite_of (fcons f (fcons g fnil)) = opaque t
  ite_of (fcons f (fcons g (fcons h fnil))) = ite f g h
  ite_of (fcons f (fcons g (fcons h (fcons k fs)))) = opaque t

  -- `=` with 2
  unfoldable pub iff_of : Forms B L → Form B L
  iff_of fnil = opaque t
  iff_of (fcons f fnil) = opaque t
  iff_of (fcons f (fcons g fnil)) = iff f g
  iff_of (fcons f (fcons g (fcons h fs))) = opaque t

  -- by the operator's tag; left says whether the first operand has sort Bool
  unfoldable pub form_of : ℕ → Bool → Forms B L → Form B L
  form_of tag left fs =
      cond (eqb tag 36) (many true fs)
      (cond (eqb tag 37) (many false fs)
      (cond (eqb tag 39) (cond left (iff_of fs) (opaque t))
      (cond (eqb tag 34) (not_of fs)
      (cond (eqb tag 35) (implies_of fs)
      (cond (eqb tag 41) (ite_of fs)
      (opaque t))))))

-- the first operand states the sort Bool
unfoldable pub left_bool : Terms → Bool
unfolding decide
left_bool tnil = false
left_bool (tcons t ts) = decide (Sort-discrete (stated t) bool)

unfoldable mutual
  pub skeleton : Term → Form Vars Term
  skeleton (const k s c) = opaque (const k s c)
  skeleton (bit_vector s w c) = opaque (bit_vector s w c)
  skeleton (var v) = opaque (var v)
  skeleton (app s f ts) = opaque (app s f ts)
  skeleton (quant b s vs t) = all b vs (skeleton t)
  skeleton (bind k s vs t) = opaque (bind k s vs t)
  skeleton (letin s ls t) = opaque (letin s ls t)
  skeleton (op k s ts) = form_of (op k s ts) k (left_bool ts) (skeletons ts)
  skeleton no_term = opaque no_term

  pub skeletons : Terms → Forms Vars Term
  skeletons tnil = fnil
  skeletons (tcons t ts) = fcons (skeleton t) (skeletons ts)

-- demand 3: "a term that is no connective or quantifier": nothing of it but itself is in its formula
abbrev pub IsOpaque : Term → Type 0
IsOpaque t = skeleton t ≡ opaque t

-- ---- a literal is the term, or `not` of it; new terms state the sort Bool
abbrev mutual
  pub build : Normal Vars Term → Term
  build (lit true t) = t
  build (lit false t) = op 34 bool (tcons t tnil)
  build (nmany b ns) = op (connective_tag b) bool (builds ns)
  build (nall b vs n) = quant b bool vs (build n)

  pub builds : Normals Vars Term → Terms
  builds nnil = tnil
  builds (ncons n ns) = tcons (build n) (builds ns)

-- ---- rule 3: "A one-literal clause is the literal, a longer one an `or`."
module _ {B L : Type 0} where
  abbrev pub normals : Clause B L → Normals B L
  normals [] = nnil
  normals (l ∷ c) = ncons l (normals c)

  abbrev pub clause_form : Clause B L → Normal B L
  clause_form [] = nmany false nnil
  clause_form (l ∷ []) = l
  clause_form (l ∷ (m ∷ c)) = nmany false (normals (l ∷ (m ∷ c)))

abbrev pub clause_term : Clause Vars Term → Term
clause_term c = build (clause_form c)

-- ---- the clauses of a term: those of its normal form at true polarity with foralls taken out
abbrev pub clause_terms_of : Term → List (List Term)
clause_terms_of t = map (map build) (cnf (prenex (nnf (skeleton t) true)))

-- S-1: "a formula in which .. no forall is reached after the normal form"
abbrev pub NoForallReached : Term → Type 0
NoForallReached t = reaches_forall (nnf (skeleton t) true) ≡ false
