-- The negation normal form of a formula, and what is left when its foralls are taken out.
-- 01, "Normal form and clauses": "`negation_normal_form`: .. opaque, and negated at false polarity." "`prenex_forall` walks `and`, `or` and
-- forall only." Alethe, rule qnt_cnf: negation normal form, then the prenexing of the universal quantifiers.
-- Rests on Formula.
use Rattle.std.specs.Prelude.{Bool, true, false, not, List, [], ◌++◌}
use Rattle.formulas.specs.Formula.{Form, Forms, opaque, neg, many, imp, ite, iff, all, fnil, fcons}

-- a literal is an opaque term, or (false) its negation
mutual
  pub data Normal (B L : Type 0) : Type 0 where
    lit : Bool → L → Normal B L
    nmany : Bool → Normals B L → Normal B L  -- and (true), or (false)
    nall : Bool → B → Normal B L → Normal B L  -- forall (true), exists (false)

  pub data Normals (B L : Type 0) : Type 0 where
    nnil : Normals B L
    ncons : Normal B L → Normals B L → Normals B L

-- a connective or a quantifier keeps its kind at true polarity, and changes it at false
abbrev pub flip : Bool → Bool → Bool
flip b true = b
flip b false = not b

module _ {B L : Type 0} where
  abbrev pub pair : Bool → Normal B L → Normal B L → Normal B L
  pair b f g = nmany b (ncons f (ncons g nnil))

  abbrev mutual
    pub nnf : Form B L → Bool → Normal B L
    nnf (opaque t) p = lit p t
    nnf (neg f) p = nnf f (not p)
    nnf (many b fs) p = nmany (flip b p) (nnfs fs p)
    nnf (imp f g) p = pair (not p) (nnf f (not p)) (nnf g p)
    nnf (ite f g h) p = pair p (pair (not p) (nnf f (not p)) (nnf g p)) (pair (not p) (nnf f p) (nnf h p))
    nnf (iff f g) p = pair p (pair (not p) (nnf f (not p)) (nnf g p)) (pair (not p) (nnf g (not p)) (nnf f p))
    nnf (all b vs f) p = nall (flip b p) vs (nnf f p)

    pub nnfs : Forms B L → Bool → Normals B L
    nnfs fnil p = nnil
    nnfs (fcons f fs) p = ncons (nnf f p) (nnfs fs p)

  -- ---- foralls taken out, through `and`, `or` and forall alone
  abbrev mutual
    pub prenex : Normal B L → Normal B L
    prenex (lit b t) = lit b t
    prenex (nmany b ns) = nmany b (prenexes ns)
    prenex (nall true vs n) = prenex n
    prenex (nall false vs n) = nall false vs n

    pub prenexes : Normals B L → Normals B L
    prenexes nnil = nnil
    prenexes (ncons n ns) = ncons (prenex n) (prenexes ns)

  -- the binding lists taken out, outer before inner, operands left to right; list gives a binding list's variables
  module _ {A : Type 0} (list : B → List A) where
    abbrev mutual
      pub taken : Normal B L → List A
      taken (lit b t) = []
      taken (nmany b ns) = takens ns
      taken (nall true vs n) = list vs ++ taken n
      taken (nall false vs n) = []

      pub takens : Normals B L → List A
      takens nnil = []
      takens (ncons n ns) = taken n ++ takens ns
