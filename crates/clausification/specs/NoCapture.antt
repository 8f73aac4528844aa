-- The premise of rule 3's soundness.
-- Demand 3: "for clausification, no variable taken out of an inner quantifier is free in the left quantified formula." 01: "In rule 3 the left
-- quantified formula is l, and a variable is taken out if it is bound by a forall reached through `and`, `or` and forall from the normal form
-- of l's body at true polarity."
-- Rests on formulas' Normal, and on meaning's Sort, Term, Skeleton and FreeTree.
use Rattle.std.specs.Prelude.{◌≡◌, true, false}
use Rattle.meaning.specs.Sort.{Sort}
use Rattle.meaning.specs.Term.{Var, Vars, Term, quant, op, tnil, tcons}
use Rattle.meaning.specs.FreeTree.{has, free}
use Rattle.formulas.specs.Normal.{nnf, taken}
use Rattle.meaning.specs.Skeleton.{skeleton}

-- the conclusion c is `(or (not l) r)`
abbrev pub NoCapture : Term → Type 0
NoCapture c =
    (s s' s'' : Sort) (ls : Vars) (t r : Term) → c ≡ op 37 s (tcons (op 34 s' (tcons (quant true s'' ls t) tnil)) (tcons r tnil))
    → (v : Var) → has (taken (λ (vs : Vars). vs) (nnf (skeleton t) true)) v ≡ true → free (quant true s'' ls t) v ≡ false
