-- Formulas as they are written, for cases by computation; the number of operands.
-- Rests on meaning's Sort and Term.
use Rattle.std.specs.Prelude.{ℕ, suc, List, [], ◌∷◌}
use Rattle.meaning.specs.Sort.{bool}
use Rattle.meaning.specs.Term.{Term, Terms, var, op, tnil, tcons}

-- a variable of sort Bool
abbrev pub variable : ℕ → Term
variable name = var (record { name = name; sort = bool })

abbrev pub operands : List Term → Terms
operands [] = tnil
operands (t ∷ ts) = tcons t (operands ts)

abbrev pub term_count : Terms → ℕ
term_count tnil = 0
term_count (tcons t ts) = suc (term_count ts)

abbrev pub not' : Term → Term
not' t = op 34 bool (operands (t ∷ []))

abbrev pub implies' : Term → Term → Term
implies' t u = op 35 bool (operands (t ∷ u ∷ []))

abbrev pub and' : List Term → Term
and' ts = op 36 bool (operands ts)

abbrev pub or' : List Term → Term
or' ts = op 37 bool (operands ts)

abbrev pub equals : List Term → Term
equals ts = op 39 bool (operands ts)

abbrev pub ite' : Term → Term → Term → Term
ite' t u w = op 41 bool (operands (t ∷ u ∷ w ∷ []))
