-- Cases of clauses and of the foralls that are reached: each line is shown by computation.
--
--     (forall (x) x)                    reaches a forall; its clause is x
--     (not (exists (x) x))              reaches one
--     (exists (x) (forall (y) y))       reaches none: it is its own clause
--     (and x (or))                      has the clauses x and the empty one
--
-- proofs/ClauseCases.antt: the first formula's clause has not its value, the third's has.
-- Rests on formulas' Normal, and on Reached, Sort, Term, Skeleton and TruthCases.
use Rattle.std.specs.Prelude.{◌≡◌, refl, true, false, [], ◌∷◌}
use Rattle.meaning.specs.Sort.{bool}
use Rattle.meaning.specs.Term.{Var, Term, var, quant, op, tnil, tcons}
use Rattle.formulas.specs.Normal.{nnf}
use Rattle.meaning.specs.Reached.{reaches_forall}
use Rattle.meaning.specs.Skeleton.{skeleton, form_of, not_of, clause_terms_of, NoForallReached}
use Rattle.meaning.specs.TruthCases.{x}

abbrev y : Var
y = record { name = 2; sort = bool }

-- ---- a forall
abbrev pub every_x : Term
every_x = quant true bool (x ∷ []) (var x)

pub forall-reached : reaches_forall (nnf (skeleton every_x) true) ≡ true
unfolding skeleton
forall-reached = refl

pub forall-clauses : clause_terms_of every_x ≡ (var x ∷ []) ∷ []
unfolding skeleton
forall-clauses = refl

pub denied-reached : reaches_forall (nnf (skeleton (op 34 bool (tcons (quant false bool (x ∷ []) (var x)) tnil))) true) ≡ true
unfolding skeleton form_of not_of
denied-reached = refl

-- ---- one under exists
abbrev pub some_every : Term
some_every = quant false bool (x ∷ []) (quant true bool (y ∷ []) (var y))

pub under-exists : NoForallReached some_every
unfolding skeleton
under-exists = refl

pub exists-clauses : clause_terms_of some_every ≡ (some_every ∷ []) ∷ []
unfolding skeleton
exists-clauses = refl

-- ---- an empty `or`
pub empty-clause : clause_terms_of (op 36 bool (tcons (var x) (tcons (op 37 bool tnil) tnil))) ≡ (var x ∷ []) ∷ [] ∷ []
unfolding skeleton form_of
empty-clause = refl
