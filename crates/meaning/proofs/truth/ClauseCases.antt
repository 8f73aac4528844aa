-- The premise on foralls is needed, and a forall under exists is no obstacle.
--     forall-needed         the clause x has not the value of (forall (x) x)
--     under-exists-says     the clauses of (exists (x) (forall (y) y)) have its value
-- Assumes nothing.
use mathlib.Core.Path.{◌≡◌, refl, sym, subst, ◌∙◌}
use mathlib.Core.Bool.{true, true≢false}
use mathlib.Core.List.{List, [], ◌∷◌}
use Rattle.meaning.specs.Term.{Term, var}
use Rattle.meaning.specs.Skeleton.{skeleton, clause_terms_of}
use Rattle.meaning.specs.Truth.{True, each_some_true}
use Rattle.meaning.specs.TruthCases.{two_values, x, forall-false}
use Rattle.meaning.specs.Numbered.{numbered, ClausesSay}
use Rattle.meaning.specs.ClauseCases.{every_x, forall-clauses, some_every, under-exists}
use Rattle.meaning.proofs.truth.Numbered.{every-clauses}
use Rattle.meaning.proofs.truth.ClauseTruth.{clauses-truth}

-- where x is true, so is its clause, and the formula is false
x-true : each_some_true two_values ((var x ∷ []) ∷ []) (λ v. true) ≡ true
unfolding True skeleton
x-true = refl

pub forall-needed : ClausesSay (clause_terms_of every_x) every_x → ⊥
forall-needed h =
    let says : ClausesSay ((var x ∷ []) ∷ []) every_x = subst (λ (cs : List (List Term)). ClausesSay cs every_x) forall-clauses h in
    true≢false (sym x-true ∙ (every-clauses ((var x ∷ []) ∷ []) every_x says two_values (λ v. true) ∙ forall-false (λ v. true)))

pub under-exists-says : ClausesSay (clause_terms_of some_every) some_every
under-exists-says N = clauses-truth (numbered N) some_every under-exists
