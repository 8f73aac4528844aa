use mathlib.Core.Path.{◌≡◌}
use lib.ListN.{drop}
use Rattle.clauses.specs.ClauseList.{choose}
use Rattle.clauses.proofs.conjunctive_normal_form.choose.Given as goal

abbrev pub invariant-loop-u : goal.invariant-loop-u
invariant-loop-u l = choose l.memo l.run l.i ≡ choose l.memo (drop l.u-index l.run) l.left
