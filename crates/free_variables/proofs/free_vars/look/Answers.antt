use borrow.Author.Rules.{rules}
use borrow.Author.Tests.{eqb-true}
use mathlib.Core.Path.{sym, ◌∙◌}
use Rattle.free_variables.proofs.free_vars.Laws.{looks, look_self}
use Rattle.free_variables.proofs.free_vars.look.Goals as goal
use Rattle.free_variables.proofs.free_vars.look.Goals.{then-tag-lt-FORALL-via-then-tag-lt-FORALL, then-tag-lt-FORALL-via-else-tag-lt-FORALL+then-tag-ge-BINDERS_END}

pub returns-then-eq : goal.returns-then-eq
returns-then-eq c = look_self _ _ _ _ (eqb-true _ _ (sym c.eq.ensures ∙ c.if-eq.true))

pub returns-then-tag-lt-APPLICATION : goal.returns-then-tag-lt-APPLICATION
returns-then-tag-lt-APPLICATION c = search (looks, rules)

pub returns-then-tag-lt-FORALL : goal.returns-then-tag-lt-FORALL
returns-then-tag-lt-FORALL c = elim c.then-tag-lt-FORALL.branch [ then-tag-lt-FORALL-via-then-tag-lt-FORALL w ↦ search (looks, rules) | then-tag-lt-FORALL-via-else-tag-lt-FORALL+then-tag-ge-BINDERS_END w ↦ search (looks, rules) ]
